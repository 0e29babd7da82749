-- The lines of machines, and what follows after some of them.
use Rattle.std.proofs.Common.{◌≡◌, ℕ, suc, ◌+◌, ◌<◌, ◌^◌, List, [], ◌∷◌, ◌++◌, append_assoc, append-nil, length, get_or, codes, Option, Some, None, refl, sym, ap, ◌∙◌, subst, arith}
use Rattle.std.specs.List.{All}
use Rattle.std.specs.Fmt.{decimal}
use Rattle.std.proofs.lemmas.Fmt.{decimal_injective}
use Rattle.std.proofs.lemmas.List.{length-append, append_cancel_left}
use Rattle.std.proofs.lemmas.List.Elements.{All-nil, All-cons, All-weaker}
use Rattle.word_core.specs.declared.names.Kind.{Kind}
use Rattle.word_core.specs.declared.names.Names.{Names}
use Rattle.word_core.specs.declared.names.Player.{Player}
use Rattle.word_core.specs.declared.names.Player.TheVariants.{System, Environment}
use Rattle.word_core.specs.Machine.{MachineData, IsLine, own_of, other_of, own_width, other_width}
use Rattle.machine_text.specs.declared.errors.MachineError.{MachineError}
use Rattle.machine_text.specs.declared.errors.MachineError.TheVariants as error
use Rattle.machine_text.specs.declared.reading.Entry.{Entry}
use Rattle.machine_text.specs.Lines.{joined, NextIsNone, IsBadLine}
use Rattle.machine_text.specs.Machines.{kind_of, owner_text, names_text, count_text, states_lines, verdict_text, bound_text, heading_lines, machine_lines, IsHeading, IsDraft, IsMachineLines, Spells, HasMachineFault}
use Rattle.machine_text.specs.Reading.{IsEntry, IsEntryLine, IsOwnerLine, IsVerdictLine, IsNumberLine, IsCountLine, IsLed, HasNoOwner, AreRead, HasEntryFault, HasMakeFault, entry_lines, spread, last_state, Ascends}
use Rattle.machine_text.specs.Reading.HasNoOwner.{at_once, no_bound, no_owner}
use Rattle.machine_text.proofs.FieldLaws.{same_head, same_tail, nil_cons}
use Rattle.machine_text.proofs.LineLaws.{joined_append}
use Rattle.machine_text.proofs.HeadLaws.{joined_cons}
use Rattle.machine_text.proofs.GroupLaws.{made}
use Rattle.machine_text.proofs.EntryLaws.{behind_entries, flat, flat_text, flat_ascends, flat_ranged, spread_lines, spread_ranged, spread_length}

-- the first line tells the player, and isn't a verdict
pub owner_same : (p q : Player) (k j : Kind) → owner_text p k ≡ owner_text q j → p ≡ q
owner_same System System k j e = refl
owner_same System Environment k j e = absurd (let f : 115 ≡ 101 = ap (λ l. get_or l 8 0) e in omega (arith, f))
owner_same Environment System k j e = absurd (let f : 101 ≡ 115 = ap (λ l. get_or l 8 0) e in omega (arith, f))
owner_same Environment Environment k j e = refl

pub not_owner : (p q : Player) (k : Kind) → verdict_text p ≡ owner_text q k → ⊥
not_owner System q k e = let f : 82 ≡ 109 = ap (λ l. get_or l 0 0) e in omega (arith, f)
not_owner Environment q k e = let f : 85 ≡ 109 = ap (λ l. get_or l 0 0) e in omega (arith, f)

-- the lines behind that of the player
abbrev pub tail_lines : Names → MachineData → List (List ℕ)
tail_lines names m =
    names_text (codes "inputs") names.inputs.items
    ∷ names_text (codes "outputs") names.outputs.items
    ∷ count_text (length m.states)
    ∷ states_lines (own_of m) (other_of m) 0 m.states

pub heads_same : (h g : Option (Player × ℕ)) (p q : Player) (k j : Kind) (a b : List (List ℕ)) → heading_lines h ++ owner_text p k ∷ a ≡ heading_lines g ++ owner_text q j ∷ b → (p ≡ q) × (a ≡ b)
heads_same None None p q k j a b e = (owner_same p q k j (same_head _ _ _ _ e), same_tail _ _ _ _ e)
heads_same None (Some g) p q k j a b e = absurd (not_owner g.0 p k (sym (same_head _ _ _ _ e)))
heads_same (Some h) None p q k j a b e = absurd (not_owner h.0 q j (same_head _ _ _ _ e))
heads_same (Some h) (Some g) p q k j a b e =
    let f = same_tail _ _ _ _ (same_tail _ _ _ _ e) in
    (owner_same p q k j (same_head _ _ _ _ f), same_tail _ _ _ _ f)

-- a draft with one state that has no line
abbrev small : Names → Player → MachineData
small names p = made p (kind_of names.target p) (length names.inputs.items) (length names.outputs.items) ([] ∷ [])

small_draft : (names : Names) (p : Player) → IsDraft names (small names p)
small_draft names p = record {
  kind = refl;
  inputs = refl;
  outputs = refl;
  begins = omega arith;
  counted = omega arith;
  ranged = All-cons (All (IsLine (own_of (small names p)) (other_of (small names p)) 1)) [] [] (All-nil (IsLine (own_of (small names p)) (other_of (small names p)) 1)) (All-nil (All (IsLine (own_of (small names p)) (other_of (small names p)) 1)));
}

not_start : (names : Names) (h : Option (Player × ℕ)) (m : MachineData) → [] ≡ heading_lines h ++ machine_lines names m → ⊥
not_start names None m e = nil_cons _ _ e
not_start names (Some h) m e = nil_cons _ _ e

first_is : (names : Names) (line : List ℕ) (more : List (List ℕ)) (h : Option (Player × ℕ)) (m : MachineData) → IsDraft names m → line ∷ more ≡ heading_lines h ++ machine_lines names m → (IsVerdictLine line → ⊥) → (IsOwnerLine names.target line → ⊥) → ⊥
first_is names line more None m d e a b = b (m.player, same_head _ _ _ _ e ∙ ap (owner_text m.player) d.kind)
first_is names line more (Some h) m d e a b = a (h.0, same_head _ _ _ _ e)

second_is : (names : Names) (p : Player) (line : List ℕ) (more : List (List ℕ)) (h : Option (Player × ℕ)) (m : MachineData) → IsHeading h → verdict_text p ∷ line ∷ more ≡ heading_lines h ++ machine_lines names m → IsNumberLine (codes "bound ") line
second_is names p line more None m b e = absurd (not_owner p m.player m.kind (same_head _ _ _ _ e))
second_is names p line more (Some h) m b e = (h.1, b, same_head _ _ _ _ (same_tail _ _ _ _ e))

not_second : (names : Names) (p : Player) (h : Option (Player × ℕ)) (m : MachineData) → verdict_text p ∷ [] ≡ heading_lines h ++ machine_lines names m → ⊥
not_second names p None m e = nil_cons _ _ (same_tail _ _ _ _ e)
not_second names p (Some h) m e = nil_cons _ _ (same_tail _ _ _ _ e)

third_is : (names : Names) (p : Player) (bound line : List ℕ) (more : List (List ℕ)) (h : Option (Player × ℕ)) (m : MachineData) → IsDraft names m → verdict_text p ∷ bound ∷ line ∷ more ≡ heading_lines h ++ machine_lines names m → IsOwnerLine names.target line
third_is names p bound line more None m d e = absurd (not_owner p m.player m.kind (same_head _ _ _ _ e))
third_is names p bound line more (Some h) m d e =
    (m.player, same_head _ _ _ _ (same_tail _ _ _ _ (same_tail _ _ _ _ e)) ∙ ap (owner_text m.player) d.kind)

not_third : (names : Names) (p : Player) (bound : List ℕ) (h : Option (Player × ℕ)) (m : MachineData) → verdict_text p ∷ bound ∷ [] ≡ heading_lines h ++ machine_lines names m → ⊥
not_third names p bound None m e = nil_cons _ _ (same_tail _ _ _ _ (same_tail _ _ _ _ e))
not_third names p bound (Some h) m e = nil_cons _ _ (same_tail _ _ _ _ (same_tail _ _ _ _ e))

-- the line of the player isn't found
pub owner_fault : (names : Names) (text : List ℕ) (taken n : ℕ) → taken ≡ 0 → HasNoOwner names.target text taken n → IsBadLine (IsMachineLines names) text n
owner_fault names text taken _ z (at_once a b) = record {
  before = [];
  rest = text;
  place = omega arith;
  parts = refl;
  begins = (machine_lines names (small names System), (None, small names System, tt, small_draft names System, refl));
  open_end = λ e t. not_start names t.0 t.1 t.4;
  stops = λ line rest w e t. first_is names line t.0 t.1.0 t.1.1 t.1.3 t.1.4 (a line rest w e) (b line rest w e);
}
owner_fault names text taken _ z (no_bound p rest t none) = record {
  before = verdict_text p ∷ [];
  rest = rest;
  place = omega arith;
  parts = t ∙ sym (joined_cons (verdict_text p) [] rest);
  begins = (bound_text 0 ∷ machine_lines names (small names System), (Some (p, 0), small names System, omega arith, small_draft names System, refl));
  open_end = λ e s. not_second names p s.0 s.1 s.4;
  stops = λ line more w e s. none line more w e (second_is names p line s.0 s.1.0 s.1.1 s.1.2 s.1.4);
}
owner_fault names text taken _ z (no_owner p bound rest l t none) = record {
  before = verdict_text p ∷ bound_text bound ∷ [];
  rest = rest;
  place = omega arith;
  parts = t ∙ ap (λ r. verdict_text p ++ 10 ∷ r) (sym (joined_cons (bound_text bound) [] rest)) ∙ sym (joined_cons (verdict_text p) (bound_text bound ∷ []) rest);
  begins = (machine_lines names (small names System), (Some (p, bound), small names System, l, small_draft names System, refl));
  open_end = λ e s. not_third names p (bound_text bound) s.0 s.1 s.4;
  stops = λ line more w e s. none line more w e (third_is names p (bound_text bound) line s.0 s.1.0 s.1.1 s.1.3 s.1.4);
}

-- lines from that of the player on, in a text of the grammar
abbrev GoesOn : Names → Player → List (List ℕ) → List ℕ → Type 0
GoesOn names p pre line =
    (more : List (List ℕ)) × (m : MachineData) × IsDraft names m × (m.player ≡ p) × (pre ++ line ∷ more ≡ tail_lines names m)

regroup : (hs : List (List ℕ)) (o : List ℕ) (pre : List (List ℕ)) (line : List ℕ) (more : List (List ℕ)) → ((hs ++ o ∷ pre) ++ line ∷ []) ++ more ≡ hs ++ o ∷ (pre ++ line ∷ more)
regroup hs o pre line more = append_assoc (hs ++ o ∷ pre) (line ∷ []) more ∙ append_assoc hs (o ∷ pre) (line ∷ more)

led_joined : (hs : List (List ℕ)) (o : List ℕ) (pre : List (List ℕ)) (rest : List ℕ) → joined (hs ++ o ∷ []) ++ (joined pre ++ rest) ≡ joined (hs ++ o ∷ pre) ++ rest
led_joined hs o pre rest =
    sym (append_assoc (joined (hs ++ o ∷ [])) (joined pre) rest)
    ∙ ap (λ t. t ++ rest) (sym (joined_append (hs ++ o ∷ []) pre) ∙ ap joined (append_assoc hs (o ∷ []) pre))

led_length : (hs : List (List ℕ)) (o : List ℕ) (pre : List (List ℕ)) → length (hs ++ o ∷ pre) ≡ length hs + 1 + length pre
led_length hs o pre = let l = length-append hs (o ∷ pre) in let m : length (o ∷ pre) ≡ suc (length pre) = refl in omega arith

-- a fault behind the line of the player
behind_led : (names : Names) (p : Player) (k : Kind) (text rest left : List ℕ) (taken taken' n : ℕ) (pre more : List (List ℕ)) (m : MachineData) → taken ≡ 0 → IsLed names.target p k text rest taken taken' → IsDraft names m → m.player ≡ p → pre ++ more ≡ tail_lines names m → rest ≡ joined pre ++ left → n ≡ taken' + length pre + 1 → (left ≡ [] → (v : MachineData) → IsDraft names v → v.player ≡ p → pre ≡ tail_lines names v → ⊥) → NextIsNone (GoesOn names p pre) left → IsBadLine (IsMachineLines names) text n
behind_led names p k text rest left taken taken' n pre more m z led d same tail parts place open' none =
    let hs = heading_lines led.heading in
    let o = owner_text p k in
    let a = led_length hs o pre in
    let b = led.place in
    let owner : o ≡ owner_text m.player m.kind = ap (λ q. owner_text q k) (sym same) ∙ ap (owner_text m.player) (led.fits ∙ ap (kind_of names.target) (sym same) ∙ sym d.kind) in
    record {
      before = hs ++ o ∷ pre;
      rest = left;
      place = omega arith;
      parts = led.parts ∙ ap (λ t. joined (hs ++ o ∷ []) ++ t) parts ∙ led_joined hs o pre left;
      begins = (more, (led.heading, m, led.bounded, d, append_assoc hs (o ∷ pre) more ∙ ap (λ t. hs ++ o ∷ t) tail ∙ ap (λ l. hs ++ l ∷ tail_lines names m) owner));
      open_end = λ e t. (let s = heads_same led.heading t.0 p t.1.player k t.1.kind pre (tail_lines names t.1) t.4 in open' e t.1 t.3 (sym s.0) s.1);
      stops = λ line r w e t. (let s = heads_same led.heading t.1.0 p t.1.1.player k t.1.1.kind (pre ++ line ∷ t.0) (tail_lines names t.1.1) (sym (regroup hs o pre line t.0) ∙ t.1.4) in none line r w e (t.0, t.1.1, t.1.3, sym s.0, s.1));
    }

next_less : (P Q : List ℕ → Type 0) (text : List ℕ) → ((line : List ℕ) → Q line → P line) → NextIsNone P text → NextIsNone Q text
next_less P Q text f none = λ line rest w e q. none line rest w e (f line q)

-- a fault in the lines of inputs, of outputs and of the number of states
pub inputs_fault : (names : Names) (p : Player) (k : Kind) (text rest : List ℕ) (taken taken' n : ℕ) → taken ≡ 0 → IsLed names.target p k text rest taken taken' → (n ≡ taken' + 1) × NextIsNone (λ line. line ≡ names_text (codes "inputs") names.inputs.items) rest → IsBadLine (IsMachineLines names) text n
inputs_fault names p k text rest taken taken' n z led h =
    let a = h.0 in
    behind_led names p k text rest rest taken taken' n [] (tail_lines names (small names p)) (small names p) z led (small_draft names p) refl refl refl (omega (arith, a)) (λ e v d s t. nil_cons _ _ t)
    (next_less (λ line. line ≡ names_text (codes "inputs") names.inputs.items) (GoesOn names p []) rest (λ line g. same_head _ _ _ _ g.4) h.1)

pub outputs_fault : (names : Names) (p : Player) (k : Kind) (text rest rest' : List ℕ) (taken taken' now n : ℕ) → taken ≡ 0 → IsLed names.target p k text rest taken taken' → rest ≡ names_text (codes "inputs") names.inputs.items ++ 10 ∷ rest' → now ≡ taken' + 1 → (n ≡ now + 1) × NextIsNone (λ line. line ≡ names_text (codes "outputs") names.outputs.items) rest' → IsBadLine (IsMachineLines names) text n
outputs_fault names p k text rest rest' taken taken' now n z led i b h =
    let a = h.0 in
    let I = names_text (codes "inputs") names.inputs.items in
    behind_led names p k text rest rest' taken taken' n (I ∷ []) (names_text (codes "outputs") names.outputs.items ∷ count_text 1 ∷ []) (small names p) z led (small_draft names p) refl refl (i ∙ sym (joined_cons I [] rest')) (omega (arith, a, b)) (λ e v d s t. nil_cons _ _ (same_tail _ _ _ _ t))
    (next_less (λ line. line ≡ names_text (codes "outputs") names.outputs.items) (GoesOn names p (I ∷ [])) rest' (λ line g. same_head _ _ _ _ (same_tail _ _ _ _ g.4)) h.1)

-- the text behind the line of the player, up to what stands behind the line of the outputs
pub two_lines : (a b rest rest' rest'' : List ℕ) → rest ≡ a ++ 10 ∷ rest' → rest' ≡ b ++ 10 ∷ rest'' → rest ≡ joined (a ∷ b ∷ []) ++ rest''
two_lines a b rest rest' rest'' e f =
    e ∙ ap (λ t. a ++ 10 ∷ t) (f ∙ sym (joined_cons b [] rest'')) ∙ sym (joined_cons a (b ∷ []) rest'')

pub count_fault : (names : Names) (p : Player) (k : Kind) (text rest rest' rest'' : List ℕ) (taken taken' now now' n : ℕ) → taken ≡ 0 → IsLed names.target p k text rest taken taken' → rest ≡ names_text (codes "inputs") names.inputs.items ++ 10 ∷ rest' → now ≡ taken' + 1 → rest' ≡ names_text (codes "outputs") names.outputs.items ++ 10 ∷ rest'' → now' ≡ now + 1 → (n ≡ now' + 1) × NextIsNone IsCountLine rest'' → IsBadLine (IsMachineLines names) text n
count_fault names p k text rest rest' rest'' taken taken' now now' n z led i b j c h =
    let a = h.0 in
    let I = names_text (codes "inputs") names.inputs.items in
    let O = names_text (codes "outputs") names.outputs.items in
    behind_led names p k text rest rest'' taken taken' n (I ∷ O ∷ []) (count_text 1 ∷ []) (small names p) z led (small_draft names p) refl refl (two_lines I O rest rest' rest'' i j) (omega (arith, a, b, c)) (λ e v d s t. nil_cons _ _ (same_tail _ _ _ _ (same_tail _ _ _ _ t)))
    (next_less IsCountLine (GoesOn names p (I ∷ O ∷ [])) rest'' (λ line g. (length g.1.states, g.2.begins, g.2.counted, same_head _ _ _ _ (same_tail _ _ _ _ (same_tail _ _ _ _ g.4)))) h.1)

-- entries behind the line of the number of states
abbrev pub above : Names → ℕ → List (List ℕ)
above names count =
    names_text (codes "inputs") names.inputs.items ∷ names_text (codes "outputs") names.outputs.items ∷ count_text count ∷ []

pub three_lines : (a b c rest rest' rest'' left : List ℕ) → rest ≡ a ++ 10 ∷ rest' → rest' ≡ b ++ 10 ∷ rest'' → rest'' ≡ c ++ 10 ∷ left → rest ≡ joined (a ∷ b ∷ c ∷ []) ++ left
three_lines a b c rest rest' rest'' left e f g =
    e ∙ ap (λ t. a ++ 10 ∷ t) (two_lines b c rest' rest'' left f g) ∙ sym (joined_cons a (b ∷ c ∷ []) left)

pub count_same : (m n : ℕ) → m < 2 ^ 64 → n < 2 ^ 64 → count_text m ≡ count_text n → m ≡ n
count_same m n h k e = decimal_injective m n h k (append_cancel_left (codes "states ") (decimal m) (decimal n) e)

-- the draft of entries
abbrev pub of_entries : Names → Player → Kind → ℕ → List Entry → MachineData
of_entries names p k count es = made p k (length names.inputs.items) (length names.outputs.items) (spread 0 count es)

abbrev pub own_here : Names → Player → ℕ
own_here names p = own_width p (length names.inputs.items) (length names.outputs.items)

abbrev pub others_here : Names → Player → ℕ
others_here names p = other_width p (length names.inputs.items) (length names.outputs.items)

pub entries_draft : (names : Names) (p : Player) (k : Kind) (count : ℕ) (es : List Entry) → k ≡ kind_of names.target p → 0 < count → count < 2 ^ 64 → All (IsEntry (own_here names p) (others_here names p) count) es → IsDraft names (of_entries names p k count es)
entries_draft names p k count es f some big h =
    let l = spread_length 0 count es in
    record {
      kind = f;
      inputs = refl;
      outputs = refl;
      begins = omega arith;
      counted = omega arith;
      ranged = subst (λ n. All (All (IsLine (own_here names p) (others_here names p) n)) (spread 0 count es)) (sym l) (spread_ranged (own_here names p) (others_here names p) count 0 count es h);
    }

states_below : (own others count : ℕ) (es : List Entry) → All (IsEntry own others count) es → All (λ e. e.state < 0 + count) es
states_below own others count es h = All-weaker (IsEntry own others count) (λ e. e.state < 0 + count) (λ e k. (let l = k.0 in omega (arith, l))) es h

pub entries_tail : (names : Names) (p : Player) (k : Kind) (count : ℕ) (es : List Entry) → All (IsEntry (own_here names p) (others_here names p) count) es → Ascends 0 es → above names count ++ entry_lines (own_here names p) (others_here names p) es ≡ tail_lines names (of_entries names p k count es)
entries_tail names p k count es h a =
    let l = spread_length 0 count es in
    ap (λ n. above names n ++ entry_lines (own_here names p) (others_here names p) es) (sym l)
    ∙ ap (λ ls. above names (length (spread 0 count es)) ++ ls) (sym (spread_lines (own_here names p) (others_here names p) 0 count es a (states_below (own_here names p) (others_here names p) count es h)))

-- what follows entries in a text of the grammar
entries_next : (names : Names) (p : Player) (count : ℕ) (es : List Entry) (line : List ℕ) → count < 2 ^ 64 → All (IsEntry (own_here names p) (others_here names p) count) es → GoesOn names p (above names count ++ entry_lines (own_here names p) (others_here names p) es) line → IsEntryLine (own_here names p) (others_here names p) (last_state 0 es) count line
entries_next names p count es line big h g =
    let more = g.0 in
    let m = g.1 in
    let d = g.2 in
    let t = same_tail _ _ _ _ (same_tail _ _ _ _ g.4) in
    let c : count ≡ length m.states = count_same count (length m.states) big d.counted (same_head _ _ _ _ t) in
    let own : own_of m ≡ own_here names p = ap (λ q. own_width q m.inputs m.outputs) g.3 ∙ ap (λ i. own_width p i m.outputs) d.inputs ∙ ap (own_width p (length names.inputs.items)) d.outputs in
    let others : other_of m ≡ others_here names p = ap (λ q. other_width q m.inputs m.outputs) g.3 ∙ ap (λ i. other_width p i m.outputs) d.inputs ∙ ap (other_width p (length names.inputs.items)) d.outputs in
    let ranged : All (All (IsLine (own_here names p) (others_here names p) count)) m.states = subst (λ n. All (All (IsLine (own_here names p) (others_here names p) n)) m.states) (sym c) (subst (λ o. All (All (IsLine (own_here names p) o (length m.states))) m.states) others (subst (λ o. All (All (IsLine o (other_of m) (length m.states))) m.states) own d.ranged)) in
    let lines : entry_lines (own_here names p) (others_here names p) es ++ line ∷ more ≡ entry_lines (own_here names p) (others_here names p) (flat 0 m.states) = same_tail _ _ _ _ t ∙ ap (λ o. states_lines o (other_of m) 0 m.states) own ∙ ap (λ o. states_lines (own_here names p) o 0 m.states) others ∙ sym (flat_text (own_here names p) (others_here names p) 0 m.states) in
    behind_entries (own_here names p) (others_here names p) count 0 es (flat 0 m.states) line more (omega (arith, big)) h (flat_ranged (own_here names p) (others_here names p) count 0 m.states (omega (arith, c)) ranged) (flat_ascends 0 m.states) lines

above_length : (names : Names) (own others count : ℕ) (es : List Entry) → length (above names count ++ entry_lines own others es) ≡ 3 + length es
above_length names own others count es = let l = lines_length own others es in omega (arith, l)
  where
    lines_length : (own others : ℕ) (es : List Entry) → length (entry_lines own others es) ≡ length es
    lines_length own others [] = refl
    lines_length own others (e ∷ es) = ap suc (lines_length own others es)

-- the text up to entries
up_to_entries : (ls es : List (List ℕ)) (rest read left : List ℕ) → rest ≡ joined ls ++ read → read ≡ joined es ++ left → rest ≡ joined (ls ++ es) ++ left
up_to_entries ls es rest read left e f =
    e ∙ ap (λ t. joined ls ++ t) f ∙ sym (append_assoc (joined ls) (joined es) left) ∙ ap (λ t. t ++ left) (sym (joined_append ls es))

pub entries_fault : (names : Names) (p : Player) (k : Kind) (text rest read : List ℕ) (taken taken' now count : ℕ) (e : MachineError) → taken ≡ 0 → IsLed names.target p k text rest taken taken' → rest ≡ joined (above names count) ++ read → now ≡ taken' + 3 → 0 < count → count < 2 ^ 64 → HasEntryFault (own_here names p) (others_here names p) count read now e → HasMachineFault names text e
entries_fault names p k text rest read taken taken' now count (error.Line n) z led t a some big f =
    let es = f.0 in
    let left = f.1 in
    let r = f.3 in
    let own = own_here names p in
    let others = others_here names p in
    let pre = above names count ++ entry_lines own others es in
    let l = above_length names own others count es in
    let b = r.place in
    let c = f.4 in
    behind_led names p k text rest left taken taken' n pre [] (of_entries names p k count es) z led (entries_draft names p k count es led.fits some big r.ranged) refl (append-nil pre ∙ entries_tail names p k count es r.ranged r.ascends) (up_to_entries (above names count) (entry_lines own others es) rest read left t r.parts) (omega (arith, a, b, c, l)) (λ e v d s u. f.5 e)
    (next_less (IsEntryLine own others (last_state 0 es) count) (GoesOn names p pre) left (λ line g. entries_next names p count es line big r.ranged g) f.6)
entries_fault names p k text rest read taken taken' now count (error.Gap s) z led t a some big f = absurd f
entries_fault names p k text rest read taken taken' now count (error.NotFirst s) z led t a some big f = absurd f
entries_fault names p k text rest read taken taken' now count error.Memory z led t a some big f = tt

-- a text whose entries end with it spells their draft
pub entries_spell : (names : Names) (p : Player) (k : Kind) (text rest read : List ℕ) (taken taken' now now' count : ℕ) (es : List Entry) → IsLed names.target p k text rest taken taken' → rest ≡ joined (above names count) ++ read → 0 < count → count < 2 ^ 64 → AreRead (own_here names p) (others_here names p) count read [] now now' es → Spells names text (of_entries names p k count es)
entries_spell names p k text rest read taken taken' now now' count es led t some big r =
    let own = own_here names p in
    let others = others_here names p in
    let hs = heading_lines led.heading in
    let o = owner_text p k in
    let m = of_entries names p k count es in (
      led.heading,
      led.bounded,
      entries_draft names p k count es led.fits some big r.ranged,
      led.parts
          ∙ ap (λ u. joined (hs ++ o ∷ []) ++ u) (up_to_entries (above names count) (entry_lines own others es) rest read [] t r.parts ∙ ap (λ ls. joined ls ++ []) (entries_tail names p k count es r.ranged r.ascends))
          ∙ led_joined hs o (tail_lines names m) []
          ∙ append-nil (joined (hs ++ o ∷ tail_lines names m))
          ∙ joined_append hs (o ∷ tail_lines names m),
    )

pub make_fault : (names : Names) (text : List ℕ) (m : MachineData) (e : MachineError) → Spells names text m → HasMakeFault m e → HasMachineFault names text e
make_fault names text m (error.Line n) s h = absurd h
make_fault names text m (error.Gap g) s h = (m, s, h)
make_fault names text m (error.NotFirst g) s h = (m, s, h)
make_fault names text m error.Memory s h = tt

-- the same at widths and signals that are known to be those of the names
pub entries_fault_at : (names : Names) (p : Player) (k : Kind) (own others : ℕ) (text rest read : List ℕ) (taken taken' now count : ℕ) (e : MachineError) → own ≡ own_here names p → others ≡ others_here names p → taken ≡ 0 → IsLed names.target p k text rest taken taken' → rest ≡ joined (above names count) ++ read → now ≡ taken' + 3 → 0 < count → count < 2 ^ 64 → HasEntryFault own others count read now e → HasMachineFault names text e
entries_fault_at names p k own others text rest read taken taken' now count e a b z led t n some big f =
    entries_fault names p k text rest read taken taken' now count e z led t n some big (subst (λ o. HasEntryFault (own_here names p) o count read now e) b (subst (λ o. HasEntryFault o others count read now e) a f))

pub entries_spell_at : (names : Names) (p : Player) (k : Kind) (own others : ℕ) (text rest read : List ℕ) (taken taken' now now' count : ℕ) (es : List Entry) → own ≡ own_here names p → others ≡ others_here names p → IsLed names.target p k text rest taken taken' → rest ≡ joined (above names count) ++ read → 0 < count → count < 2 ^ 64 → AreRead own others count read [] now now' es → Spells names text (of_entries names p k count es)
entries_spell_at names p k own others text rest read taken taken' now now' count es a b led t some big r =
    entries_spell names p k text rest read taken taken' now now' count es led t some big (subst (λ o. AreRead (own_here names p) o count read [] now now' es) b (subst (λ o. AreRead o others count read [] now now' es) a r))

pub own_at : (names : Names) (p : Player) (own i o : ℕ) → own ≡ own_width p i o → i ≡ length names.inputs.items → o ≡ length names.outputs.items → own ≡ own_here names p
own_at names p own i o e a b = e ∙ ap (λ x. own_width p x o) a ∙ ap (own_width p (length names.inputs.items)) b

pub others_at : (names : Names) (p : Player) (others i o : ℕ) → others ≡ other_width p i o → i ≡ length names.inputs.items → o ≡ length names.outputs.items → others ≡ others_here names p
others_at names p others i o e a b = e ∙ ap (λ x. other_width p x o) a ∙ ap (other_width p (length names.inputs.items)) b

pub entries_at : (names : Names) (p : Player) (k : Kind) (count i o : ℕ) (es fs : List Entry) → i ≡ length names.inputs.items → o ≡ length names.outputs.items → fs ≡ es → made p k i o (spread 0 count fs) ≡ of_entries names p k count es
entries_at names p k count i o es fs a b e =
    ap (λ x. made p k x o (spread 0 count fs)) a
    ∙ ap (λ x. made p k (length names.inputs.items) x (spread 0 count fs)) b
    ∙ ap (λ x. made p k (length names.inputs.items) (length names.outputs.items) (spread 0 count x)) e
