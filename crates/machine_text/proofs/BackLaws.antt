-- A text spells one machine at most.
use Rattle.std.proofs.Common.{String, Global, Bool, true, not, ◌&&◌, nat_eq, Result, Ok, Err, IsErrAnd, IfOk, IfErr, ◌≡◌, ◌≢◌, ℕ, zero, suc, ◌+◌, ◌/◌, ◌%◌, ◌<◌, ◌≤◌, ◌^◌, List, [], ◌∷◌, ◌++◌, length, codes, string_bytes, Option, Some, None, refl, sym, ap, ◌∙◌, subst, arith}
use Rattle.std.specs.List.{All}
use Rattle.std.specs.Fmt.{decimal}
use Rattle.std.proofs.lemmas.Fmt.{decimal_by_steps}
use Rattle.std.proofs.lemmas.Bool.{and_parts, not-true, eqb-false}
use Rattle.std.proofs.lemmas.List.Elements.{All-nil, All-cons, All-head, All-tail, All-append}
use Rattle.word_core.specs.declared.names.Kind.{Kind}
use Rattle.word_core.specs.declared.names.Kind.TheVariants.{First, Second}
use Rattle.word_core.specs.declared.names.Names.{Names}
use Rattle.word_core.specs.declared.names.Player.{Player}
use Rattle.word_core.specs.declared.names.Player.TheVariants.{System, Environment}
use Rattle.word_core.specs.declared.machines.Line.{Line}
use Rattle.word_core.specs.Machine.{MachineData, IsMachine, IsLine, own_of, other_of, own_width, other_width}
use Rattle.machine_text.specs.declared.errors.MachineError.{MachineError}
use Rattle.machine_text.specs.declared.errors.MachineError.TheVariants as error
use Rattle.machine_text.specs.Fields.{mark, marks_of, pattern, valuation}
use Rattle.machine_text.specs.Lines.{joined, IsWhole}
use Rattle.machine_text.specs.Machines.{kind_of, owner_text, spaced, names_text, count_text, line_text, state_lines, states_lines, verdict_text, bound_text, heading_lines, machine_lines, IsHeading, IsDraft, IsMachineLines, Spells, HasMachineFault, AreWhole}
use Rattle.machine_text.specs.Reading.{HasMakeFault}
use Rattle.machine_text.proofs.FieldLaws.{same_head, same_tail}
use Rattle.machine_text.proofs.LineLaws.{joined_append}
use Rattle.machine_text.proofs.LineSplits.{joined_same, bad_is_none}
use Rattle.machine_text.proofs.LassoLaws.{valuation_whole}
use Rattle.machine_text.proofs.GroupLaws.{made}
use Rattle.machine_text.proofs.EntryLaws.{flat, flat_text, flat_ranged, spread_flat, entries_same}
use Rattle.machine_text.proofs.MachineLaws.{heads_same, count_same, tail_lines, make_fault}
use Rattle.machine_text.specs.Reading.{spread}

abbrev not_feed : ℕ → Type 0
not_feed b = b ≢ 10

-- a test for lines that are written out
abbrev feed_free : List ℕ → Bool
feed_free [] = true
feed_free (c ∷ cs) = not (nat_eq c 10) && feed_free cs

whole_test : (l : List ℕ) → feed_free l ≡ true → IsWhole l
whole_test [] h = All-nil not_feed
whole_test (c ∷ cs) h =
    let p = and_parts (not (nat_eq c 10)) (feed_free cs) h in
    All-cons not_feed c cs (eqb-false c 10 (not-true (nat_eq c 10) p.0)) (whole_test cs p.1)

decimal_whole : (n : ℕ) → n < 2 ^ 64 → IsWhole (decimal n)
decimal_whole = decimal_by_steps (λ n ds. IsWhole ds) (λ n h. All-cons not_feed (48 + n) [] (λ e. omega arith) (All-nil not_feed)) (λ n ds h w. All-append not_feed ds ((48 + n % 10) ∷ []) w (All-cons not_feed (48 + n % 10) [] (λ e. omega arith) (All-nil not_feed)))

mark_char : (a b : ℕ) → mark a b ≢ 10
mark_char zero b e = let f : 45 ≡ 10 = e in omega (arith, f)
mark_char (suc a) b e = let f : 48 + b ≡ 10 = e in omega (arith, f)

marks_whole : (w a b : ℕ) → IsWhole (marks_of w a b)
marks_whole zero a b = All-nil not_feed
marks_whole (suc w) a b = All-cons not_feed (mark (a % 2) (b % 2)) (marks_of w (a / 2) (b / 2)) (mark_char (a % 2) (b % 2)) (marks_whole w (a / 2) (b / 2))

line_whole : (own others count s : ℕ) (l : Line) → count < 2 ^ 64 → s < count → IsLine own others count l → IsWhole (line_text own others s l)
line_whole own others count s l big below h =
    let n = h.2 in
    All-append not_feed (decimal s ++ 32 ∷ pattern others l.when ++ codes " -> " ++ valuation own l.own) (32 ∷ decimal l.next)
    (All-append not_feed (decimal s ++ 32 ∷ pattern others l.when ++ codes " -> ") (valuation own l.own)
    (All-append not_feed (decimal s ++ 32 ∷ pattern others l.when) (codes " -> ")
    (All-append not_feed (decimal s) (32 ∷ pattern others l.when) (decimal_whole s (omega (arith, big, below))) (All-cons not_feed 32 (pattern others l.when) (λ e. omega arith) (pattern_whole others)))
    (whole_test (codes " -> ") refl))
    (valuation_whole own l.own))
    (All-cons not_feed 32 (decimal l.next) (λ e. omega arith) (decimal_whole l.next (omega (arith, big, n))))
  where
    pattern_whole : (w : ℕ) → IsWhole (pattern w l.when)
    pattern_whole zero = whole_test (46 ∷ []) refl
    pattern_whole (suc w) = marks_whole (suc w) l.when.care l.when.want

state_whole : (own others count s : ℕ) (ls : List Line) → count < 2 ^ 64 → s < count → All (IsLine own others count) ls → All IsWhole (state_lines own others s ls)
state_whole own others count s [] big below h = All-nil IsWhole
state_whole own others count s (l ∷ ls) big below h =
    All-cons IsWhole (line_text own others s l) (state_lines own others s ls) (line_whole own others count s l big below (All-head (IsLine own others count) l ls h)) (state_whole own others count s ls big below (All-tail (IsLine own others count) l ls h))

states_whole : (own others count s : ℕ) (states : List (List Line)) → count < 2 ^ 64 → s + length states ≤ count → All (All (IsLine own others count)) states → All IsWhole (states_lines own others s states)
states_whole own others count s [] big below h = All-nil IsWhole
states_whole own others count s (ls ∷ rest) big below h =
    let b : s + suc (length rest) ≤ count = below in
    All-append IsWhole (state_lines own others s ls) (states_lines own others (s + 1) rest) (state_whole own others count s ls big (omega (arith, b)) (All-head (All (IsLine own others count)) ls rest h)) (states_whole own others count (s + 1) rest big (omega (arith, b)) (All-tail (All (IsLine own others count)) ls rest h))

owner_whole : (p : Player) (k : Kind) → IsWhole (owner_text p k)
owner_whole System First = whole_test (owner_text System First) refl
owner_whole System Second = whole_test (owner_text System Second) refl
owner_whole Environment First = whole_test (owner_text Environment First) refl
owner_whole Environment Second = whole_test (owner_text Environment Second) refl

verdict_whole : (p : Player) → IsWhole (verdict_text p)
verdict_whole System = whole_test (verdict_text System) refl
verdict_whole Environment = whole_test (verdict_text Environment) refl

spaced_whole : (names : List (String Global)) → AreWhole names → IsWhole (spaced names)
spaced_whole [] h = All-nil not_feed
spaced_whole (name ∷ names) h =
    All-append not_feed (32 ∷ string_bytes name) (spaced names) (All-cons not_feed 32 (string_bytes name) (λ e. omega arith) (All-head (λ n. IsWhole (string_bytes n)) name names h)) (spaced_whole names (All-tail (λ n. IsWhole (string_bytes n)) name names h))

heading_whole : (h : Option (Player × ℕ)) → IsHeading h → All IsWhole (heading_lines h)
heading_whole None b = All-nil IsWhole
heading_whole (Some h) b =
    All-cons IsWhole (verdict_text h.0) (bound_text h.1 ∷ []) (verdict_whole h.0)
    (All-cons IsWhole (bound_text h.1) [] (All-append not_feed (codes "bound ") (decimal h.1) (whole_test (codes "bound ") refl) (decimal_whole h.1 b)) (All-nil IsWhole))

lines_whole : (names : Names) (m : MachineData) → AreWhole names.inputs.items → AreWhole names.outputs.items → IsDraft names m → All IsWhole (machine_lines names m)
lines_whole names m i o d =
    let ss = states_lines (own_of m) (other_of m) 0 m.states in
    let n = count_text (length m.states) in
    let outs = names_text (codes "outputs") names.outputs.items in
    let ins = names_text (codes "inputs") names.inputs.items in
    All-cons IsWhole (owner_text m.player m.kind) (ins ∷ outs ∷ n ∷ ss) (owner_whole m.player m.kind)
    (All-cons IsWhole ins (outs ∷ n ∷ ss) (All-append not_feed (codes "inputs") (spaced names.inputs.items) (whole_test (codes "inputs") refl) (spaced_whole names.inputs.items i))
    (All-cons IsWhole outs (n ∷ ss) (All-append not_feed (codes "outputs") (spaced names.outputs.items) (whole_test (codes "outputs") refl) (spaced_whole names.outputs.items o))
    (All-cons IsWhole n ss (All-append not_feed (codes "states ") (decimal (length m.states)) (whole_test (codes "states ") refl) (decimal_whole (length m.states) d.counted))
    (states_whole (own_of m) (other_of m) (length m.states) 0 m.states d.counted (omega arith) d.ranged))))

all_whole : (names : Names) (h : Option (Player × ℕ)) (m : MachineData) → AreWhole names.inputs.items → AreWhole names.outputs.items → IsHeading h → IsDraft names m → All IsWhole (heading_lines h ++ machine_lines names m)
all_whole names h m i o b d = All-append IsWhole (heading_lines h) (machine_lines names m) (heading_whole h b) (lines_whole names m i o d)

grammar_whole : (names : Names) → AreWhole names.inputs.items → AreWhole names.outputs.items → (ls : List (List ℕ)) → IsMachineLines names ls → All IsWhole ls
grammar_whole names i o ls t = subst (All IsWhole) (sym t.4) (all_whole names t.0 t.1 i o t.2 t.3)

spelled : (names : Names) (text : List ℕ) (m : MachineData) (s : Spells names text m) → text ≡ joined (heading_lines s.0 ++ machine_lines names m)
spelled names text m s = s.3 ∙ sym (joined_append (heading_lines s.0) (machine_lines names m))

machine_eq : (m n : MachineData) → m.player ≡ n.player → m.kind ≡ n.kind → m.inputs ≡ n.inputs → m.outputs ≡ n.outputs → m.states ≡ n.states → m ≡ n
machine_eq m n a b c d e =
    ap (λ p. made p m.kind m.inputs m.outputs m.states) a
    ∙ ap (λ k. made n.player k m.inputs m.outputs m.states) b
    ∙ ap (λ i. made n.player n.kind i m.outputs m.states) c
    ∙ ap (λ o. made n.player n.kind n.inputs o m.states) d
    ∙ ap (made n.player n.kind n.inputs n.outputs) e

states_same : (own others : ℕ) (a b : List (List Line)) → length a ≡ length b → length a < 2 ^ 64 → All (All (IsLine own others (length a))) a → All (All (IsLine own others (length b))) b → states_lines own others 0 a ≡ states_lines own others 0 b → a ≡ b
states_same own others a b l big h k e =
    let k' : All (All (IsLine own others (length a))) b = subst (λ n. All (All (IsLine own others n)) b) (sym l) k in
    let f : flat 0 a ≡ flat 0 b = entries_same own others (length a) (flat 0 a) (flat 0 b) (omega (arith, big)) (flat_ranged own others (length a) 0 a (omega arith) h) (flat_ranged own others (length a) 0 b (omega (arith, l)) k') (flat_text own others 0 a ∙ e ∙ sym (flat_text own others 0 b)) in
    sym (spread_flat 0 a) ∙ ap (λ n. spread 0 n (flat 0 a)) l ∙ ap (spread 0 (length b)) f ∙ spread_flat 0 b

pub machines_same : (names : Names) (text : List ℕ) (m n : MachineData) → AreWhole names.inputs.items → AreWhole names.outputs.items → Spells names text m → Spells names text n → m ≡ n
machines_same names text m n i o s t =
    let d = s.2 in
    let e = t.2 in
    let lines = joined_same (heading_lines s.0 ++ machine_lines names m) (heading_lines t.0 ++ machine_lines names n) (all_whole names s.0 m i o s.1 d) (all_whole names t.0 n i o t.1 e) (sym (spelled names text m s) ∙ spelled names text n t) in
    let heads = heads_same s.0 t.0 m.player n.player m.kind n.kind (tail_lines names m) (tail_lines names n) lines in
    let p : m.player ≡ n.player = heads.0 in
    let ins : m.inputs ≡ n.inputs = d.inputs ∙ sym e.inputs in
    let outs : m.outputs ≡ n.outputs = d.outputs ∙ sym e.outputs in
    let rest = same_tail _ _ _ _ (same_tail _ _ _ _ heads.1) in
    let count = count_same (length m.states) (length n.states) d.counted e.counted (same_head _ _ _ _ rest) in
    let own : own_of n ≡ own_of m = ap (λ q. own_width q n.inputs n.outputs) (sym p) ∙ ap (λ x. own_width m.player x n.outputs) (sym ins) ∙ ap (own_width m.player m.inputs) (sym outs) in
    let others : other_of n ≡ other_of m = ap (λ q. other_width q n.inputs n.outputs) (sym p) ∙ ap (λ x. other_width m.player x n.outputs) (sym ins) ∙ ap (other_width m.player m.inputs) (sym outs) in
    let ranged : All (All (IsLine (own_of m) (other_of m) (length n.states))) n.states = subst (λ x. All (All (IsLine (own_of m) x (length n.states))) n.states) others (subst (λ x. All (All (IsLine x (other_of n) (length n.states))) n.states) own e.ranged) in
    let texts : states_lines (own_of m) (other_of m) 0 m.states ≡ states_lines (own_of m) (other_of m) 0 n.states = same_tail _ _ _ _ rest ∙ ap (λ x. states_lines x (other_of n) 0 n.states) own ∙ ap (λ x. states_lines (own_of m) x 0 n.states) others in
    machine_eq m n p (d.kind ∙ ap (kind_of names.target) p ∙ sym e.kind) ins outs (states_same (own_of m) (other_of m) m.states n.states count d.counted d.ranged ranged texts)

no_fault : (names : Names) (text : List ℕ) (x : MachineError) → HasMachineFault names text x → AreWhole names.inputs.items → AreWhole names.outputs.items → (m : MachineData) → IsMachine m → Spells names text m → x ≡ error.Memory
no_fault names text (error.Line n) f i o m w s =
    absurd (bad_is_none (IsMachineLines names) text n (grammar_whole names i o) f (heading_lines s.0 ++ machine_lines names m) (s.0, m, s.1, s.2, refl) (spelled names text m s))
no_fault names text (error.Gap g) f i o m w s =
    let same : m ≡ f.0 = machines_same names text m f.0 i o s f.1 in
    let v : IsMachine f.0 = subst IsMachine same w in
    absurd (f.2.1.1 (v.decided g [] f.2.1.0))
no_fault names text (error.NotFirst g) f i o m w s =
    let same : m ≡ f.0 = machines_same names text m f.0 i o s f.1 in
    let v : IsMachine f.0 = subst IsMachine same w in
    absurd (f.2.3.1 (v.first f.2.2 g [] f.2.3.0))
no_fault names text error.Memory f i o m w s = refl

-- what reading answers to the text of a machine
abbrev pub ReadsBack : Names → List ℕ → Result MachineData MachineError → Type 0
ReadsBack names text r =
    AreWhole names.inputs.items → AreWhole names.outputs.items → (m : MachineData) → IsMachine m → Spells names text m → IfOk r (λ v. v ≡ m) × IfErr r (λ e. e ≡ error.Memory)

pub back_on_fault : (names : Names) (text : List ℕ) (r : Result MachineData MachineError) (x : MachineError) → IsErrAnd r (λ e. e ≡ x) → HasMachineFault names text x → ReadsBack names text r
back_on_fault names text (Ok v) x h f = absurd h
back_on_fault names text (Err y) x h f = λ i o m w s. (tt, h ∙ no_fault names text x f i o m w s)

pub value_if : (names : Names) (text : List ℕ) (r : Result MachineData MachineError) (m : MachineData) → IfOk r (λ v. v ≡ m) → Spells names text m → IfOk r (Spells names text)
value_if names text (Ok v) m h s = subst (Spells names text) (sym h) s
value_if names text (Err y) m h s = tt

pub fault_if : (names : Names) (text : List ℕ) (r : Result MachineData MachineError) (m : MachineData) → IfErr r (HasMakeFault m) → Spells names text m → IfErr r (HasMachineFault names text)
fault_if names text (Ok v) m h s = tt
fault_if names text (Err y) m h s = make_fault names text m y s h

pub back_if : (names : Names) (text : List ℕ) (r : Result MachineData MachineError) (m : MachineData) → IfOk r (λ v. v ≡ m) → IfErr r (HasMakeFault m) → Spells names text m → ReadsBack names text r
back_if names text (Ok v) m h f s = λ i o n w t. (h ∙ machines_same names text m n i o s t, tt)
back_if names text (Err y) m h f s = λ i o n w t. (tt, no_fault names text y (make_fault names text m y s f) i o n w t)
