-- The lines of states: they are told apart by their texts, and entries in order make states.
use Rattle.std.proofs.Common.{Bool, true, false, cond, nat_eq, ◌≡◌, ℕ, zero, suc, ◌+◌, ◌/◌, ◌%◌, ◌<◌, ◌≤◌, ◌^◌, List, [], ◌∷◌, ◌++◌, append_assoc, length, codes, bit_and, refl, sym, ap, ap₂, ◌∙◌, subst, arith}
use Rattle.std.specs.List.{All}
use Rattle.std.specs.Fmt.{decimal}
use Rattle.std.specs.Int.Bits.{and_zero_r}
use Rattle.std.proofs.lemmas.Fmt.{decimal_injective}
use Rattle.std.proofs.lemmas.List.{append_cancel_left}
use Rattle.std.proofs.lemmas.List.Elements.{All-nil, All-cons, All-head, All-tail, All-append}
use Rattle.std.proofs.lemmas.Bool.{eqb-true, eqb-false, ne_eqb, eq-eqb}
use Rattle.word_core.specs.declared.cubes.Cube.{Cube}
use Rattle.word_core.specs.declared.machines.Line.{Line}
use Rattle.word_core.specs.Cube.{IsCube}
use Rattle.word_core.specs.Machine.{IsLine}
use Rattle.machine_text.specs.declared.reading.Entry.{Entry}
use Rattle.machine_text.specs.Fields.{valuation, mark, marks_of, pattern, digits_from, begins_with_digit}
use Rattle.machine_text.specs.Machines.{line_text, state_lines, states_lines}
use Rattle.machine_text.specs.Reading.{IsEntry, IsEntryLine, entry_lines, Ascends, last_state, first_lines, behind_state, spread}
use Rattle.machine_text.proofs.FieldLaws.{same_head, same_tail, nil_cons, half_below, odd_below, part_low, part_high}
use Rattle.machine_text.proofs.DigitLaws.{digits_whole}
use Rattle.machine_text.proofs.LassoLaws.{valuation_apart}

-- numbers and patterns are told apart by their characters
pub decimal_apart : (m n : ℕ) (x y : List ℕ) → m < 2 ^ 64 → n < 2 ^ 64 → begins_with_digit x ≡ false → begins_with_digit y ≡ false → decimal m ++ x ≡ decimal n ++ y → (m ≡ n) × (x ≡ y)
decimal_apart m n x y h k a b e =
    let p : digits_from 0 (decimal m ++ x) ≡ digits_from 0 (decimal n ++ y) = ap (digits_from 0) e in
    let f = digits_whole m h x a in
    let g = digits_whole n k y b in
    (ap (λ p. p.0) (sym f) ∙ ap (λ p. p.0) p ∙ ap (λ p. p.0) g, ap (λ p. p.1) (sym f) ∙ ap (λ p. p.1) p ∙ ap (λ p. p.1) g)

mark_same : (a b c d : ℕ) → a < 2 → b ≤ a → c < 2 → d ≤ c → mark a b ≡ mark c d → (a ≡ c) × (b ≡ d)
mark_same zero b zero d h k l m e = (refl, omega arith)
mark_same zero b (suc c) d h k l m e = absurd (let f : 45 ≡ 48 + d = e in omega (arith, f))
mark_same (suc a) b zero d h k l m e = absurd (let f : 48 + b ≡ 45 = e in omega (arith, f))
mark_same (suc a) b (suc c) d h k l m e = (omega arith, (let f : 48 + b ≡ 48 + d = e in omega (arith, f)))

halves_same : (a b : ℕ) → a % 2 ≡ b % 2 → a / 2 ≡ b / 2 → a ≡ b
halves_same a b e f = omega arith

no_bits : (want care : ℕ) → care < 2 ^ 0 → bit_and want care ≡ want → want ≡ 0
no_bits want care h e =
    let z : care ≡ 0 = omega arith in
    sym e ∙ ap (bit_and want) z ∙ and_zero_r want

marks_apart : (w a b c d : ℕ) (x y : List ℕ) → a < 2 ^ w → bit_and b a ≡ b → c < 2 ^ w → bit_and d c ≡ d → marks_of w a b ++ x ≡ marks_of w c d ++ y → (a ≡ c) × (b ≡ d) × (x ≡ y)
marks_apart zero a b c d x y h p k q e = (omega arith, no_bits b a h p ∙ sym (no_bits d c k q), e)
marks_apart (suc w) a b c d x y h p k q e =
    let m = mark_same (a % 2) (b % 2) (c % 2) (d % 2) (odd_below a) (part_low a b p) (odd_below c) (part_low c d q) (same_head _ _ _ _ e) in
    let r = marks_apart w (a / 2) (b / 2) (c / 2) (d / 2) x y (half_below a w h) (part_high a b p) (half_below c w k) (part_high c d q) (same_tail _ _ _ _ e) in
    (halves_same a c m.0 r.0, halves_same b d m.1 r.1, r.2)

abbrev cube : ℕ → ℕ → Cube
cube a b = record { care = a; want = b }

cube_eq : (c d : Cube) → c.care ≡ d.care → c.want ≡ d.want → c ≡ d
cube_eq c d e f = ap₂ cube e f

pub pattern_apart : (w : ℕ) (c d : Cube) (x y : List ℕ) → IsCube w c → IsCube w d → pattern w c ++ x ≡ pattern w d ++ y → (c ≡ d) × (x ≡ y)
pattern_apart zero c d x y h k e =
    let a = h.0 in
    let b = k.0 in
    (cube_eq c d (omega arith) (no_bits c.want c.care h.0 h.1 ∙ sym (no_bits d.want d.care k.0 k.1)), same_tail _ _ _ _ e)
pattern_apart (suc w) c d x y h k e =
    let r = marks_apart (suc w) c.care c.want d.care d.want x y h.0 h.1 k.0 k.1 e in
    (cube_eq c d r.0 r.1, r.2)

-- a line as a number and what stands behind it
abbrev behind_number : ℕ → ℕ → Line → List ℕ
behind_number own others l =
    32 ∷ (pattern others l.when ++ (codes " -> " ++ (valuation own l.own ++ 32 ∷ decimal l.next)))

pub line_parts : (own others s : ℕ) (l : Line) → line_text own others s l ≡ decimal s ++ behind_number own others l
line_parts own others s l =
    append_assoc (decimal s ++ 32 ∷ pattern others l.when ++ codes " -> ") (valuation own l.own) (32 ∷ decimal l.next)
    ∙ append_assoc (decimal s ++ 32 ∷ pattern others l.when) (codes " -> ") (valuation own l.own ++ 32 ∷ decimal l.next)
    ∙ append_assoc (decimal s) (32 ∷ pattern others l.when) (codes " -> " ++ (valuation own l.own ++ 32 ∷ decimal l.next))

abbrev line : Cube → ℕ → ℕ → Line
line w o n = record { when = w; own = o; next = n }

line_eq : (l m : Line) → l.when ≡ m.when → l.own ≡ m.own → l.next ≡ m.next → l ≡ m
line_eq l m e f g = ap₂ (λ w o. line w o l.next) e f ∙ ap (line m.when m.own) g

pub line_apart : (own others count s t : ℕ) (l m : Line) → count ≤ 2 ^ 64 → s < count → t < count → IsLine own others count l → IsLine own others count m → line_text own others s l ≡ line_text own others t m → (s ≡ t) × (l ≡ m)
line_apart own others count s t l m big a b h k e =
    let hn = h.2 in
    let kn = k.2 in
    let n = decimal_apart s t (behind_number own others l) (behind_number own others m) (omega arith) (omega arith) refl refl (sym (line_parts own others s l) ∙ e ∙ line_parts own others t m) in
    let p = pattern_apart others l.when m.when (codes " -> " ++ (valuation own l.own ++ 32 ∷ decimal l.next)) (codes " -> " ++ (valuation own m.own ++ 32 ∷ decimal m.next)) h.0 k.0 (same_tail _ _ _ _ n.1) in
    let v = valuation_apart own l.own m.own (32 ∷ decimal l.next) (32 ∷ decimal m.next) h.1 k.1 (append_cancel_left (codes " -> ") (valuation own l.own ++ 32 ∷ decimal l.next) (valuation own m.own ++ 32 ∷ decimal m.next) p.1) in
    let d = decimal_injective l.next m.next (omega arith) (omega arith) (same_tail _ _ _ _ v.1) in
    (n.0, line_eq l m p.0 v.0 d)

abbrev entry : ℕ → Line → Entry
entry s l = record { state = s; line = l }

entry_eq : (e f : Entry) → e.state ≡ f.state → e.line ≡ f.line → e ≡ f
entry_eq e f a b = ap₂ entry a b

pub entries_same : (own others count : ℕ) (es fs : List Entry) → count ≤ 2 ^ 64 → All (IsEntry own others count) es → All (IsEntry own others count) fs → entry_lines own others es ≡ entry_lines own others fs → es ≡ fs
entries_same own others count [] [] big h k e = refl
entries_same own others count [] (f ∷ fs) big h k e = absurd (nil_cons _ _ e)
entries_same own others count (d ∷ es) [] big h k e = absurd (nil_cons _ _ (sym e))
entries_same own others count (d ∷ es) (f ∷ fs) big h k e =
    let a = All-head (IsEntry own others count) d es h in
    let b = All-head (IsEntry own others count) f fs k in
    let s = line_apart own others count d.state f.state d.line f.line big a.0 b.0 a.1 b.1 (same_head _ _ _ _ e) in
    let r = entries_same own others count es fs big (All-tail (IsEntry own others count) d es h) (All-tail (IsEntry own others count) f fs k) (same_tail _ _ _ _ e) in
    ap (λ x. x ∷ es) (entry_eq d f s.0 s.1) ∙ ap (λ xs. f ∷ xs) r

-- what stands behind entries is a further one, of the last state at least
pub behind_entries : (own others count from : ℕ) (es fs : List Entry) (text : List ℕ) (more : List (List ℕ)) → count ≤ 2 ^ 64 → All (IsEntry own others count) es → All (IsEntry own others count) fs → Ascends from fs → entry_lines own others es ++ text ∷ more ≡ entry_lines own others fs → IsEntryLine own others (last_state from es) count text
behind_entries own others count from [] [] text more big h k a e = absurd (nil_cons _ _ (sym e))
behind_entries own others count from [] (f ∷ fs) text more big h k a e =
    let b = All-head (IsEntry own others count) f fs k in
    (f.state, f.line, a.0, b.0, b.1, same_head _ _ _ _ e)
behind_entries own others count from (d ∷ es) [] text more big h k a e = absurd (nil_cons _ _ (sym e))
behind_entries own others count from (d ∷ es) (f ∷ fs) text more big h k a e =
    let p = All-head (IsEntry own others count) d es h in
    let q = All-head (IsEntry own others count) f fs k in
    let s = line_apart own others count d.state f.state d.line f.line big p.0 q.0 p.1 q.1 (same_head _ _ _ _ e) in
    behind_entries own others count d.state es fs text more big (All-tail (IsEntry own others count) d es h) (All-tail (IsEntry own others count) f fs k) (subst (λ n. Ascends n fs) (sym s.0) a.1) (same_tail _ _ _ _ e)

-- the first state's lines, where an entry is of it and where not
first_here : (s : ℕ) (e : Entry) (es : List Entry) → nat_eq e.state s ≡ true → first_lines s (e ∷ es) ≡ e.line ∷ first_lines s es
first_here s e es h = ap (λ b. cond b (e.line ∷ first_lines s es) []) h

pub first_other : (s : ℕ) (e : Entry) (es : List Entry) → nat_eq e.state s ≡ false → first_lines s (e ∷ es) ≡ []
first_other s e es h = ap (λ b. cond b (e.line ∷ first_lines s es) []) h

behind_here : (s : ℕ) (e : Entry) (es : List Entry) → nat_eq e.state s ≡ true → behind_state s (e ∷ es) ≡ behind_state s es
behind_here s e es h = ap (λ b. cond b (behind_state s es) (e ∷ es)) h

behind_other : (s : ℕ) (e : Entry) (es : List Entry) → nat_eq e.state s ≡ false → behind_state s (e ∷ es) ≡ e ∷ es
behind_other s e es h = ap (λ b. cond b (behind_state s es) (e ∷ es)) h

first_split : (own others s : ℕ) (es : List Entry) → entry_lines own others es ≡ state_lines own others s (first_lines s es) ++ entry_lines own others (behind_state s es)
first_split own others s [] = refl
first_split own others s (e ∷ es) = go (nat_eq e.state s) refl (first_split own others s es)
  where
    go : (b : Bool) → nat_eq e.state s ≡ b → entry_lines own others es ≡ state_lines own others s (first_lines s es) ++ entry_lines own others (behind_state s es) → entry_lines own others (e ∷ es) ≡ state_lines own others s (first_lines s (e ∷ es)) ++ entry_lines own others (behind_state s (e ∷ es))
    go true h ih =
        ap (λ n. line_text own others n e.line ∷ entry_lines own others es) (eqb-true e.state s h)
        ∙ ap (λ ls. line_text own others s e.line ∷ ls) ih
        ∙ ap (λ ls. state_lines own others s ls ++ entry_lines own others (behind_state s es)) (sym (first_here s e es h))
        ∙ ap (λ ds. state_lines own others s (first_lines s (e ∷ es)) ++ entry_lines own others ds) (sym (behind_here s e es h))
    go false h ih =
        ap (λ ls. state_lines own others s ls ++ entry_lines own others (e ∷ es)) (sym (first_other s e es h))
        ∙ ap (λ ds. state_lines own others s (first_lines s (e ∷ es)) ++ entry_lines own others ds) (sym (behind_other s e es h))

behind_ascends : (s : ℕ) (es : List Entry) → Ascends s es → Ascends (s + 1) (behind_state s es)
behind_ascends s [] a = tt
behind_ascends s (e ∷ es) a = go (nat_eq e.state s) refl (behind_ascends s es)
  where
    go : (b : Bool) → nat_eq e.state s ≡ b → (Ascends s es → Ascends (s + 1) (behind_state s es)) → Ascends (s + 1) (behind_state s (e ∷ es))
    go true h ih = subst (Ascends (s + 1)) (sym (behind_here s e es h)) (ih (subst (λ n. Ascends n es) (eqb-true e.state s h) a.1))
    go false h ih = subst (Ascends (s + 1)) (sym (behind_other s e es h)) (let n = eqb-false e.state s h in let l = a.0 in (omega (arith, n, l), a.1))

behind_all : (P : Entry → Type 0) (s : ℕ) (es : List Entry) → All P es → All P (behind_state s es)
behind_all P s [] a = a
behind_all P s (e ∷ es) a = go (nat_eq e.state s) refl (behind_all P s es)
  where
    go : (b : Bool) → nat_eq e.state s ≡ b → (All P es → All P (behind_state s es)) → All P (behind_state s (e ∷ es))
    go true h ih = subst (All P) (sym (behind_here s e es h)) (ih (All-tail P e es a))
    go false h ih = subst (All P) (sym (behind_other s e es h)) a

first_all : (own others count s : ℕ) (es : List Entry) → All (IsEntry own others count) es → All (IsLine own others count) (first_lines s es)
first_all own others count s [] a = All-nil (IsLine own others count)
first_all own others count s (e ∷ es) a = go (nat_eq e.state s) refl (first_all own others count s es)
  where
    go : (b : Bool) → nat_eq e.state s ≡ b → (All (IsEntry own others count) es → All (IsLine own others count) (first_lines s es)) → All (IsLine own others count) (first_lines s (e ∷ es))
    go true h ih =
        subst (All (IsLine own others count)) (sym (first_here s e es h))
        (All-cons (IsLine own others count) e.line (first_lines s es) ((All-head (IsEntry own others count) e es a).1) (ih (All-tail (IsEntry own others count) e es a)))
    go false h ih = subst (All (IsLine own others count)) (sym (first_other s e es h)) (All-nil (IsLine own others count))

-- the states of entries in order have the entries' lines
pub spread_lines : (own others s n : ℕ) (es : List Entry) → Ascends s es → All (λ e. e.state < s + n) es → states_lines own others s (spread s n es) ≡ entry_lines own others es
spread_lines own others s zero [] a h = refl
spread_lines own others s zero (e ∷ es) a h =
    absurd (let p : e.state < s + 0 = All-head (λ e. e.state < s + 0) e es h in let q : s ≤ e.state = a.0 in omega (arith, p, q))
spread_lines own others s (suc n) es a h =
    let e : s + suc n ≡ s + 1 + n = omega arith in
    let k : All (λ e. e.state < s + 1 + n) es = subst (λ m. All (λ e. e.state < m) es) e h in
    ap (λ ls. state_lines own others s (first_lines s es) ++ ls) (spread_lines own others (s + 1) n (behind_state s es) (behind_ascends s es a) (behind_all (λ e. e.state < s + 1 + n) s es k))
    ∙ sym (first_split own others s es)

pub spread_ranged : (own others count s n : ℕ) (es : List Entry) → All (IsEntry own others count) es → All (All (IsLine own others count)) (spread s n es)
spread_ranged own others count s zero es h = All-nil (All (IsLine own others count))
spread_ranged own others count s (suc n) es h =
    All-cons (All (IsLine own others count)) (first_lines s es) (spread (s + 1) n (behind_state s es)) (first_all own others count s es h)
    (spread_ranged own others count (s + 1) n (behind_state s es) (behind_all (IsEntry own others count) s es h))

pub spread_length : (s n : ℕ) (es : List Entry) → length (spread s n es) ≡ n
spread_length s zero es = refl
spread_length s (suc n) es = ap suc (spread_length (s + 1) n (behind_state s es))

-- the entries of states
abbrev pub flat_lines : ℕ → List Line → List Entry
flat_lines s [] = []
flat_lines s (l ∷ ls) = entry s l ∷ flat_lines s ls

abbrev pub flat : ℕ → List (List Line) → List Entry
flat s [] = []
flat s (ls ∷ rest) = flat_lines s ls ++ flat (s + 1) rest

flat_lines_text : (own others s : ℕ) (ls : List Line) (es : List Entry) → entry_lines own others (flat_lines s ls ++ es) ≡ state_lines own others s ls ++ entry_lines own others es
flat_lines_text own others s [] es = refl
flat_lines_text own others s (l ∷ ls) es = ap (λ t. line_text own others s l ∷ t) (flat_lines_text own others s ls es)

pub flat_text : (own others s : ℕ) (states : List (List Line)) → entry_lines own others (flat s states) ≡ states_lines own others s states
flat_text own others s [] = refl
flat_text own others s (ls ∷ rest) =
    flat_lines_text own others s ls (flat (s + 1) rest) ∙ ap (λ t. state_lines own others s ls ++ t) (flat_text own others (s + 1) rest)

less_ascends : (from to : ℕ) (es : List Entry) → from ≤ to → Ascends to es → Ascends from es
less_ascends from to [] l a = tt
less_ascends from to (e ∷ es) l a = let b = a.0 in (omega (arith, l, b), a.1)

flat_lines_ascends : (s : ℕ) (ls : List Line) (es : List Entry) → Ascends s es → Ascends s (flat_lines s ls ++ es)
flat_lines_ascends s [] es a = a
flat_lines_ascends s (l ∷ ls) es a = (omega arith, flat_lines_ascends s ls es a)

pub flat_ascends : (s : ℕ) (states : List (List Line)) → Ascends s (flat s states)
flat_ascends s [] = tt
flat_ascends s (ls ∷ rest) = flat_lines_ascends s ls (flat (s + 1) rest) (less_ascends s (s + 1) (flat (s + 1) rest) (omega arith) (flat_ascends (s + 1) rest))

flat_lines_ranged : (own others count s : ℕ) (ls : List Line) → s < count → All (IsLine own others count) ls → All (IsEntry own others count) (flat_lines s ls)
flat_lines_ranged own others count s [] l h = All-nil (IsEntry own others count)
flat_lines_ranged own others count s (m ∷ ls) l h =
    All-cons (IsEntry own others count) (entry s m) (flat_lines s ls) (l, All-head (IsLine own others count) m ls h) (flat_lines_ranged own others count s ls l (All-tail (IsLine own others count) m ls h))

pub flat_ranged : (own others count s : ℕ) (states : List (List Line)) → s + length states ≤ count → All (All (IsLine own others count)) states → All (IsEntry own others count) (flat s states)
flat_ranged own others count s [] l h = All-nil (IsEntry own others count)
flat_ranged own others count s (ls ∷ rest) l h =
    let m : s + suc (length rest) ≤ count = l in
    All-append (IsEntry own others count) (flat_lines s ls) (flat (s + 1) rest) (flat_lines_ranged own others count s ls (omega (arith, m)) (All-head (All (IsLine own others count)) ls rest h)) (flat_ranged own others count (s + 1) rest (omega (arith, m)) (All-tail (All (IsLine own others count)) ls rest h))

-- later entries have no line of an earlier state
none_first : (s : ℕ) (es : List Entry) → Ascends (s + 1) es → (first_lines s es ≡ []) × (behind_state s es ≡ es)
none_first s [] a = (refl, refl)
none_first s (e ∷ es) a =
    let b : s + 1 ≤ e.state = a.0 in
    let n : nat_eq e.state s ≡ false = ne_eqb e.state s (λ e. omega arith) in
    (first_other s e es n, behind_other s e es n)

flat_first : (s : ℕ) (ls : List Line) (es : List Entry) → Ascends (s + 1) es → (first_lines s (flat_lines s ls ++ es) ≡ ls) × (behind_state s (flat_lines s ls ++ es) ≡ es)
flat_first s [] es a = none_first s es a
flat_first s (l ∷ ls) es a =
    let r = flat_first s ls es a in
    let n : nat_eq s s ≡ true = eq-eqb s s refl in
    (first_here s (entry s l) (flat_lines s ls ++ es) n ∙ ap (λ ks. l ∷ ks) r.0, behind_here s (entry s l) (flat_lines s ls ++ es) n ∙ r.1)

pub spread_flat : (s : ℕ) (states : List (List Line)) → spread s (length states) (flat s states) ≡ states
spread_flat s [] = refl
spread_flat s (ls ∷ rest) =
    let r = flat_first s ls (flat (s + 1) rest) (flat_ascends (s + 1) rest) in
    ap (λ ks. ks ∷ spread (s + 1) (length rest) (behind_state s (flat_lines s ls ++ flat (s + 1) rest))) r.0
    ∙ ap (λ es. ls ∷ spread (s + 1) (length rest) es) r.1
    ∙ ap (λ ks. ls ∷ ks) (spread_flat (s + 1) rest)
