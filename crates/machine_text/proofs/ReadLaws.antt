-- What readers of single lines find.
use Rattle.std.proofs.Common.{String, Global, false, nat_eq, ◌≡◌, ℕ, ◌+◌, ◌<◌, ◌≤◌, ◌^◌, List, [], ◌∷◌, ◌++◌, append-nil, length, get_or, drop, codes, string_bytes, refl, sym, ap, ◌∙◌, subst, arith}
use Rattle.std.specs.Fmt.{decimal}
use Rattle.std.proofs.lemmas.Bool.{false≢true}
use Rattle.std.proofs.lemmas.List.{append_cancel_left, drop_more}
use Rattle.word_core.specs.declared.cubes.Cube.{Cube}
use Rattle.word_core.specs.declared.machines.Line.{Line}
use Rattle.word_core.specs.Cube.{IsCube}
use Rattle.machine_text.specs.Fields.{valuation, pattern, begins_with_digit, BeginsWithNoNumber}
use Rattle.machine_text.specs.Machines.{line_text, spaced}
use Rattle.machine_text.specs.Reading.{IsNumberLine, IsCountLine, IsEntryLine}
use Rattle.machine_text.specs.declared.reading.Entry.{Entry}
use Rattle.machine_text.proofs.FieldLaws.{same_tail}
use Rattle.machine_text.proofs.LassoLaws.{valuation_apart}
use Rattle.machine_text.proofs.EntryLaws.{decimal_apart, pattern_apart, line_parts, line_apart}

not_nil : (rest : List ℕ) → rest ≡ [] → false ≡ nat_eq (length rest) 0 → ⊥
not_nil rest e f = false≢true (f ∙ ap (λ r. nat_eq (length r) 0) e)

pub number_none : (word line rest : List ℕ) → line ≡ word ++ rest → BeginsWithNoNumber decimal rest → IsNumberLine word line → ⊥
number_none word line rest e none l =
    none l.0 [] l.1 refl (append_cancel_left word rest (decimal l.0) (sym e ∙ l.2) ∙ sym (append-nil (decimal l.0)))

pub number_longer : (word line text rest : List ℕ) (n : ℕ) → line ≡ word ++ text → (n < 2 ^ 64) × (begins_with_digit rest ≡ false) × (text ≡ decimal n ++ rest) → false ≡ nat_eq (length rest) 0 → IsNumberLine word line → ⊥
number_longer word line text rest n e h f l =
    let s = append_cancel_left word text (decimal l.0) (sym e ∙ l.2) in
    let r = decimal_apart n l.0 rest [] h.0 l.1 h.1 refl (sym h.2 ∙ s ∙ sym (append-nil (decimal l.0))) in
    not_nil rest r.1 f

-- a count is a number that isn't 0
pub count_none : (line : List ℕ) → (IsNumberLine (codes "states ") line → ⊥) → IsCountLine line → ⊥
count_none line none l = none (l.0, l.2, l.3)

pub count_zero : (line : List ℕ) (n : ℕ) → n ≡ 0 → (n < 2 ^ 64) × (line ≡ codes "states " ++ decimal n) → IsCountLine line → ⊥
count_zero line n z h l =
    let s : decimal n ≡ decimal l.0 = append_cancel_left (codes "states ") (decimal n) (decimal l.0) (sym h.1 ∙ l.3) in
    let r = decimal_apart n l.0 [] [] h.0 l.2 refl refl (ap (λ t. t ++ []) s) in
    let a : n ≡ l.0 = r.0 in
    let b : 0 < l.0 = l.1 in
    omega (arith, a, b, z)

-- the line of a state, field by field: what stands behind each is what the line has there
abbrev pub from_pattern : ℕ → ℕ → Line → List ℕ
from_pattern own others l =
    pattern others l.when ++ (codes " -> " ++ (valuation own l.own ++ 32 ∷ decimal l.next))

abbrev pub from_own : ℕ → Line → List ℕ
from_own own l = valuation own l.own ++ 32 ∷ decimal l.next

pub at_state : (own others n s : ℕ) (l : Line) (line rest : List ℕ) → (n < 2 ^ 64) × (begins_with_digit rest ≡ false) × (line ≡ decimal n ++ rest) → s < 2 ^ 64 → line ≡ line_text own others s l → rest ≡ 32 ∷ from_pattern own others l
at_state own others n s l line rest h k e =
    (decimal_apart n s rest (32 ∷ from_pattern own others l) h.0 k h.1 refl (sym h.2 ∙ e ∙ line_parts own others s l)).1

pub behind_space : (text rest more : List ℕ) → text ≡ 32 ∷ rest → text ≡ 32 ∷ more → rest ≡ more
behind_space text rest more e f = same_tail 32 32 rest more (sym e ∙ f)

pub at_pattern : (own others : ℕ) (c : Cube) (l : Line) (text rest : List ℕ) → IsCube others c × (text ≡ pattern others c ++ rest) → IsCube others l.when → text ≡ from_pattern own others l → rest ≡ codes " -> " ++ from_own own l
at_pattern own others c l text rest h k e = (pattern_apart others c l.when rest (codes " -> " ++ from_own own l) h.0 k (sym h.1 ∙ e)).1

pub behind_arrow : (text rest more : List ℕ) → text ≡ codes " -> " ++ rest → text ≡ codes " -> " ++ more → rest ≡ more
behind_arrow text rest more e f = append_cancel_left (codes " -> ") rest more (sym e ∙ f)

pub at_own : (own b : ℕ) (l : Line) (text rest : List ℕ) → (b < 2 ^ own) × (text ≡ valuation own b ++ rest) → l.own < 2 ^ own → text ≡ from_own own l → rest ≡ 32 ∷ decimal l.next
at_own own b l text rest h k e = (valuation_apart own b l.own rest (32 ∷ decimal l.next) h.0 k (sym h.1 ∙ e)).1

pub at_next_none : (n : ℕ) (text : List ℕ) → BeginsWithNoNumber decimal text → n < 2 ^ 64 → text ≡ decimal n → ⊥
at_next_none n text none h e = none n [] h refl (e ∙ sym (append-nil (decimal n)))

pub at_next_longer : (n m : ℕ) (text rest : List ℕ) → (m < 2 ^ 64) × (begins_with_digit rest ≡ false) × (text ≡ decimal m ++ rest) → false ≡ nat_eq (length rest) 0 → n < 2 ^ 64 → text ≡ decimal n → ⊥
at_next_longer n m text rest h f k e =
    not_nil rest ((decimal_apart m n rest [] h.0 k h.1 refl (sym h.2 ∙ e ∙ sym (append-nil (decimal n)))).1) f

-- names one after another
pub names_first : (line word rest goal : List ℕ) → line ≡ word ++ rest → (rest ≡ goal → line ≡ word ++ goal) × (line ≡ word ++ goal → rest ≡ goal)
names_first line word rest goal e = ((λ f. e ∙ ap (λ r. word ++ r) f), (λ f. append_cancel_left word rest goal (sym e ∙ f)))

names_step : (names : List (String Global)) (i : ℕ) (name : String Global) → i < length names → name ≡ get_or names i name → spaced (drop i names) ≡ 32 ∷ (string_bytes name ++ spaced (drop (i + 1) names))
names_step names i name l e = ap spaced (drop_more names i name l) ∙ ap (λ n. 32 ∷ (string_bytes n ++ spaced (drop (i + 1) names))) (sym e)

pub names_yes : (names : List (String Global)) (i : ℕ) (name : String Global) (G : Type 0) (rest behind bytes next : List ℕ) → i < length names → name ≡ get_or names i name → bytes ≡ string_bytes name → rest ≡ 32 ∷ behind → behind ≡ bytes ++ next → (rest ≡ spaced (drop i names) → G) → next ≡ spaced (drop (i + 1) names) → G
names_yes names i name G rest behind bytes next l e b f g h k =
    h (f ∙ ap (λ t. 32 ∷ t) (g ∙ ap (λ t. t ++ next) b ∙ ap (λ t. string_bytes name ++ t) k) ∙ sym (names_step names i name l e))

pub names_no : (names : List (String Global)) (i : ℕ) (name : String Global) (G : Type 0) (rest behind bytes next : List ℕ) → i < length names → name ≡ get_or names i name → bytes ≡ string_bytes name → rest ≡ 32 ∷ behind → behind ≡ bytes ++ next → (G → rest ≡ spaced (drop i names)) → G → next ≡ spaced (drop (i + 1) names)
names_no names i name G rest behind bytes next l e b f g h k =
    append_cancel_left (string_bytes name) next (spaced (drop (i + 1) names))
    (ap (λ t. t ++ next) (sym b) ∙ sym g ∙ same_tail 32 32 behind (string_bytes name ++ spaced (drop (i + 1) names)) (sym f ∙ h k ∙ names_step names i name l e))

-- an entry out of range is the line of no state in range
pub not_within : (own others from count : ℕ) (text : List ℕ) (e : Entry) → count ≤ 2 ^ 64 → e.state < 2 ^ 64 → e.line.next < 2 ^ 64 → IsCube others e.line.when → e.line.own < 2 ^ own → text ≡ line_text own others e.state e.line → ((from ≤ e.state) × (e.state < count) × (e.line.next < count) → ⊥) → IsEntryLine own others from count text → ⊥
not_within own others from count text e big a b h k t n l =
    let lower : l.0 < count = l.3 in
    let next : l.1.next < count = l.4.2 in
    let s = line_apart own others (2 ^ 64) e.state l.0 e.line l.1 (omega arith) a (omega (arith, lower, big)) (h, k, b) (l.4.0, l.4.1, omega (arith, next, big)) (sym t ∙ l.5) in
    n (subst (λ x. from ≤ x) (sym s.0) l.2, subst (λ x. x < count) (sym s.0) l.3, subst (λ (x : Line). x.next < count) (sym s.1) next)
