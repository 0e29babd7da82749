-- What loops over the states of a machine have seen so far.
use Rattle.std.proofs.Common.{Vec, Global, ◌≡◌, ℕ, ◌+◌, ◌<◌, ◌≤◌, List, [], length, map, get_or, sym, ap, ◌∙◌, subst, inl, inr, arith}
use Rattle.std.specs.List.{All}
use Rattle.std.proofs.lemmas.List.{get_or-map, length-map}
use Rattle.std.proofs.lemmas.List.Elements.{All-from_get_or}
use Rattle.std.proofs.lemmas.Bool.{cases_lt}
use Rattle.word_core.specs.declared.machines.Line.{Line}
use Rattle.word_core.specs.Machine.{IsLeastWithout}

abbrev pub Lines : Type 0
Lines = Vec Line Global

abbrev pub lines_of : Lines → List Line
lines_of v = v.items

module _ (P : List Line → Type 0) (xs : List Lines) where
  pub at_map : (i : ℕ) (x : Lines) → i < length xs → x ≡ get_or xs i x → get_or (map lines_of xs) i [] ≡ lines_of x
  at_map i x l e = get_or-map lines_of xs i x [] l ∙ ap lines_of (sym e)

  pub seen_more : (i : ℕ) (x : Lines) → i < length xs → x ≡ get_or xs i x → ((k : ℕ) → k < i → P (get_or (map lines_of xs) k [])) → P (lines_of x) → (k : ℕ) → k < i + 1 → P (get_or (map lines_of xs) k [])
  seen_more i x l e h p k m = elim (cases_lt k i) [ inl lt ↦ h k lt | inr ge ↦ (let same : k ≡ i = omega arith in subst (λ v. P (get_or (map lines_of xs) v [])) (sym same) (subst P (sym (at_map i x l e)) p)) ]

  pub seen_all : (i : ℕ) → length xs ≤ i → ((k : ℕ) → k < i → P (get_or (map lines_of xs) k [])) → All P (map lines_of xs)
  seen_all i l h = All-from_get_or P (map lines_of xs) [] (λ k m. let e = length-map xs lines_of in h k (omega arith))

  pub seen_least : (i : ℕ) (x : Lines) → i < length xs → x ≡ get_or xs i x → ((k : ℕ) → k < i → P (get_or (map lines_of xs) k [])) → (P (lines_of x) → ⊥) → IsLeastWithout P (map lines_of xs) i
  seen_least i x l e h n = (subst (λ v. i < v) (sym (length-map xs lines_of)) l, λ p. n (subst P (at_map i x l e) p), h)
