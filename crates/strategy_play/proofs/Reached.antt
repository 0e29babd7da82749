-- States are met before they are numbered.
use Rattle.std.proofs.Common.{Vec, Global, ◌≡◌, ℕ, ◌<◌, List, [], ◌∷◌, ◌++◌, length, map, take, sym, ◌∙◌, ap, subst, arith, inl, inr}
use Rattle.std.specs.List.{Contains, flat_map}
use Rattle.std.proofs.lemmas.Bool.{cases_lt}
use Rattle.std.proofs.lemmas.List.{length-map, length_push, map_push, take_all, take-append-le}
use Rattle.word_core.specs.declared.machines.Line.{Line}
use Rattle.strategy_play.specs.Walk.{InTurn, nexts_of}
use Rattle.strategy_play.proofs.Faults.{lines_in}
use Rattle.strategy_play.proofs.Turns.{turns_have}

-- the state that is made next is the next of a line that is there
pub met_more : (states : List (Vec Line Global)) (made : Vec Line Global) (count : ℕ) → length states < count → InTurn 1 (flat_map nexts_of (map lines_in states)) count
    → ((s : ℕ) → 0 < s → s < length states → Contains (flat_map nexts_of (take s (map lines_in states))) s)
    → (s : ℕ) → 0 < s → s < length (states ++ made ∷ []) → Contains (flat_map nexts_of (take s (map lines_in (states ++ made ∷ [])))) s
met_more states made count seen turns old s some less = elim (cases_lt s (length states)) [
  | inl before ↦ subst (λ lss. Contains (flat_map nexts_of lss) s) (sym (ap (take s) (map_push lines_in states made) ∙ take-append-le s (map lines_in states) (lines_in made ∷ []) (omega (arith, size)))) (old s some before)
  | inr behind ↦ (let here : length states ≡ s = omega (arith, less, length_push states made) in
      subst (λ lss. Contains (flat_map nexts_of lss) s) (sym (ap (take s) (map_push lines_in states made) ∙ take-append-le s (map lines_in states) (lines_in made ∷ []) (omega (arith, size)) ∙ take_all s (map lines_in states) (omega (arith, size))))
      (turns_have 1 (flat_map nexts_of (map lines_in states)) count s turns (omega arith) (omega (arith, here, seen))))
]
  where
    size : length (map lines_in states) ≡ length states
    size = length-map states lines_in
