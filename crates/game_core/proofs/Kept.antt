-- What boards keep.
use Rattle.std.proofs.Common.{◌≡◌, ℕ, zero, suc, ◌<◌, List, [], ◌∷◌, length, arith}
use Rattle.std.specs.Prelude.{ℤ, pos}
use Rattle.std.proofs.lemmas.Int.{ints}
use Rattle.std.proofs.lemmas.List.FromFn.{get_or-map-range_with_len, length-map-range_with_len}
use Rattle.game_form.specs.Game.{GameData, IsGame, lanes}
use Rattle.game_form.specs.Vector.{IsVector, lane, top}
use Rattle.std.specs.List.{AllByRecursion, remove}
use Rattle.antichain_list.specs.Antichain.{added}
use Rattle.antichain_list.specs.Covering.{all_added}
use Rattle.counter_vec.specs.Counters.{at_or_below, lexicographic}
use Rattle.game_core.specs.Board.{puts}

pub vector-top : (g : GameData) → IsGame g → IsVector g (top g)
vector-top g known =
    let len = length-map-range_with_len (λ (q : ℕ). g.k) 0 (lanes g) in
    let each : (q : ℕ) → q < length (top g) → lane (top g) q ≡ g.k = λ q lt. get_or-map-range_with_len (λ (p : ℕ). g.k) 0 (lanes g) q q (pos 0) (omega arith) (omega arith) in
    let low = known.low in
    record {
      same_length = omega arith;
      low = λ q lt. rw (each q lt) (omega (arith, ints));
      high = λ q lt. rw (each q lt) (omega (arith, ints));
    }

pub all_removed : {X : Type 0} (P : X → Type 0) (xs : List X) (i : ℕ) → AllByRecursion P xs → AllByRecursion P (remove xs i)
all_removed P [] zero h = tt
all_removed P [] (suc i) h = tt
all_removed P (x ∷ xs) zero h = h.1
all_removed P (x ∷ xs) (suc i) h = (h.0, all_removed P xs i h.1)

pub all_puts : (P : List ℤ → Type 0) (list vectors : List (List ℤ)) → AllByRecursion P list → AllByRecursion P vectors → AllByRecursion P (puts list vectors)
all_puts P list [] h k = h
all_puts P list (v ∷ vectors) h k = all_puts P (added at_or_below lexicographic v list) vectors (all_added P at_or_below lexicographic v list k.0 h) k.1
