-- Lists of pieces of a vector.
use Rattle.std.proofs.Common.{◌≡◌, Bool, true, false, List}
use Rattle.std.specs.Prelude.{ℤ}
use Rattle.std.specs.List.{All, filter}
use Rattle.std.proofs.lemmas.List.Elements.{All-filter}
use Rattle.counter_vec.specs.Counters.{at_or_below, AreCounters}
use Rattle.counter_vec.specs.Orders.{below-trans}
use Rattle.game_core.specs.Front.{IsPiece}
use Rattle.game_core.proofs.Orders.{misses_below}

pub pieces_filtered : (f : List ℤ) (p : List ℤ → Bool) (xs : List (List ℤ)) → All (IsPiece f) xs → All (IsPiece f) (filter p xs)
pieces_filtered f p xs h = All-filter p (IsPiece f) xs h

-- where f is at or below f or is missed, a vector at or below both is a piece
pub meet_piece : (f v p m : List ℤ) → AreCounters m → at_or_below v f ≡ true → (at_or_below m v ≡ true → at_or_below m p ≡ true → at_or_below f m ≡ false) → at_or_below m v ≡ true → at_or_below m p ≡ true → IsPiece f m
meet_piece f v p m low under strict a b = record {
  low = low;
  below = below-trans m v f a under;
  strict = strict a b;
}

-- what is below f and at or below what f misses isn't at or above f
pub first_strict : (f p : List ℤ) → at_or_below f p ≡ false → (m : List ℤ) → at_or_below m f ≡ true → at_or_below m p ≡ true → at_or_below f m ≡ false
first_strict f p miss m a b = misses_below f m p miss b

pub more_strict : (f v p : List ℤ) → at_or_below f v ≡ false → (m : List ℤ) → at_or_below m v ≡ true → at_or_below m p ≡ true → at_or_below f m ≡ false
more_strict f v p miss m a b = misses_below f m v miss a
