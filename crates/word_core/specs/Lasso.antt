-- Ultimately periodic words: a stem, and a cycle that repeats for ever.
use Rattle.std.specs.Prelude.{ℕ, zero, suc, ◌+◌, ◌-◌, ◌%◌, List, [], ◌∷◌, ◌++◌, length, Option, Some, None, slice_get, nat_lt, if◌then◌else◌}
use Rattle.word_core.specs.declared.cubes.Letter.{Letter}

pub record LassoData : Type 0 where
  pub stem : List Letter
  pub cycle : List Letter

-- the number of positions, which are 0 up to it
abbrev pub size : LassoData → ℕ
size w = length w.stem + length w.cycle

-- letter n of the endless unrolling
abbrev pub letter_at : LassoData → ℕ → Option Letter
letter_at w n =
    (if nat_lt n (length w.stem)
    then slice_get w.stem n
    else slice_get w.cycle ((n - length w.stem) % length w.cycle))

-- its bits
abbrev pub bits_of : Option Letter → ℕ
bits_of None = 0
bits_of (Some x) = x.0

abbrev pub bits_at : LassoData → ℕ → ℕ
bits_at w n = bits_of (letter_at w n)

-- the first n letters of the unrolling
abbrev pub prefix : LassoData → ℕ → List ℕ
prefix w zero = []
prefix w (suc n) = prefix w n ++ bits_at w n ∷ []
