-- Sets of numbers below 512. A set is the number whose bit n is 1 exactly where n is in the set.
use Rattle.std.specs.Prelude.{◌≡◌, ℕ, ◌+◌, ◌*◌, ◌^◌, ◌<◌, Bool, nat_eq, bit_and, bit_or, List, [], ◌∷◌, length, All}
use Rattle.std.specs.Int.{bit_at}
use Rattle.std.specs.List.{filter, range_with_len}
use Rattle.std.specs.Cmp.Lexicographic.{slice_cmp}
use Rattle.std.specs.Ordering.{nat_cmp}
use Rattle.std.specs.declared.cmp.Ordering.{Ordering}

abbrev pub has : ℕ → ℕ → Bool
has set n = nat_eq (bit_at set n) 1

-- each number of one set is in the other
abbrev pub is_part : ℕ → ℕ → Bool
is_part set other = nat_eq (bit_and set other) set

-- the numbers in a set, ascending
unfoldable pub numbers_of : ℕ → List ℕ
numbers_of set = filter (has set) (range_with_len 0 512)

-- the order of the ascending lists, in which a list is before each longer one that it begins
abbrev pub set_cmp : ℕ → ℕ → Ordering
set_cmp a b = slice_cmp nat_cmp (numbers_of a) (numbers_of b)

-- words of 64 bits as one number, the lowest word first
abbrev pub joined : List ℕ → ℕ
joined [] = 0
joined (w ∷ ws) = joined ws * 2 ^ 64 + w

-- eight words of 64 bits
abbrev pub AreWords : List ℕ → Type 0
AreWords words = (length words ≡ 8) × All (λ w. w < 2 ^ 64) words

-- what is in one of the words
abbrev pub or_all : List ℕ → ℕ
or_all [] = 0
or_all (w ∷ ws) = bit_or w (or_all ws)
