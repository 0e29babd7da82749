-- Lists of vectors no two of which are comparable, and how many vectors are at or below a member of a list.
use Rattle.std.specs.Prelude.{◌≡◌, ℕ, zero, suc, ℤ, pos, negsuc, ◌+◌, Bool, true, false, cond, List, [], ◌∷◌, ◌++◌, map}
use Rattle.std.specs.List.{All, list_any, range_with_len}
use Rattle.counter_vec.specs.Counters.{at_or_below, AreCounters}

-- some member of the list is at or above v
abbrev pub under : List (List ℤ) → List ℤ → Bool
under vs v = list_any (λ e. at_or_below v e) vs

-- neither is at or below the other
abbrev pub IsApart : List ℤ → List ℤ → Type 0
IsApart u v = (at_or_below u v ≡ false) × (at_or_below v u ≡ false)

-- v is at or below no member of the list
abbrev pub Misses : List ℤ → List (List ℤ) → Type 0
Misses v = All (λ e. at_or_below v e ≡ false)

-- a vector strictly below f
pub record IsPiece (f p : List ℤ) : Type 0 where
  pub low : AreCounters p
  pub below : at_or_below p f ≡ true
  pub strict : at_or_below f p ≡ false

-- the numbers from -1 to k
abbrev pub numbers : ℕ → List ℤ
numbers k = negsuc 0 ∷ map pos (range_with_len 0 (k + 1))

-- each number before each list
unfoldable pub fronted : List ℤ → List (List ℤ) → List (List ℤ)
fronted [] vs = []
fronted (x ∷ xs) vs = map (λ v. x ∷ v) vs ++ fronted xs vs

-- the vectors of n lanes with numbers from -1 to k
unfoldable pub box : ℕ → ℕ → List (List ℤ)
box k zero = [] ∷ []
box k (suc n) = fronted (numbers k) (box k n)

-- how many pass a test
abbrev pub count_if : {X : Type 0} → (X → Bool) → List X → ℕ
count_if p [] = 0
count_if p (x ∷ xs) = cond (p x) 1 0 + count_if p xs

-- how many of them are at or below a member of the list
unfoldable pub extent : ℕ → ℕ → List (List ℤ) → ℕ
extent k n vs = count_if (under vs) (box k n)
