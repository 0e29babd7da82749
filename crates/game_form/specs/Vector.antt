-- Vectors of counters, one number per lane: successor, predecessor, the initial vector, and the order lane by lane.
use Rattle.std.specs.Prelude.{◌≡◌, ℕ, zero, suc, ℤ, pos, negsuc, ◌+◌, ◌-◌, ◌<◌, ◌≤ℤ◌, List, [], ◌∷◌, length, map, Option, Some, None, nat_eq, nat_le, min, slice_index_or, if◌then◌else◌}
use Rattle.std.specs.Int.{int_min, int_max}
use Rattle.std.specs.List.{range_with_len}
use Rattle.game_form.specs.declared.actions.Step.{Step}
use Rattle.game_form.specs.Game.{GameData, lanes, action_at}

-- the number in a lane
abbrev pub lane : List ℤ → ℕ → ℤ
lane v q = slice_index_or v q (pos 0)

-- one number per lane, by its lane
abbrev pub vector : ℕ → (ℕ → ℤ) → List ℤ
vector n number_of = map number_of (range_with_len 0 n)

-- u is at or below v, lane by lane
pub record AtOrBelow (u v : List ℤ) : Type 0 where
  pub same_length : length u ≡ length v
  pub below : (p : ℕ) → p < length u → lane u p ≤ℤ lane v p

-- a number from 0 on
abbrev pub size_of : ℤ → ℕ
size_of (pos n) = n
size_of (negsuc n) = 0

-- the bound of a game
abbrev pub bound : GameData → ℕ
bound g = size_of g.k

-- the number of a row at a lane: that of the step to it, 0 where no step leads to it
abbrev pub number : List Step → ℕ → ℕ
number [] p = 0
number (s ∷ rest) p = if nat_eq s.to p then size_of s.number else number rest p

-- what a lane's number brings to another lane, at most k + 1; -1 stands for nothing
abbrev pub brought : ℕ → ℤ → ℕ → ℤ
brought k (negsuc m) r = negsuc 0
brought k (pos n) zero = negsuc 0
brought k (pos n) (suc r) = pos (min (k + 1) (n + r))

-- the greatest that all lanes bring to lane p
abbrev pub arrived : ℕ → List (List Step) → List ℤ → ℕ → ℤ
arrived k [] f p = negsuc 0
arrived k (row ∷ rows) [] p = negsuc 0
arrived k (row ∷ rows) (x ∷ f) p = int_max (brought k x (number row p)) (arrived k rows f p)

-- the successor of f under an action
abbrev pub successor : GameData → ℕ → List ℤ → List ℤ
successor g a f = vector (lanes g) (arrived (bound g) (action_at g a) f)

-- the greatest number up to k from which no more than x is brought, -1 where there is none
abbrev pub allowed_for : ℕ → ℤ → ℕ → ℤ
allowed_for k x zero = pos k
allowed_for k (negsuc m) (suc r) = negsuc 0
allowed_for k (pos n) (suc r) = if nat_le r n then pos (n - r) else negsuc 0

-- the least that the numbers of the lanes from p on allow
abbrev pub allowed : ℕ → List Step → ℕ → List ℤ → ℤ
allowed k row p [] = pos k
allowed k row p (x ∷ v) = int_min (allowed_for k x (number row p)) (allowed k row (suc p) v)

-- the predecessor of v under an action
abbrev pub predecessor : GameData → ℕ → List ℤ → List ℤ
predecessor g a v = map (λ row. allowed (bound g) row 0 v) (action_at g a)

-- 0 in the first lane and -1 elsewhere
abbrev pub begins : Option ℕ → ℕ → ℤ
begins None q = negsuc 0
begins (Some first) q = if nat_eq first q then pos 0 else negsuc 0

abbrev pub initial : GameData → List ℤ
initial g = vector (lanes g) (begins g.init)

-- every lane is at the bound
abbrev pub top : GameData → List ℤ
top g = vector (lanes g) (λ q. g.k)

-- a vector of the game: one number per lane, from -1 to the bound
pub record IsVector (g : GameData) (v : List ℤ) : Type 0 where
  pub same_length : length v ≡ lanes g
  pub low : (q : ℕ) → q < length v → negsuc 0 ≤ℤ lane v q
  pub high : (q : ℕ) → q < length v → lane v q ≤ℤ g.k
