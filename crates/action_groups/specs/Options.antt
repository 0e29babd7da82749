-- The options of the valuations of the first side: pairs of a valuation of the second side and the label of both.
use Rattle.std.specs.Prelude.{◌≡◌, ℕ, ◌+◌, ◌*◌, ◌^◌, ◌<◌, ◌≤◌, List, Vec}
use Rattle.std.specs.List.{All, AllPairs, Contains}
use Rattle.std.specs.declared.alloc.Global.{Global}
use Rattle.action_groups.specs.Labels.{HasAtMost}
use Rattle.action_groups.specs.Lists.{items_at}

-- of each number one of the pairs with the least valuation, in the order of these
pub record IsOnce (pairs kept : List (ℕ × ℕ)) : Type 0 where
  pub each : All (Contains pairs) kept
  pub all : All (λ p. HasAtMost kept p.1 p.0) pairs
  pub rising : AllPairs (λ p q. (p.0 ≤ q.0) × (p.1 ≡ q.1 → ⊥)) kept

-- the options of a first valuation: each has the label of its letter, the label of each letter is that of an option
-- whose valuation is at most the letter's, and the valuations ascend
pub record AreOptionsOf (width first : ℕ) (letters : ℕ → ℕ) (options : List (ℕ × ℕ)) : Type 0 where
  pub each : All (λ p. letters (first + p.0 * 2 ^ width) ≡ p.1) options
  pub all : (second : ℕ) → HasAtMost options (letters (first + second * 2 ^ width)) second
  pub rising : AllPairs (λ p q. (p.0 < q.0) × (p.1 ≡ q.1 → ⊥)) options

-- the list that a first valuation leads to has its options
abbrev pub HasOptions : ℕ → (ℕ → ℕ) → (ℕ → ℕ) → List (Vec (ℕ × ℕ) Global) → Type 0
HasOptions width letters firsts lists = (first : ℕ) → first < 2 ^ width → AreOptionsOf width first letters (items_at lists (firsts first))
