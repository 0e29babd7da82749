-- Labels of trees, and the pairs of valuations and labels that stand for them.
use Rattle.std.specs.Prelude.{◌≡◌, ℕ, ◌+◌, ◌*◌, ◌/◌, ◌^◌, ◌<◌, ◌≤◌, List, length, map, slice_index_or}
use Rattle.std.specs.List.{All}
use Rattle.word_core.specs.declared.branches.Branch.{Branch}
use Rattle.word_core.specs.Tree.{label_at, side}

-- the labels of earlier places stay
abbrev pub KeepsLabels : List Branch → List Branch → Type 0
KeepsLabels before now = (place bits : ℕ) → place < length before → label_at now place bits ≡ label_at before place bits

-- the labels of one tree are those of two others by a signal
abbrev pub IsSplitOf : ℕ → (ℕ → ℕ) → (ℕ → ℕ) → (ℕ → ℕ) → Type 0
IsSplitOf signal low high now = (bits : ℕ) → now bits ≡ side signal (low bits) (high bits) bits

abbrev pub pair_at : List (ℕ × ℕ) → ℕ → ℕ × ℕ
pair_at pairs i = slice_index_or pairs i (0, 0)

-- some pair has the number
abbrev pub HasNumber : List (ℕ × ℕ) → ℕ → Type 0
HasNumber pairs n = (i : ℕ) × (i < length pairs) × ((pair_at pairs i).1 ≡ n)

-- some pair has the number, with a valuation that is at most this one
abbrev pub HasAtMost : List (ℕ × ℕ) → ℕ → ℕ → Type 0
HasAtMost pairs n most = (i : ℕ) × (i < length pairs) × ((pair_at pairs i).1 ≡ n) × ((pair_at pairs i).0 ≤ most)

-- the pairs with the value of a signal before the other signals
abbrev pub shifted : ℕ → List (ℕ × ℕ) → List (ℕ × ℕ)
shifted bit = map (λ p. (2 * p.0 + bit, p.1))

-- the labels of a tree over the signals from a place on: a pair's valuation of these has its label, and the label of each valuation
-- stands in a pair with one that is at most it
pub record IsLabelled (place : ℕ) (labels : ℕ → ℕ) (pairs : List (ℕ × ℕ)) : Type 0 where
  pub each : All (λ p. (bits : ℕ) → bits / 2 ^ place ≡ p.0 → labels bits ≡ p.1) pairs
  pub all : (bits : ℕ) → HasAtMost pairs (labels bits) (bits / 2 ^ place)
