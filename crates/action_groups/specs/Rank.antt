-- Labels numbered by their least valuations.
use Rattle.std.specs.Prelude.{◌≡◌, ℕ, ◌<◌, List, length, slice_index}
use Rattle.std.specs.List.{All}
use Rattle.word_core.specs.declared.branches.Branch.{Branch}
use Rattle.word_core.specs.declared.branches.Branch.TheVariants.{Leaf, Split}
use Rattle.action_groups.specs.Labels.{pair_at}
use Rattle.action_groups.specs.Options.{IsOnce}
use Rattle.action_groups.specs.Part.{ArePairs}
use Rattle.action_groups.specs.declared.ranks.Ranked.{Ranked}

-- some label stands in the order, and each has a number of it
pub record IsRanked (width count : ℕ) (r : Ranked) : Type 0 where
  pub order : ArePairs width count r.order.items
  pub some : 0 < length r.order.items
  pub each : length r.numbers.items ≡ count
  pub numbers : All (λ n. n < length r.order.items) r.numbers.items

abbrev pub LabelIn : ℕ → Branch → Type 0
LabelIn count (Leaf label) = label < count
LabelIn count (Split signal low high) = Unit {0}

abbrev pub with_number : List ℕ → Branch → Branch
with_number numbers (Leaf label) = Leaf (slice_index numbers label)
with_number numbers (Split signal low high) = Split signal low high

-- the order has each label once with its least valuation, and the number of each pair's label is its place there
pub record IsNumbering (pairs order : List (ℕ × ℕ)) (numbers : List ℕ) : Type 0 where
  pub once : IsOnce pairs order
  pub placed : All (λ p. (slice_index numbers p.1 < length order) × ((pair_at order (slice_index numbers p.1)).1 ≡ p.1)) pairs
