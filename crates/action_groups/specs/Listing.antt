-- Classes as they are listed.
use Rattle.std.specs.Prelude.{ℕ, ◌<◌, ◌^◌, List, length, map, slice_index, Vec}
use Rattle.std.specs.List.{All}
use Rattle.std.specs.declared.alloc.Global.{Global}
use Rattle.game_form.specs.Game.{ClassData}
use Rattle.action_groups.specs.Lists.{items_at}

-- the least valuation is one of the first side, and there is some option, each an action with a valuation of the second side
pub record IsListedClass (width second count : ℕ) (c : ClassData) : Type 0 where
  pub least : c.least < 2 ^ width
  pub some : 0 < length c.options
  pub options : All (λ o. (o.0 < count) × (o.1 < 2 ^ second)) c.options

-- the options with the numbers of their labels in front
abbrev pub with_numbers : List ℕ → List (ℕ × ℕ) → List (ℕ × ℕ)
with_numbers numbers = map (λ p. (slice_index numbers p.1, p.0))

-- the class of a least valuation and the place of its options
abbrev pub class_from : List (Vec (ℕ × ℕ) Global) → List ℕ → ℕ × ℕ → ClassData
class_from lists numbers p = record { least = p.0; options = with_numbers numbers (items_at lists p.1) }
