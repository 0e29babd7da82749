-- Lists of options: pairs of a valuation of the second side and a label.
use Rattle.std.specs.Prelude.{ℕ, ◌<◌, List, length, Vec}
use Rattle.std.specs.List.{All}
use Rattle.std.specs.declared.alloc.Global.{Global}
use Rattle.action_groups.specs.Part.{ArePairs}

-- each list has some option, with labels below the count
abbrev pub AreOptions : ℕ → ℕ → List (Vec (ℕ × ℕ) Global) → Type 0
AreOptions second count = All (λ o. ArePairs second count o.items × (0 < length o.items))
