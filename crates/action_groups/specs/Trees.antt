-- The trees of edges that remain at places, as they are noted.
use Rattle.std.specs.Prelude.{ℕ, ◌+◌, ◌-◌, ◌<◌, Bool, List, length, Vec}
use Rattle.std.specs.declared.alloc.Global.{Global}
use Rattle.word_core.specs.declared.branches.Branch.{Branch}
use Rattle.word_core.specs.Tree.{label_at}
use Rattle.action_groups.specs.declared.orders.Order.{Order}
use Rattle.action_groups.specs.Labels.{IsLabelled}
use Rattle.action_groups.specs.Memo.{Note}
use Rattle.action_groups.specs.Options.{HasOptions}
use Rattle.action_groups.specs.Part.{ArePairs}
use Rattle.action_groups.specs.Sides.{leads}
use Rattle.action_groups.specs.Tests.{HasEffects}

-- a node of the tree of letters leads to what the edges do that allow a valuation from the place on, and the pairs are
-- those of its labels
pub record IsRestTree (order : Order) (nodes : List Branch) (effects : List (Vec (ℕ × ℕ × Bool) Global)) (n : Note) : Type 0 where
  pub within : n.letter < length nodes
  pub ranged : ArePairs (order.inputs + order.outputs - n.place) (length effects) n.pairs
  pub some : 0 < length n.pairs
  pub labelled : IsLabelled n.place (label_at nodes n.letter) n.pairs
  pub exact : HasEffects order n.place (label_at nodes n.letter) effects n.ways

-- and a node of the tree of first valuations leads to their options, and the pairs are those of its labels
pub record IsFirstTree (order : Order) (letters : List Branch) (effects : List (Vec (ℕ × ℕ × Bool) Global)) (firsts : List Branch) (lists : List (Vec (ℕ × ℕ) Global)) (n : Note) : Type 0 where
  pub letter_within : n.letter < length letters
  pub within : n.first < length firsts
  pub ranged : ArePairs (leads order - n.place) (length lists) n.pairs
  pub some : 0 < length n.pairs
  pub labelled : IsLabelled n.place (label_at firsts n.first) n.pairs
  pub exact : HasEffects order n.place (label_at letters n.letter) effects n.ways
  pub chosen : HasOptions (leads order) (label_at letters n.letter) (label_at firsts n.first) lists
