-- Decision trees over some signals.
use Rattle.std.specs.Prelude.{ℕ, ◌<◌, List}
use Rattle.word_core.specs.declared.branches.Branch.{Branch}
use Rattle.word_core.specs.Tree.{IsTree, AllLabels, AllTestBelow}

-- a tree over so many signals, with labels below a number
pub record IsTreeOver (width count : ℕ) (nodes : List Branch) : Type 0 where
  pub tree : IsTree nodes
  pub signals : AllTestBelow width nodes
  pub labels : AllLabels (λ label. label < count) nodes
