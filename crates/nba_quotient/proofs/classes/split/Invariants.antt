use Rattle.std.proofs.Common.{◌≡◌, map, length}
use Rattle.nba_quotient.specs.Kinds.{kind_of}
use Rattle.nba_quotient.proofs.Splits.{IsSplit}
use Rattle.nba_quotient.proofs.classes.split.Given as goal

abbrev pub invariant-loop-state : goal.invariant-loop-state
invariant-loop-state l = (length l.of.items ≡ l.state) × IsSplit l.a l.classes.of.items (map kind_of l.kinds.keys) l.of.items
