use Rattle.std.proofs.Common.{◌-◌, length}
use Rattle.nba_quotient.specs.Classes.{AreClasses}
use Rattle.nba_quotient.proofs.classes.classes_of.Given as goal

abbrev pub invariant-loop-classes : goal.invariant-loop-classes
invariant-loop-classes l = AreClasses (length l.a.states) l.classes

-- each turn but the last one finds more classes
abbrev pub decreases-loop-classes : goal.decreases-loop-classes
decreases-loop-classes l = length l.a.states - length l.classes.leasts.items
