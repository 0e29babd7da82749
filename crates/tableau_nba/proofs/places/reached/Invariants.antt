use Rattle.std.proofs.Common.{◌≡◌, ◌+◌, drop}
use Rattle.cover_sets.specs.Bits.{sets_of}
use Rattle.tableau_nba.specs.Walks.{met, risen}
use Rattle.tableau_nba.proofs.places.reached.Given as goal

abbrev pub invariant-loop-at : goal.invariant-loop-at
invariant-loop-at l = risen l.untils l.level (sets_of l.cover) ≡ l.at + met (drop l.at l.untils) (sets_of l.cover).postponed
