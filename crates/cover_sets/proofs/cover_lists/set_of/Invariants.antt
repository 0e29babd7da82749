use Rattle.std.proofs.Common.{◌≡◌, take}
use Rattle.cover_sets.specs.Cover.{set_from}
use Rattle.cover_sets.specs.Numbers.{AreWords, joined}
use Rattle.cover_sets.proofs.cover_lists.set_of.Given as goal

abbrev pub invariant-loop-n : goal.invariant-loop-n
invariant-loop-n l = AreWords l.members.0 × (joined l.members.0 ≡ set_from (take l.n-index l.numbers))
