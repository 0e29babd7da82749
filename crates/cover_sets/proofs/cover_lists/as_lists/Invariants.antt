use Rattle.std.proofs.Common.{◌≡◌, map, take}
use Rattle.cover_sets.specs.Cover.{lists_of}
use Rattle.cover_sets.specs.Union.{covers_of}
use Rattle.cover_sets.proofs.cover_lists.as_lists.Given as goal

abbrev pub invariant-loop-cover : goal.invariant-loop-cover
invariant-loop-cover l = l.lists.items ≡ map lists_of (covers_of (take l.cover-index l.covers))
