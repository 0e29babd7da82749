use Rattle.std.proofs.Common.{◌≡◌, take, drop, ◌++◌}
use Rattle.antichain_list.specs.Antichain.{placed}
use Rattle.antichain_list.proofs.lists.place.Given as goal

abbrev pub invariant-loop-i : goal.invariant-loop-i
invariant-loop-i g l = take l.i l.entries.items ++ placed g.E.Entry.order l.v (drop l.i l.entries.items) ≡ placed g.E.Entry.order l.v l.entries.items
