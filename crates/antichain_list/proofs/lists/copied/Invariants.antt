use Rattle.std.proofs.Common.{◌≡◌, take}
use Rattle.antichain_list.proofs.lists.copied.Given as goal

abbrev pub invariant-loop-e : goal.invariant-loop-e
invariant-loop-e g l = l.copies.items ≡ take l.e-index l.entries.items
