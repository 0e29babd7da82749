use Rattle.antichain_list.proofs.Antichains.{IsAntichain-remove}
use Rattle.antichain_list.proofs.lists.ListDownsetDownset.take.Goals as goal

pub invariant_of-self : goal.invariant_of-self
invariant_of-self g c = rw c.remove.ensures.items (IsAntichain-remove _ _ _ _ c.self.invariant)
