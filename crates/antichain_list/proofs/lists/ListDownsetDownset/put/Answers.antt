use Rattle.std.proofs.Common.{◌≡◌, false}
use Rattle.antichain_list.specs.Antichain.{covered}
use Rattle.antichain_list.proofs.Antichains.{IsAntichain-tried}
use Rattle.antichain_list.proofs.lists.ListDownsetDownset.put.Goals as goal

pub invariant_of-self : goal.invariant_of-self
invariant_of-self g c =
    let free : covered g.E.Entry.below c.args.v c.self.inside.entries.items ≡ false = cc in
    IsAntichain-tried _ _ g.met.E.Entry.laws c.args.v _ _ _ free c.put_entry.ensures.after c.self.invariant
