use Rattle.action_groups.proofs.Unique.{alike}
use Rattle.action_groups.proofs.laws.grouping_is_one.Goals as goal

pub returns : goal.returns
returns c = alike c.args.a.now c.args.g.now c.args.h.now c.known.ensures c.known-2.ensures c.requires.sides c.requires.one c.requires.other
