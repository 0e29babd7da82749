use Rattle.game_core.proofs.Flats.{flat_pushed}
use Rattle.game_core.proofs.tops.push_pointing.Goals as goal

pub returns-clause-flat : goal.returns-clause-flat
returns-clause-flat c =
    rw (c.in_ok-push.ensures.items, c.in-Ok.ensures.items, c.reserve.ensures.items)
    (flat_pushed c.args.lows.now.items c.args.over.now.items c.args.low c.args.to c.requires.flat c.requires.within c.requires.top c.requires.above)
