use Rattle.game_core.proofs.Flats.{flat_removed}
use Rattle.game_core.proofs.tops.take_low.Goals as goal

pub returns-clause-flat : goal.returns-clause-flat
returns-clause-flat c =
    rw c.remove.ensures.items
    (flat_removed c.args.lows.now.items c.leave.new.over.items c.shift.new.over.items c.args.gone c.leave.ensures.flat c.requires.gone c.leave.ensures.left c.shift.ensures.len c.shift.ensures.each)
