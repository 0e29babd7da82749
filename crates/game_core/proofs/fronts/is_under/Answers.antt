use Rattle.std.proofs.Common.{◌∙◌}
use Rattle.game_core.proofs.Unders.{found_under}
use Rattle.game_core.proofs.fronts.is_under.Goals as goal

pub returns : goal.returns
returns c = c.is_some.ensures ∙ found_under c.find_cover.result c.args.v.now c.args.vectors.now c.find_cover.ensures.under c.find_cover.ensures.none
