use Rattle.std.proofs.Common.{sym}
use Rattle.std.proofs.lemmas.List.Folds.{list_any_none}
use Rattle.counter_vec.specs.Counters.{at_or_below}
use Rattle.game_core.proofs.fronts.is_likely_under.Goals as goal

pub returns-in-None : goal.returns-in-None
returns-in-None c = sym (list_any_none (λ e. at_or_below c.args.v.now e) c.args.vectors.now c.in-None.ensures.none)
