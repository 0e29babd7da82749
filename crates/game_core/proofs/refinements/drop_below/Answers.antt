use Rattle.std.proofs.Common.{not, rules}
use Rattle.std.proofs.lemmas.Fn.{filter_same}
use Rattle.counter_vec.specs.Counters.{at_or_below}
use Rattle.game_core.proofs.refinements.drop_below.Goals as goal

pub returns : goal.returns
returns c =
    filter_same _ (λ e. not (at_or_below e c.args.v.now)) _ (λ x b f r. (search (rules, r.shows, r.called), search (rules, r.called))) _ _ c.retain.ensures.filtered
