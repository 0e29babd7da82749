use Rattle.std.proofs.Common.{not, rules}
use Rattle.std.proofs.lemmas.Fn.{filter_same}
use Rattle.antichain_list.proofs.lists.drop_below.Goals as goal

pub returns-clause-items : goal.returns-clause-items
returns-clause-items g c =
    let h = c.retain.ensures.filtered in
    filter_same _ (λ e. not (g.E.Entry.below e c.args.v.now)) _ (λ x b f r. (search (rules, r.shows, r.called), search (rules, r.called))) _ _ h
