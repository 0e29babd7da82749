use Rattle.std.proofs.Common.{◌≡◌, sym, subst}
use Rattle.action_groups.specs.Lists.{items_at}
use Rattle.action_groups.specs.Options.{IsOnce}
use Rattle.action_groups.proofs.Lists.{stored_options, lists_inserted}
use Rattle.action_groups.proofs.firsts.put_options.Goals as goal

pub returns-clause-lists : goal.returns-clause-lists
returns-clause-lists c = lists_inserted c.args.firsts.now.options.keys c.insert_full.new.self.keys c.in_ok-options.options _ c.in_ok-label.ensures.keys

pub returns-clause-once : goal.returns-clause-once
returns-clause-once c =
    let s = c.in_ok-label.ensures.stored in
    let options = c.in_ok-options.options.items in
    let e : items_at c.insert_full.new.self.keys c.in_ok-label.label ≡ options = stored_options c.insert_full.new.self.keys c.in_ok-label.label s.0 options s.1 s.2 in
    subst (IsOnce c.args.pairs.items) (sym e) c.in_ok-options.ensures.once
