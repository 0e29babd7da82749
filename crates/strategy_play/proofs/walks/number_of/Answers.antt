use Rattle.std.proofs.Common.{◌≡◌, ◌∙◌, sym, subst, length, set, arith, Some, None, ◌<◌}
use Rattle.std.proofs.lemmas.List.{get_or_read}
use Rattle.strategy_play.specs.Lead.{lead}
use Rattle.strategy_play.specs.Walk.{IsWalk}
use Rattle.strategy_play.proofs.Walked.{walk_push}
use Rattle.strategy_play.proofs.walks.number_of.Goals as goal

pub returns-in-Some-clause-within : goal.returns-in-Some-clause-within
returns-in-Some-clause-within c =
    let numbers = c.args.walk.now.numbers.items in
    let at : lead numbers c.args.entry ≡ Some c.in-Some.number = sym (get_or_read numbers c.args.entry c.index.result.now c.requires.entry c.index.ensures None) ∙ c.in-Some.is in
    (c.requires.walk.numbered c.args.entry c.in-Some.number at).0

pub returns-in-Some-clause-turn : goal.returns-in-Some-clause-turn
returns-in-Some-clause-turn c =
    let numbers = c.args.walk.now.numbers.items in
    let at : lead numbers c.args.entry ≡ Some c.in-Some.number = sym (get_or_read numbers c.args.entry c.index.result.now c.requires.entry c.index.ensures None) ∙ c.in-Some.is in
    let within : c.in-Some.number < length c.args.walk.now.order.items = (c.requires.walk.numbered c.args.entry c.in-Some.number at).0 in
    (omega arith, omega arith)

pub returns-clause-walk : goal.returns-clause-walk
returns-clause-walk c =
    let numbers = c.args.walk.now.numbers.items in
    let order = c.args.walk.now.order.items in
    let at : lead numbers c.args.entry ≡ None = sym (get_or_read numbers c.args.entry c.index.result.now c.requires.entry c.index.ensures None) ∙ c.in_default.is in
    let number : length order ≡ c.len-number.result = omega arith in
    subst (λ n. IsWalk (length numbers) (set numbers c.args.entry (Some n)) c.push.new.self.items) number
    (subst (IsWalk (length numbers) (set numbers c.args.entry (Some (length order)))) (sym c.in_ok-push.ensures.items)
    (walk_push (length numbers) c.args.entry numbers order c.requires.walk c.requires.entry at))
