use Rattle.std.proofs.Common.{◌≡◌, ◌∙◌, arith}
use Rattle.std.proofs.lemmas.List.{get_or_default}
use Rattle.game_core.specs.Flat.{over_at}
use Rattle.game_core.proofs.Flats.{unpointed}
use Rattle.game_core.proofs.tops.leave.Goals as goal

pub returns-then-index-gone-clause-left : goal.returns-then-index-gone-clause-left
returns-then-index-gone-clause-left c = λ j lt apart.
    let read : c.index.result.now ≡ over_at c.args.over.now.items c.args.gone = c.index.ensures ∙ get_or_default c.args.over.now.items c.args.gone c.index.result.now 0 (let n = c.requires.flat.same in let m = c.requires.gone in omega arith) in
    unpointed c.args.lows.now.items c.args.over.now.items c.args.gone c.requires.flat (λ e. c.if-index-gone.true (read ∙ e)) j lt
