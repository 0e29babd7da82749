use Rattle.std.proofs.Common.{◌∙◌, ◌||◌, ◌&&◌, ap, ℕ, List}
use Rattle.std.proofs.lemmas.Result.{on_ok_weaker}
use Rattle.counter_vec.specs.Counters.{at_or_below}
use Rattle.game_core.specs.Flat.{picked}
use Rattle.game_core.specs.Front.{under}
use Rattle.game_core.proofs.refinements.add_column.Goals as goal

pub returns-clause-under : goal.returns-clause-under
returns-clause-under c =
    on_ok_weaker c.add_first.result
    (λ h u. h u
    ∙ ap (λ (xs : List ℕ). under c.args.kept.now.items u || (at_or_below u c.args.f.now && under (picked c.args.column.now.items xs) u)) c.deref.ensures.value
    ∙ ap (λ b. under c.args.kept.now.items u || (at_or_below u c.args.f.now && b)) (c.in_ok-tops.ensures.under u))
    c.add_first.ensures.under
