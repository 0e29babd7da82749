use Rattle.std.proofs.Common.{◌∙◌, List, sym, ap}
use Rattle.std.specs.Prelude.{ℤ}
use Rattle.game_core.specs.Front.{under}
use Rattle.game_core.proofs.Unders.{misses_from, under_absorbs}
use Rattle.game_core.proofs.refinements.add_maximal.Goals as goal

pub returns-then-is_under-clause-under : goal.returns-then-is_under-clause-under
returns-then-is_under-clause-under c = λ u.
    under_absorbs u c.args.piece c.args.kept.now.items
    (ap (λ (vs : List (List ℤ)). under vs c.args.piece) (sym c.deref.ensures.value) ∙ sym c.is_under.ensures ∙ c.if-is_under.true)

pub add_missed-requires-clause-missed : goal.add_missed-requires-clause-missed
add_missed-requires-clause-missed c =
    misses_from c.args.piece c.args.kept.now.items
    (ap (λ (vs : List (List ℤ)). under vs c.args.piece) (sym c.deref.ensures.value) ∙ sym c.is_under.ensures ∙ c.if-is_under.false)
