use Rattle.std.proofs.Common.{◌≡◌, List, sym, ◌∙◌, subst}
use Rattle.std.specs.Prelude.{pos, ◌≤ℤ◌}
use Rattle.std.specs.List.{All}
use Rattle.game_form.specs.declared.actions.Step.{Step}
use Rattle.game_form.specs.Game.{lanes}
use Rattle.game_core.proofs.Options.{row_numbers}
use Rattle.game_core.proofs.plans.action_at_most.Goals as goal

pub row_at_most-requires-clause-a : goal.row_at_most-requires-clause-a
row_at_most-requires-clause-a c =
    let row : List Step = c.row.result.now in
    let P : List Step → Type 0 = λ s. All (λ x. (pos 1 ≤ℤ x.number) × (x.number ≤ℤ pos 2)) s in
    let e : c.deref.result.now ≡ row = c.deref.ensures.value ∙ c.behind-g.view_is in
    subst P (sym e) (row_numbers (lanes c.args.g.now) 0 row c.row.ensures.known)

pub row_at_most-requires-clause-b : goal.row_at_most-requires-clause-b
row_at_most-requires-clause-b c =
    let row : List Step = c.row-in-loop-q.result.now in
    let P : List Step → Type 0 = λ s. All (λ x. (pos 1 ≤ℤ x.number) × (x.number ≤ℤ pos 2)) s in
    let e : c.deref-in-loop-q.result.now ≡ row = c.deref-in-loop-q.ensures.value ∙ c.behind-g-in-loop-q.view_is in
    subst P (sym e) (row_numbers (lanes c.args.g.now) 0 row c.row-in-loop-q.ensures.known)
