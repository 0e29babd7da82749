use Rattle.std.proofs.Common.{◌≡◌, ◌∙◌, ap, sym, subst, refl}
use Rattle.game_form.specs.Game.{GameData}
use Rattle.game_core.specs.Board.{BoardData, opened}
use Rattle.game_core.specs.Journal.{IsRun}
use Rattle.game_core.specs.Solved.{Covers, IsSolution}
use Rattle.game_core.proofs.Greatest.{top_covers}
use Rattle.game_core.proofs.Runs.{journal_of, stopped_ends}
use Rattle.game_core.proofs.finishes.solve_logged.Goals as goal

pub returns-clause-solution : goal.returns-clause-solution
returns-clause-solution c =
    let g = c.args.g in
    let first : c.in_ok-b.b ≡ opened g = c.in_ok-b.ensures ∙ ap opened c.in_ok-new.ensures.ok in
    let game : c.run.new.b.game ≡ g = c.run.ensures.game ∙ ap (λ (b : BoardData). b.game) first in
    let before : Covers c.in_ok-b.b.game c.in_ok-b.b.list = subst (λ (b : BoardData). Covers b.game b.list) (sym first) (top_covers g) in
    let covers : Covers c.run.new.b.game c.run.new.b.list = subst (λ (h : GameData). Covers h c.run.new.b.list) (sym c.run.ensures.game) (c.run.ensures.covers before) in
    subst (λ (h : GameData). IsSolution h c.args.whole c.in_ok-answer.answer) game (c.in_ok-answer.ensures.solution covers)

pub returns-clause-journal : goal.returns-clause-journal
returns-clause-journal c =
    let first : c.in_ok-b.b ≡ opened c.args.g = c.in_ok-b.ensures ∙ ap opened c.in_ok-new.ensures.ok in
    record {
      last = c.run.new.b;
      run = subst (λ (b : BoardData). IsRun c.args.whole b c.run.new.steps.items c.run.new.b) first
          (journal_of c.args.whole c.in_ok-b.b c.run.new.b c.new-steps.result.items c.run.new.steps.items c.new-steps.ensures.items (c.in_ok-lost.ensures.journal refl)
          (stopped_ends c.args.whole c.in_ok-lost.lost c.run.new.b c.in_ok-lost.ensures.stopped));
      answers = c.in_ok-answer.ensures.answer;
    }
