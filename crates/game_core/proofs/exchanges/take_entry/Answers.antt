use Rattle.game_core.specs.Known.{HaveAnswers}
use Rattle.game_core.proofs.Replacements.{answers_removed}
use Rattle.game_core.proofs.exchanges.take_entry.Goals as goal

pub returns-clause-answers : goal.returns-clause-answers
returns-clause-answers c = λ slots h.
    let k : HaveAnswers slots c.remove-note.new.self.items = rw c.remove-note.ensures.items (answers_removed slots _ c.args.place h) in
    c.forget.ensures.answers slots k
