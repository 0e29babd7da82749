use Rattle.game_core.proofs.Works.{some_works_by}
use Rattle.game_core.proofs.searches.answer_one.Goals as goal

pub returns-then-is_answered-clause-some : goal.returns-then-is_answered-clause-some
returns-then-is_answered-clause-some c =
    some_works_by c.args.g.now c.known.ensures c.args.vectors.now c.args.f.now c.requires.vectors c.requires.entry c.args.columns.now c.requires.columns c.args.options.now
    c.requires.options (c.is_answered.ensures c.if-is_answered.true)
