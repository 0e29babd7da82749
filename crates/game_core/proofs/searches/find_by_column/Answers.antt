use Rattle.std.proofs.lemmas.Option.{IfSome_then}
use Rattle.game_core.proofs.FullColumns.{column_refuses}
use Rattle.game_core.proofs.Works.{column_works}
use Rattle.game_core.proofs.Weaker.{none_weaker}
use Rattle.game_core.proofs.searches.find_by_column.Goals as goal

pub returns-clause-some : goal.returns-clause-some
returns-clause-some c =
    IfSome_then c.find.result c.find.ensures.under
    (λ _. column_works c.args.g.now c.known.ensures c.args.vectors.now c.args.f.now c.requires.vectors c.requires.entry c.args.action c.requires.action
    c.fill_column.new.column.items c.fill_column.ensures.column)

pub returns-clause-none : goal.returns-clause-none
returns-clause-none c =
    none_weaker c.find.result c.find.ensures.none
    (column_refuses c.args.g.now c.known.ensures c.args.vectors.now c.requires.vectors c.args.f.now c.requires.entry c.args.action c.requires.action
    c.fill_column.new.column.items c.fill_column.ensures.column c.in_ok-fill_column.ensures.full)
