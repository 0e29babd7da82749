use Rattle.cover_sets.proofs.FormulaRows.{consistent_row}
use Rattle.cover_sets.proofs.tables.row_of.Goals as goal

pub returns-in-Ok-clause-consistent : goal.returns-in-Ok-clause-consistent
returns-in-Ok-clause-consistent c = consistent_row c.args.opposites.now c.new.result c.in-Ok.list.items c.in-Ok.ensures.consistent c.new.ensures
