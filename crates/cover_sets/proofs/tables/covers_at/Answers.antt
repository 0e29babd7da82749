use Rattle.std.proofs.Common.{subst, sym}
use Rattle.cover_sets.specs.Cover.{IsRowConsistent}
use Rattle.cover_sets.proofs.FormulaRows.{list_consistent}
use Rattle.cover_sets.proofs.tables.covers_at.Goals as goal

pub returns-clause-consistent : goal.returns-clause-consistent
returns-clause-consistent c =
    list_consistent c.args.opposites.now c.index-rows-n.result (λ list. list.now) c.list.result
    (subst (IsRowConsistent c.args.opposites.now) (sym c.index-rows-n.is) (c.requires.rows c.args.n c.index-rows-n.result c.requires.place)) c.list.ensures.value
