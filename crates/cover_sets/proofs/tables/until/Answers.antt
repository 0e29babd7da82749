use Rattle.std.proofs.Common.{ap, ◌∙◌}
use Rattle.cover_sets.specs.Union.{covers_of}
use Rattle.cover_sets.proofs.FormulaRows.{until_consistent}
use Rattle.cover_sets.proofs.tables.until.Goals as goal

pub reduced_list-requires-clause-raw : goal.reduced_list-requires-clause-raw
reduced_list-requires-clause-raw c =
    until_consistent c.args.opposites.now _ c.in_ok-fs.fs.now c.in_ok-gs.gs.now c.deref.result.now c.in_ok-fs.ensures.consistent c.in_ok-gs.ensures.consistent
    (ap covers_of c.deref.ensures.value ∙ c.in_ok-raw.ensures.value)
