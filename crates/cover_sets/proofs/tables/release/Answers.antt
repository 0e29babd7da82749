use Rattle.std.proofs.Common.{◌∙◌}
use Rattle.cover_sets.proofs.FormulaRows.{release_consistent}
use Rattle.cover_sets.proofs.tables.release.Goals as goal

pub product-requires-clause-ys : goal.product-requires-clause-ys
product-requires-clause-ys c =
    release_consistent c.args.opposites.now c.in_ok-fs.fs.now c.deref-2.result.now _ _ c.later.result c.in_ok-fs.ensures.consistent
    _ c.later.ensures (c.deref-2.ensures.value ∙ c.in_ok-ends-2.ensures) c.deref.ensures.value c.in_ok-ends.ensures
