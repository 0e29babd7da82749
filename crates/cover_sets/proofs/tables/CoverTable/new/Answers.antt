use Rattle.std.proofs.Common.{ap, ◌∙◌, []}
use Rattle.cover_sets.specs.Covers.{opposites, rows_after}
use Rattle.cover_sets.proofs.FormulaRows.{table_made}
use Rattle.cover_sets.proofs.tables.CoverTable.new.Goals as goal

pub returns-clause-value : goal.returns-clause-value
returns-clause-value c =
    table_made c.args.f.now.nodes c.in_ok-opposites.opposites.items c.in_ok-rows.rows.items (c.in_ok-opposites.ensures.value ∙ ap opposites c.nodes.ensures.value)
    (c.in_ok-rows.ensures.value ∙ ap (λ ps. rows_after ps [] c.nodes-2.result.now) c.deref.ensures.value ∙ ap (rows_after c.in_ok-opposites.opposites.items []) c.nodes-2.ensures.value)
