use Rattle.std.proofs.Common.{arith, List, ap, length, sym, subst}
use Rattle.std.specs.Prelude.{ℤ}
use Rattle.game_core.specs.Columns.{AreColumns, ColumnData}
use Rattle.game_core.proofs.ColumnReads.{empty_columns}
use Rattle.game_core.proofs.Settled.{settled_puts}
use Rattle.game_core.proofs.solvers.solve_from.Goals as goal

pub refine_all-requires-clause-columns : goal.refine_all-requires-clause-columns
refine_all-requires-clause-columns c =
    let g = c.args.g.now in
    let vectors : List (List ℤ) = c.in_ok-entries.entries.vectors.items in
    subst (λ (columns : List ColumnData). AreColumns g vectors columns) (sym c.deref_mut.ensures.value)
    (empty_columns g vectors c.in_ok-columns.columns.items (let m = ap length c.actions.ensures in omega (arith, c.in_ok-columns.ensures.len)) c.in_ok-columns.ensures.empty)

pub returns : goal.returns
returns c =
    settled_puts c.args.g.now c.args.whole c.refine_all.new.entries.vectors.items c.in_ok-downset_of.field-0
    (c.in_ok-refine_all.ensures.settled c.if-branch.false) c.in_ok-downset_of.ensures.list c.in_ok-downset_of.ensures.antichain
