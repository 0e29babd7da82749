use Rattle.std.proofs.Common.{◌<◌, ℕ, length, slice_index_or, subst, arith}
use Rattle.game_core.specs.Columns.{IsColumn}
use Rattle.game_core.proofs.ColumnReads.{column_of, columns_set}
use Rattle.game_core.proofs.FullColumns.{grown_set, full_more}
use Rattle.game_core.proofs.searches.fill.Goals as goal

pub fill_wanted-requires-clause-column : goal.fill_wanted-requires-clause-column
fill_wanted-requires-clause-column c =
    let action : ℕ = slice_index_or c.args.options.now c.loop-action.action-index 0 in
    let within : action < length c.args.g.now.actions = c.requires.options c.loop-action.action-index 0 c.loop-action-test.true in
    let lt : action < length c.loop-action.columns = (let n = c.loop-action.invariant.0.same_length in omega arith) in
    subst (IsColumn c.args.g.now action c.args.vectors.now) (column_of c.loop-action.columns action c.index-columns-action.result lt) (c.loop-action.invariant.0.each action within)

pub returns-in_err-fill_wanted-clause-columns : goal.returns-in_err-fill_wanted-clause-columns
returns-in_err-fill_wanted-clause-columns c =
    let action : ℕ = slice_index_or c.args.options.now c.loop-action.action-index 0 in
    let within : action < length c.args.g.now.actions = c.requires.options c.loop-action.action-index 0 c.loop-action-test.true in
    let lt : action < length c.loop-action.columns = (let n = c.loop-action.invariant.0.same_length in omega arith) in
    columns_set c.args.g.now c.args.vectors.now c.loop-action.columns action c.fill_wanted.new.column c.loop-action.invariant.0 lt c.fill_wanted.ensures.column

pub returns-in_err-fill_wanted-clause-grown : goal.returns-in_err-fill_wanted-clause-grown
returns-in_err-fill_wanted-clause-grown c =
    let action : ℕ = slice_index_or c.args.options.now c.loop-action.action-index 0 in
    let within : action < length c.args.g.now.actions = c.requires.options c.loop-action.action-index 0 c.loop-action-test.true in
    let lt : action < length c.loop-action.columns = (let n = c.loop-action.invariant.0.same_length in omega arith) in
    grown_set c.args.columns.now c.loop-action.columns action c.index-columns-action.result c.fill_wanted.new.column c.loop-action.invariant.1 lt c.fill_wanted.ensures.grown

pub loop-action-preserved : goal.loop-action-preserved
loop-action-preserved c =
    let action : ℕ = slice_index_or c.args.options.now c.loop-action.action-index 0 in
    let within : action < length c.args.g.now.actions = c.requires.options c.loop-action.action-index 0 c.loop-action-test.true in
    let lt : action < length c.loop-action.columns = (let n = c.loop-action.invariant.0.same_length in omega arith) in (
      columns_set c.args.g.now c.args.vectors.now c.loop-action.columns action c.fill_wanted.new.column c.loop-action.invariant.0 lt c.fill_wanted.ensures.column,
      grown_set c.args.columns.now c.loop-action.columns action c.index-columns-action.result c.fill_wanted.new.column c.loop-action.invariant.1 lt c.fill_wanted.ensures.grown,
      full_more c.args.vectors.now c.loop-action.columns c.fill_wanted.new.column c.args.options.now c.loop-action.action-index c.loop-action-test.true lt
          c.in_ok-fill_wanted.ensures.full c.loop-action.invariant.2,
    )
