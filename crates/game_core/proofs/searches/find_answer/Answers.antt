use Rattle.std.proofs.Common.{◌≡◌, ◌<◌, ℕ, false, length, slice_index_or, subst, take_all, arith}
use Rattle.std.proofs.lemmas.List.Elements.{All-more}
use Rattle.cpre_step.specs.Refinement.{action_works}
use Rattle.game_core.specs.Columns.{IsColumn}
use Rattle.game_core.specs.Plan.{NoneWorks}
use Rattle.game_core.proofs.ColumnReads.{column_of, columns_set}
use Rattle.game_core.proofs.searches.find_answer.Goals as goal

pub find_for_option-requires-clause-column : goal.find_for_option-requires-clause-column
find_for_option-requires-clause-column c =
    let action : ℕ = slice_index_or c.args.options.now c.loop-action.action-index 0 in
    let within : action < length c.args.g.now.actions = c.requires.options c.loop-action.action-index 0 c.loop-action-test.true in
    let lt : action < length c.loop-action.columns = (let n = c.loop-action.invariant.0.same_length in omega arith) in
    subst (IsColumn c.args.g.now action c.args.vectors.now) (column_of c.loop-action.columns action c.index-columns-action.result lt) (c.loop-action.invariant.0.each action within)

pub returns-in_err-place-clause-columns : goal.returns-in_err-place-clause-columns
returns-in_err-place-clause-columns c =
    let action : ℕ = slice_index_or c.args.options.now c.loop-action.action-index 0 in
    let within : action < length c.args.g.now.actions = c.requires.options c.loop-action.action-index 0 c.loop-action-test.true in
    let lt : action < length c.loop-action.columns = (let n = c.loop-action.invariant.0.same_length in omega arith) in
    columns_set c.args.g.now c.args.vectors.now c.loop-action.columns action c.find_for_option.new.column c.loop-action.invariant.0 lt c.find_for_option.ensures.column

pub returns-in-Some-clause-columns : goal.returns-in-Some-clause-columns
returns-in-Some-clause-columns c =
    let action : ℕ = slice_index_or c.args.options.now c.loop-action.action-index 0 in
    let within : action < length c.args.g.now.actions = c.requires.options c.loop-action.action-index 0 c.loop-action-test.true in
    let lt : action < length c.loop-action.columns = (let n = c.loop-action.invariant.0.same_length in omega arith) in
    columns_set c.args.g.now c.args.vectors.now c.loop-action.columns action c.find_for_option.new.column c.loop-action.invariant.0 lt c.find_for_option.ensures.column

pub loop-action-preserved : goal.loop-action-preserved
loop-action-preserved c =
    let action : ℕ = slice_index_or c.args.options.now c.loop-action.action-index 0 in
    let within : action < length c.args.g.now.actions = c.requires.options c.loop-action.action-index 0 c.loop-action-test.true in
    let lt : action < length c.loop-action.columns = (let n = c.loop-action.invariant.0.same_length in omega arith) in (
      columns_set c.args.g.now c.args.vectors.now c.loop-action.columns action c.find_for_option.new.column c.loop-action.invariant.0 lt c.find_for_option.ensures.column,
      All-more (λ a. action_works c.args.g.now c.args.vectors.now c.args.f.now a ≡ false) c.args.options.now c.loop-action.action-index 0 c.loop-action-test.true
          c.loop-action.invariant.1 (rw c.in_default.is at c.in_ok-place.ensures.none),
    )

pub returns-clause-none : goal.returns-clause-none
returns-clause-none c =
    subst (NoneWorks c.args.g.now c.args.vectors.now c.args.f.now) (take_all c.loop-action.action-index c.args.options.now (omega arith)) c.loop-action.invariant.1
