use Rattle.std.proofs.Common.{length, subst}
use Rattle.std.specs.List.{All}
use Rattle.word_core.specs.Machine.{IsLine}
use Rattle.word_core.proofs.StateLists.{seen_more, seen_all}
use Rattle.word_core.proofs.machines.first_out_of_range.Goals as goal

pub loop-state-preserved : goal.loop-state-preserved
loop-state-preserved c =
    let states = c.args.states.now in
    let P = All (IsLine c.args.own c.args.others (length states)) in
    seen_more P states c.loop-state.state c.index-states-state.result c.loop-state-test.true c.index-states-state.is c.loop-state.invariant
    (subst P c.deref.ensures.value (c.lines_fit.ensures.0 c.if-not-lines_fit.false))

pub returns : goal.returns
returns c =
    let states = c.args.states.now in
    let P = All (IsLine c.args.own c.args.others (length states)) in
    seen_all P states c.loop-state.state c.loop-state-test.false c.loop-state.invariant
