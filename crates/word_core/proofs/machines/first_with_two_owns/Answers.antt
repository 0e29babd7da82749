use Rattle.std.proofs.Common.{subst}
use Rattle.word_core.specs.Machine.{HasOneOwn}
use Rattle.word_core.proofs.StateLists.{seen_more, seen_all}
use Rattle.word_core.proofs.machines.first_with_two_owns.Goals as goal

pub loop-state-preserved : goal.loop-state-preserved
loop-state-preserved c =
    seen_more HasOneOwn c.args.states.now c.loop-state.state c.index-states-state.result c.loop-state-test.true c.index-states-state.is c.loop-state.invariant
    (subst HasOneOwn c.deref.ensures.value (c.has_one_own.ensures.0 c.if-not-has_one_own.false))

pub returns : goal.returns
returns c = seen_all HasOneOwn c.args.states.now c.loop-state.state c.loop-state-test.false c.loop-state.invariant
