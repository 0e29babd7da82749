use Rattle.std.proofs.Common.{sym, ap, subst, length}
use Rattle.std.specs.List.{All}
use Rattle.std.proofs.lemmas.List.Elements.{All-weaker}
use Rattle.game_form.specs.Game.{other_width}
use Rattle.strategy_play.specs.Splitting.{AreSplit}
use Rattle.strategy_play.specs.State.{IsState}
use Rattle.word_core.specs.Machine.{MachineData}
use Rattle.strategy_play.specs.Strategy.{IsStrategy}
use Rattle.strategy_play.proofs.Faults.{no_fault, is_machine}
use Rattle.strategy_play.proofs.Kept.{made_keeps}
use Rattle.strategy_play.proofs.Least.{least_machine}
use Rattle.strategy_play.proofs.machines.extract.Goals as goal

pub unreachable-requires : goal.unreachable-requires
unreachable-requires c =
    no_fault _ (is_machine c.args.g.now c.player.result c.kind.result c.inputs.result c.outputs.result c.in_ok-states.states.items c.known.ensures
    c.player.ensures c.kind.ensures c.inputs.ensures c.outputs.ensures c.in_ok-states.ensures.some c.in_ok-states.ensures.states) c.in-Err.field-0 c.in-Err.ensures.fault

pub returns-clause-exact : goal.returns-clause-exact
returns-clause-exact c =
    let same = sym (ap (λ (m : MachineData). m.states) c.in-Ok.ensures.ok) in
    let states = subst (All (IsState c.args.g.now (length c.in_ok-states.states.items))) same c.in_ok-states.ensures.states in
    let split = All-weaker (IsState c.args.g.now (length c.in_ok-states.states.items)) (AreSplit (other_width c.args.g.now)) (λ lines is. is.split) c.in-Ok.machine.states states in
    λ letters covers order. least_machine c.args.g.now c.known.ensures c.args.d.now c.in-Ok.machine.states letters covers order split (subst (IsStrategy c.args.g.now c.args.d.now) same c.in_ok-states.ensures.strategy)

pub returns-clause-keeps : goal.returns-clause-keeps
returns-clause-keeps c =
    made_keeps c.args.g.now c.args.d.now c.in-Ok.machine c.player.result c.kind.result c.inputs.result c.outputs.result c.in_ok-states.states.items c.known.ensures c.requires.vectors
    c.in-Ok.ensures.ok c.player.ensures c.kind.ensures c.inputs.ensures c.outputs.ensures c.in_ok-states.ensures.some c.in_ok-states.ensures.states c.in_ok-states.ensures.strategy
