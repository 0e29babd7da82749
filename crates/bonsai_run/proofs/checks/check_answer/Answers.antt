use Rattle.std.proofs.Common.{subst}
use Rattle.dual_game.specs.Automata.{IsAutomatonOf}
use Rattle.bonsai_run.proofs.Answering.{is_checked}
use Rattle.bonsai_run.proofs.checks.check_answer.Goals as goal

pub returns-clause-answer : goal.returns-clause-answer
returns-clause-answer c = λ texts name machine as_written of under.
    is_checked texts name machine c.args.bound as_written c.args.spec.now c.args.text.now c.in_ok-machine.machine c.in_ok-a.a c.in_ok-kept.kept c.in_ok-kept_answer.field-0 of under c.requires.short c.states.ensures.valid c.in_ok-machine.ensures.value
    (subst (λ p. IsAutomatonOf c.args.spec.now p c.in_ok-a.a) c.player.ensures c.in_ok-a.ensures.made) c.in_ok-kept.ensures c.in_ok-kept_answer.ensures.valid c.in_ok-kept_answer.ensures.over
