use Rattle.bonsai_run.proofs.verdicts.decide.Goals as goal

pub returns-clause-verdict : goal.returns-clause-verdict
returns-clause-verdict c =
    (c.in_ok-pair.pair, c.in_ok-pair.ensures.pair, c.in_ok-try_bounds.ensures c.in_ok-pair.pair c.args.spec.now.names c.in_ok-system.ensures.decides c.in_ok-environment.ensures.decides c.in_ok-system.ensures.machine c.in_ok-environment.ensures.machine)
