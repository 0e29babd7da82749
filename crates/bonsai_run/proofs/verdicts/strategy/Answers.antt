use Rattle.bonsai_run.proofs.verdicts.strategy.Goals as goal

pub returns-clause-held : goal.returns-clause-held
returns-clause-held c = record {
  vectors = c.args.list.now;
  held = c.requires.list.exact c.requires.letters c.requires.covers;
  ascending = c.ascends.ensures;
  machine = c.in_ok-machine.ensures.exact c.requires.letters c.requires.covers c.requires.order;
}
