use Rattle.word_core.specs.declared.names.Player.TheVariants.{System, Environment}
use Rattle.dual_game.specs.Automata.{IsAutomatonOf, IsLimitOfPair}
use Rattle.dual_game.proofs.Avoiding.{avoids, environment_walk, passed_on}
use Rattle.dual_game.proofs.games.automata.Goals as goal

pub returns-clause-pair : goal.returns-clause-pair
returns-clause-pair c = record {
  system = avoids c.args.s.now System c.in_ok-negated.negated.nodes c.in_ok-negated.negated.root c.in_ok-negated.ensures.normal c.signals_of.result c.signals_of.ensures c.in_ok-negated.ensures.meaning
      c.in_ok-trimmed.field-0 c.in_ok-trimmed.ensures.tableau c.in_ok-trimmed.ensures.accepts;
  environment = avoids c.args.s.now Environment c.in_ok-positive.positive.nodes c.in_ok-positive.positive.root c.in_ok-positive.ensures.normal c.signals_of-2.result c.signals_of-2.ensures c.in_ok-positive.ensures.meaning
      c.in_ok-trimmed-2.field-0 c.in_ok-trimmed-2.ensures.tableau c.in_ok-trimmed-2.ensures.accepts;
}

pub returns-in_err-trimmed-2-clause-limit : goal.returns-in_err-trimmed-2-clause-limit
returns-in_err-trimmed-2-clause-limit c =
    let system : IsAutomatonOf c.args.s.now System c.in_ok-trimmed.field-0 =
    avoids c.args.s.now System c.in_ok-negated.negated.nodes c.in_ok-negated.negated.root c.in_ok-negated.ensures.normal c.signals_of.result c.signals_of.ensures c.in_ok-negated.ensures.meaning
    c.in_ok-trimmed.field-0 c.in_ok-trimmed.ensures.tableau c.in_ok-trimmed.ensures.accepts in
    let limit = environment_walk c.args.s.now c.in_ok-negated.ensures.few c.in_ok-positive.ensures.few c.in_ok-positive.positive.nodes c.in_ok-positive.positive.root c.signals_of-2.result c.signals_of-2.ensures
    c.in_ok-trimmed.field-0 system c.in_ok-positive.ensures.normal c.in_err-trimmed-2.field-0.0 c.in_err-trimmed-2.ensures.limit in
    passed_on c.from_residual-in_err-trimmed-2.result c.in_err-trimmed-2.field-0.0 (IsLimitOfPair c.args.s.now) c.from_residual-in_err-trimmed-2.ensures.1 limit
