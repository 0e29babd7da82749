use Rattle.std.proofs.Common.{sym, ◌∙◌, ap, subst, arith, rules}
use Rattle.dual_game.specs.Winning.{with_bound}
use Rattle.bonsai_run.specs.Turns.{IsTurn}
use Rattle.bonsai_run.proofs.Trying.{trying_first, wins, goes_on, ends, has_letters, covers_letters, in_order, starts_at}
use Rattle.bonsai_run.proofs.verdicts.try_bounds.Goals as goal

pub winner-requires-clause-system_letters : goal.winner-requires-clause-system_letters
winner-requires-clause-system_letters c = has_letters c.args.system c.loop-games.games.0 c.loop-games.bound c.loop-games.invariant.2 c.requires.system_letters

pub winner-requires-clause-system_covers : goal.winner-requires-clause-system_covers
winner-requires-clause-system_covers c = covers_letters c.args.system c.loop-games.games.0 c.loop-games.bound c.loop-games.invariant.2 c.requires.system_covers

pub winner-requires-clause-environment_letters : goal.winner-requires-clause-environment_letters
winner-requires-clause-environment_letters c = has_letters c.args.environment c.loop-games.games.1 c.loop-games.bound c.loop-games.invariant.3 c.requires.environment_letters

pub winner-requires-clause-environment_covers : goal.winner-requires-clause-environment_covers
winner-requires-clause-environment_covers c = covers_letters c.args.environment c.loop-games.games.1 c.loop-games.bound c.loop-games.invariant.3 c.requires.environment_covers

pub winner-requires-clause-system_order : goal.winner-requires-clause-system_order
winner-requires-clause-system_order c = in_order c.args.system c.loop-games.games.0 c.loop-games.bound c.loop-games.invariant.2 c.requires.system_order

pub winner-requires-clause-environment_order : goal.winner-requires-clause-environment_order
winner-requires-clause-environment_order c = in_order c.args.environment c.loop-games.games.1 c.loop-games.bound c.loop-games.invariant.3 c.requires.environment_order

pub returns-in-Won : goal.returns-in-Won
returns-in-Won c =
    let g = c.loop-games.games.0 in
    let h = c.loop-games.games.1 in
    let turn : IsTurn g h c.in_ok-machine.field-0 = c.in_ok-machine.ensures in
    wins c.args.bounds c.args.system c.args.environment c.loop-games.bound c.loop-games.invariant.1 c.requires.last g h c.loop-games.invariant.2 c.loop-games.invariant.3 c.in-Won.machine
    (subst (IsTurn g h) c.in-Won.is turn)

pub loop-games-preserved : goal.loop-games-preserved
loop-games-preserved c =
    let g = c.loop-games.games.0 in
    let h = c.loop-games.games.1 in
    let turn : IsTurn g h c.in_ok-machine.field-0 = c.in_ok-machine.ensures in
    let lost = subst (IsTurn g h) c.in-Lost.is turn in
    let g_new = c.at_bound-games-in-Some.ensures.system ∙ ap (with_bound c.in-Some.next) c.loop-games.invariant.2 in
    let h_new = c.at_bound-games-in-Some.ensures.environment ∙ ap (with_bound c.in-Some.next) c.loop-games.invariant.3 in (
      c.in-Some.ensures.within,
      goes_on c.args.bounds c.args.system c.args.environment c.loop-games.bound c.loop-games.invariant.1 c.requires.last g h c.loop-games.invariant.2 c.loop-games.invariant.3 c.requires.bounds c.in-Some.next
          (lost.0, lost.1) (sym c.after.ensures.value ∙ c.in-Some.is),
      g_new,
      h_new,
      starts_at g h c.at_bound-games-in-Some.result.0 c.at_bound-games-in-Some.result.1 c.args.system c.args.environment c.loop-games.bound c.in-Some.next _ c.in_ok-starts-in-Some.starts
          c.loop-games.invariant.2 c.loop-games.invariant.3 g_new h_new (let up = c.in-Some.ensures.rises in omega arith) c.in_ok-starts-in-Some.ensures,
    )

pub returns-in-None : goal.returns-in-None
returns-in-None c =
    let g = c.loop-games.games.0 in
    let h = c.loop-games.games.1 in
    let turn : IsTurn g h c.in_ok-machine.field-0 = c.in_ok-machine.ensures in
    let lost = subst (IsTurn g h) c.in-Lost.is turn in
    λ pair names system environment system_shares environment_shares.
    ends c.args.bounds c.args.system c.args.environment c.loop-games.bound c.loop-games.invariant.1 c.requires.last g h c.loop-games.invariant.2 c.loop-games.invariant.3 (lost.0, lost.1)
    (sym c.after.ensures.value ∙ c.in-None.is) pair names system environment

pub loop-games-init : goal.loop-games-init
loop-games-init c = (search rules, trying_first c.args.bounds c.args.system c.args.environment c.requires.bounds, c.at_bound-games.ensures.system, c.at_bound-games.ensures.environment, c.in_ok-starts.ensures)
