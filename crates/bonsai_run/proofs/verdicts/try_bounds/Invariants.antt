use Rattle.std.proofs.Common.{◌≡◌, ◌≤◌, ◌-◌}
use Rattle.dual_game.specs.Winning.{with_bound}
use Rattle.bonsai_run.specs.Turns.{AreStarts}
use Rattle.bonsai_run.proofs.Trying.{Trying}
use Rattle.bonsai_run.proofs.verdicts.try_bounds.Given as goal

abbrev pub invariant-loop-games : goal.invariant-loop-games
invariant-loop-games l =
    (l.bound ≤ l.bounds.last) × Trying l.bounds l.fn.system l.fn.environment l.bound
    × (l.games.0 ≡ with_bound l.bound l.fn.system) × (l.games.1 ≡ with_bound l.bound l.fn.environment)
    × AreStarts l.games.0 l.games.1 l.starts

abbrev pub decreases-loop-games : goal.decreases-loop-games
decreases-loop-games l = l.bounds.last - l.bound
