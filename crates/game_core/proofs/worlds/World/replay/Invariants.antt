use Rattle.std.proofs.Common.{◌≡◌, length, take}
use Rattle.game_core.specs.World.{Replays, opened_world}
use Rattle.game_core.proofs.worlds.World.replay.Given as goal

abbrev pub invariant-loop-e : goal.invariant-loop-e
invariant-loop-e l =
    Replays (opened_world l.fn.g.value l.workers) (take l.e-index l.events) l.world l.answers.items × (length l.world.numbers ≡ l.workers)
