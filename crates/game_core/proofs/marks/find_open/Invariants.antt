use Rattle.std.proofs.Common.{◌≡◌, ◌+◌, ◌-◌, ◌<◌, ◌≤◌, drop}
use Rattle.game_core.specs.Board.{open_count, open_place}
use Rattle.game_core.proofs.marks.find_open.Given as goal

abbrev pub invariant-loop-i : goal.invariant-loop-i
invariant-loop-i l =
    (l.before ≤ l.number)
    × (l.number - l.before < open_count (drop l.i l.marks))
    × (l.i + open_place (drop l.i l.marks) (l.number - l.before) ≡ open_place l.marks l.number)
