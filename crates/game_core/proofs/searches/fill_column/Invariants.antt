use Rattle.std.proofs.Common.{◌≡◌, length}
use Rattle.game_core.specs.Columns.{IsColumn}
use Rattle.game_core.proofs.searches.fill_column.Given as goal

abbrev pub invariant-loop-j : goal.invariant-loop-j
invariant-loop-j l = IsColumn l.g l.action l.vectors l.column.items × (length l.column.items ≡ l.j)
