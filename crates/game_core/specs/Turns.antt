-- The order in which classes are looked at.
use Rattle.std.specs.Prelude.{ℕ, ◌<◌, List}
use Rattle.std.specs.List.{All}
use Rattle.game_core.specs.declared.turns.Turn.{Turn}

-- turns of some of the first n classes
abbrev pub AreTurns : ℕ → List Turn → Type 0
AreTurns n = All (λ t. t.class < n)
