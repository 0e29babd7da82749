-- Lines made of cubes.
use Rattle.std.specs.Prelude.{ℕ, List, slice_index, slice_index_or}
use Rattle.word_core.specs.declared.cubes.Cube.{Cube}
use Rattle.word_core.specs.declared.machines.Line.{Line}
use Rattle.game_form.specs.Game.{GameData, action_of, class_of}

-- the line of a cube by the pick of the class of its least valuation
abbrev pub line_by_class : GameData → List (ℕ × ℕ) → Cube × ℕ → Line
line_by_class g picks p =
    record { when = p.0; own = (slice_index_or picks (class_of g p.0.want) (0, 0)).0; next = (slice_index_or picks (class_of g p.0.want) (0, 0)).1 }

-- the line of a cube by the action of the own valuation with its least valuation
abbrev pub line_by_action : GameData → ℕ → List ℕ → Cube × ℕ → Line
line_by_action g own targets p = record { when = p.0; own = own; next = slice_index targets (action_of g own p.0.want) }
