use Rattle.std.proofs.Common.{◌≡◌, take}
use Rattle.word_core.specs.Cube.{IsCube}
use Rattle.cover_sets.specs.Bits.{set_of}
use Rattle.tableau_nba.specs.Walks.{cube_in}
use Rattle.tableau_nba.proofs.cubes.cube_of.Given as goal

abbrev pub invariant-loop-literal : goal.invariant-loop-literal
invariant-loop-literal l = IsCube l.signals l.cube × (l.cube ≡ cube_in (take l.literal-index l.literals) (set_of l.set))
