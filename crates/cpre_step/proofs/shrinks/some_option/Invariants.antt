use Rattle.std.proofs.Common.{◌≡◌, ◌||◌, ◌&&◌, drop, List}
use Rattle.std.specs.Prelude.{ℤ}
use Rattle.game_form.specs.Vector.{IsVector}
use Rattle.cpre_step.specs.Refinement.{AreVectors}
use Rattle.cpre_step.proofs.Left.{C, some_of}
use Rattle.cpre_step.proofs.shrinks.some_option.Given as goal

abbrev pub invariant-loop-option : goal.invariant-loop-option
invariant-loop-option g l = AreVectors l.g l.left × ((u : List ℤ) → IsVector l.g u → (C u l.left || (C u l.from && some_of l.g (g.D.Downset.entries l.d) u (drop l.option-index l.class.options))) ≡ (C u l.from && some_of l.g (g.D.Downset.entries l.d) u l.class.options))
