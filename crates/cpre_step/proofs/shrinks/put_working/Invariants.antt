use Rattle.std.proofs.Common.{◌≡◌, ◌||◌, ◌&&◌, drop, List}
use Rattle.std.specs.Prelude.{ℤ}
use Rattle.game_form.specs.Vector.{IsVector}
use Rattle.cpre_step.specs.Refinement.{AreVectors, action_works}
use Rattle.cpre_step.proofs.Left.{C}
use Rattle.cpre_step.proofs.shrinks.put_working.Given as goal

abbrev pub invariant-loop-i : goal.invariant-loop-i
invariant-loop-i g l = AreVectors l.g l.left × ((u : List ℤ) → IsVector l.g u → (C u l.left || (C u l.from && action_works l.g (drop l.i (g.D.Downset.entries l.d)) u l.action)) ≡ (C u l.initial.left || (C u l.from && action_works l.g (g.D.Downset.entries l.d) u l.action)))
