use Rattle.std.proofs.Common.{◌≡◌, ◌||◌, ◌&&◌, drop, List}
use Rattle.std.specs.Prelude.{ℤ}
use Rattle.game_form.specs.Vector.{IsVector}
use Rattle.counter_vec.specs.Counters.{at_or_below}
use Rattle.cpre_step.specs.Refinement.{AreVectors}
use Rattle.cpre_step.proofs.Left.{C, any_class}
use Rattle.cpre_step.proofs.shrinks.shrunk_first.Given as goal

abbrev pub invariant-loop-c : goal.invariant-loop-c
invariant-loop-c g l = AreVectors l.g l.left × ((u : List ℤ) → IsVector l.g u → (C u l.left || (at_or_below u l.f && any_class l.g (g.D.Downset.entries l.d) u (drop l.c l.g.classes))) ≡ (at_or_below u l.f && any_class l.g (g.D.Downset.entries l.d) u l.g.classes))
