use Rattle.std.proofs.Common.{◌≡◌, ◌||◌, drop, List}
use Rattle.std.specs.Prelude.{ℤ}
use Rattle.cpre_step.specs.Refinement.{AreVectors}
use Rattle.cpre_step.proofs.Left.{C}
use Rattle.cpre_step.proofs.shrinks.put_all.Given as goal

abbrev pub invariant-loop-v : goal.invariant-loop-v
invariant-loop-v l = AreVectors l.g l.left × ((u : List ℤ) → (C u l.left || C u (drop l.v-index l.part)) ≡ (C u l.initial.left || C u l.part))
