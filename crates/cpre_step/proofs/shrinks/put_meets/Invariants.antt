use Rattle.std.proofs.Common.{◌≡◌, ◌||◌, ◌&&◌, drop, List}
use Rattle.std.specs.Prelude.{ℤ}
use Rattle.counter_vec.specs.Counters.{at_or_below}
use Rattle.cpre_step.specs.Refinement.{AreVectors}
use Rattle.cpre_step.proofs.Left.{C}
use Rattle.cpre_step.proofs.shrinks.put_meets.Given as goal

abbrev pub invariant-loop-v : goal.invariant-loop-v
invariant-loop-v l = AreVectors l.g l.left × ((u : List ℤ) → (C u l.left || (C u (drop l.v-index l.from) && at_or_below u l.most)) ≡ (C u l.initial.left || (C u l.from && at_or_below u l.most)))
