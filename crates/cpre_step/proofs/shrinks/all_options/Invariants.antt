use Rattle.std.proofs.Common.{◌≡◌, ◌&&◌, drop, List}
use Rattle.std.specs.Prelude.{ℤ}
use Rattle.game_form.specs.Vector.{IsVector}
use Rattle.counter_vec.specs.Counters.{at_or_below}
use Rattle.cpre_step.specs.Refinement.{AreVectors}
use Rattle.cpre_step.proofs.Left.{C, all_of}
use Rattle.cpre_step.proofs.shrinks.all_options.Given as goal

abbrev pub invariant-loop-option : goal.invariant-loop-option
invariant-loop-option g l = AreVectors l.g l.left × ((u : List ℤ) → IsVector l.g u → (C u l.left && all_of l.g (g.D.Downset.entries l.d) u (drop l.option-index l.class.options)) ≡ (at_or_below u l.f && all_of l.g (g.D.Downset.entries l.d) u l.class.options))
