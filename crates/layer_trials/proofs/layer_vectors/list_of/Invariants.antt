-- The list so far has vectors of the game.
use Rattle.cpre_step.specs.Refinement.{AreVectors}
use Rattle.layer_trials.proofs.layer_vectors.list_of.Given as goal

abbrev pub invariant-loop-lanes : goal.invariant-loop-lanes
invariant-loop-lanes g l = AreVectors l.g l.list
