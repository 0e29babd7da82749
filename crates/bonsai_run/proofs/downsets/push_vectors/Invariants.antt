use Rattle.std.proofs.Common.{◌≡◌, ◌++◌, drop}
use Rattle.bonsai_run.specs.Answers.{vector_lines}
use Rattle.bonsai_run.proofs.downsets.push_vectors.Given as goal

abbrev pub invariant-loop-vector : goal.invariant-loop-vector
invariant-loop-vector l = l.text.items ++ vector_lines (drop l.vector-index l.vectors) ≡ l.fn.text.items ++ vector_lines l.vectors
