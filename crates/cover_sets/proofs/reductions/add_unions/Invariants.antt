use Rattle.cover_sets.specs.Union.{covers_of}
use Rattle.cover_sets.proofs.Unions.{Adding}
use Rattle.cover_sets.proofs.reductions.add_unions.Given as goal

abbrev pub invariant-loop-right : goal.invariant-loop-right
invariant-loop-right l = Adding l.opposites (covers_of l.xs) (covers_of l.ys) l.left l.fn.unions.items l.unions.items l.right
