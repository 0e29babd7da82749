use Rattle.std.proofs.Common.{sym, arith, subst, length, List, ◌<◌}
use Rattle.std.specs.Prelude.{ℤ}
use Rattle.game_form.specs.Vector.{IsVector}
use Rattle.counter_vec.proofs.Galois.{vector-predecessor}
use Rattle.cpre_step.proofs.Left.{all_at, working_more}
use Rattle.cpre_step.proofs.shrinks.put_working.Goals as goal

pub put_meets-requires-clause-most : goal.put_meets-requires-clause-most
put_meets-requires-clause-most g c =
    subst (IsVector c.args.g.now) (sym c.in_ok-most.ensures) (vector-predecessor c.args.g.now c.known.ensures c.args.action c.requires.action c.entry.result.now)

pub loop-i-preserved : goal.loop-i-preserved
loop-i-preserved g c =
    let entries : List (List ℤ) = g.D.Downset.entries c.args.d.now in
    let e : List ℤ = c.entry.result.now in
    let lt : c.loop-i.i < length entries = omega arith in
    let vector_e : IsVector c.args.g.now e = all_at (IsVector c.args.g.now) entries c.loop-i.i e lt c.entry.ensures c.requires.entries in (
      c.put_meets.ensures.vectors,
      working_more c.args.g.now c.known.ensures c.args.left.now c.loop-i.left c.put_meets.new.left c.args.from.now entries e c.in_ok-most.most c.args.action c.loop-i.i
          c.requires.action lt c.entry.ensures vector_e c.in_ok-most.ensures c.in_ok-put_meets.ensures.covers c.loop-i.invariant.1,
    )
