use Rattle.std.proofs.Common.{◌+◌, sym, subst}
use Rattle.nba_trim.proofs.Numbering.{AreBelow, below_more}
use Rattle.nba_trim.proofs.numbers.kept_of.Goals as goal

pub loop-q-preserved : goal.loop-q-preserved
loop-q-preserved c =
    subst (AreBelow c.args.reached.now (c.loop-q.q + 1)) (sym c.in_ok-push_if.ensures) (below_more c.args.reached.now c.loop-q.q c.loop-q.kept.items c.loop-q.invariant)
