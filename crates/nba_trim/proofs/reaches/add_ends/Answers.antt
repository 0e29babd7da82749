use Rattle.nba_trim.proofs.Sources.{finds_end}
use Rattle.nba_trim.proofs.reaches.add_ends.Goals as goal

pub loop-edge-preserved : goal.loop-edge-preserved
loop-edge-preserved c =
    finds_end c.args.edges.now c.args.live.now c.loop-edge.edge-index _ c.args.search.now c.loop-edge.search c.add_if.new.self c.loop-edge-test.true c.loop-edge.invariant c.in_ok-add_if.ensures
