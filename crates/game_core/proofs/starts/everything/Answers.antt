use Rattle.game_core.proofs.Lifts.{top_start}
use Rattle.game_core.proofs.starts.everything.Goals as goal

pub returns : goal.returns
returns c = rw (c.in_ok-vec.ensures.items, c.in_ok-top.ensures) (top_start c.args.g.now c.known.ensures)
