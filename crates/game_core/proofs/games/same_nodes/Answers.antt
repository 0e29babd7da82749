use Rattle.std.proofs.Common.{arith, refl}
use Rattle.std.proofs.lemmas.List.{ext_get_or}
use Rattle.game_core.specs.Board.{no_node}
use Rattle.game_core.proofs.games.same_nodes.Goals as goal

pub returns : goal.returns
returns c = ((λ h. ext_get_or no_node c.args.xs.now c.args.ys.now (omega arith) (λ k lt. c.loop-i.invariant k (omega arith))), (λ h. refl))
