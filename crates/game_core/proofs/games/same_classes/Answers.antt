use Rattle.std.proofs.Common.{arith, refl}
use Rattle.std.proofs.lemmas.List.{ext_get_or}
use Rattle.game_form.specs.Game.{no_class}
use Rattle.game_core.proofs.games.same_classes.Goals as goal

pub returns : goal.returns
returns c = ((λ h. ext_get_or no_class c.args.xs.now c.args.ys.now (omega arith) (λ k lt. c.loop-i.invariant k (omega arith))), (λ h. refl))
