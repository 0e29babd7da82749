use Rattle.std.proofs.Common.{arith}
use Rattle.std.specs.List.{list_any}
use Rattle.game_core.proofs.Options.{any_gives}
use Rattle.game_core.proofs.plans.all_replaced.Goals as goal

pub returns : goal.returns
returns c = λ _ test respects. any_gives test (list_any test c.args.b.now) c.args.a.now (λ k d lt h. c.loop-x.invariant test respects k d (omega arith) h)
