use Rattle.counter_vec.specs.Orders.{below-refl}
use Rattle.game_core.specs.Flat.{low_at}
use Rattle.game_core.proofs.tops.find_other.Goals as goal

pub returns-clause-above : goal.returns-clause-above
returns-clause-above c = below-refl (low_at c.args.lows.now.items c.args.place)
