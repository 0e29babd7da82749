use Rattle.std.proofs.Common.{◌≡◌, drop}
use Rattle.strategy_play.specs.Lead.{lead, pick}
use Rattle.strategy_play.proofs.picks.first_option.Given as goal

abbrev pub invariant-loop-option : goal.invariant-loop-option
invariant-loop-option l = pick (lead l.nexts) (drop l.option-index l.class.options) ≡ pick (lead l.nexts) l.class.options
