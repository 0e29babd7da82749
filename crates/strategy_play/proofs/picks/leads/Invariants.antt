use Rattle.std.proofs.Common.{◌≡◌, drop}
use Rattle.strategy_play.specs.Lead.{lead, all_lead}
use Rattle.strategy_play.proofs.picks.leads.Given as goal

abbrev pub invariant-loop-option : goal.invariant-loop-option
invariant-loop-option l = all_lead (lead l.nexts) (drop l.option-index l.class.options) ≡ all_lead (lead l.nexts) l.class.options
