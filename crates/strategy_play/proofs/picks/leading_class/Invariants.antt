use Rattle.std.proofs.Common.{◌≡◌, drop}
use Rattle.std.specs.List.{position_from}
use Rattle.strategy_play.specs.Lead.{lead, all_lead, leader}
use Rattle.strategy_play.proofs.picks.leading_class.Given as goal

abbrev pub invariant-loop-c : goal.invariant-loop-c
invariant-loop-c l = position_from (λ c. all_lead (lead l.nexts) c.options) l.c (drop l.c l.g.classes) ≡ leader (lead l.nexts) l.g.classes
