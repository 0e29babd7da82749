use Rattle.std.proofs.Common.{◌-◌, ◌^◌}
use Rattle.word_core.proofs.gaps.+least_gap.Given as goal

abbrev pub decreases-least_gap : goal.decreases-least_gap
decreases-least_gap l = 2 ^ 64 - l.inner.care
