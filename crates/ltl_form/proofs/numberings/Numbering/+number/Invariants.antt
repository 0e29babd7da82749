use Rattle.std.proofs.Common.{◌+◌, ◌*◌, ◌-◌}
use Rattle.ltl_form.proofs.numberings.Numbering.+number.Given as goal

-- a new number takes one level of nesting
abbrev pub decreases-new_number : goal.decreases-new_number
decreases-new_number l = 4 * (512 - l.depth) + 1

abbrev pub decreases-number : goal.decreases-number
decreases-number l = 4 * (512 - l.depth) + 2

abbrev pub decreases-two_numbers : goal.decreases-two_numbers
decreases-two_numbers l = 4 * (512 - l.depth) + 3

abbrev pub decreases-node : goal.decreases-node
decreases-node l = 4 * (512 - l.depth)
