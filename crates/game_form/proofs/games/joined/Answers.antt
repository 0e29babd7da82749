use Rattle.std.proofs.Common.{arith}
use Rattle.game_form.proofs.Widths.{parts_below, joined_fits, shift_whole}
use Rattle.game_form.proofs.games.joined.Goals as goal

pub overflow_add-result : goal.overflow_add-result
overflow_add-result c =
    rw (shift_whole c.args.low_width c.args.high c.args.high_width c.requires.high c.requires.width)
    (omega (arith, joined_fits c.args.low c.args.low_width c.args.high c.args.high_width c.requires.low c.requires.high c.requires.width))

pub returns-clause-value : goal.returns-clause-value
returns-clause-value c =
    rw (shift_whole c.args.low_width c.args.high c.args.high_width c.requires.high c.requires.width)

pub returns-clause-range : goal.returns-clause-range
returns-clause-range c =
    rw (shift_whole c.args.low_width c.args.high c.args.high_width c.requires.high c.requires.width)
    (parts_below c.args.low c.args.low_width c.args.high c.args.high_width c.requires.low c.requires.high)
