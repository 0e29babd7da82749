use Rattle.std.proofs.Common.{arith}
use Rattle.nba_quotient.proofs.OneClass.{one_class_is}
use Rattle.nba_quotient.proofs.classes.one_class.Goals as goal

pub returns : goal.returns
returns c = one_class_is c.args.count (record { of = c.in_ok-of.of; leasts = c.in_ok-leasts.leasts }) c.requires (omega arith) (c.in_ok-of.ensures.items_if_clones_equal (λ y h. h)) c.in_ok-leasts.ensures.items
