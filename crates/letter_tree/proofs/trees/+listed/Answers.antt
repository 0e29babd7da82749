use Rattle.std.proofs.Common.{◌+◌, ◌<◌, refl, ap, arith}
use Rattle.std.proofs.lemmas.Nat.{one_shl}
use Rattle.std.proofs.lemmas.Result.{IfOk-weaker}
use Rattle.letter_tree.proofs.Lists.{listed_leaf, listed_can, listed_fork}
use Rattle.letter_tree.proofs.trees.+listed.Goals as goal

pub returns-then-signal-width-clause-at : goal.returns-then-signal-width-clause-at
returns-then-signal-width-clause-at t c =
    IfOk-weaker _ _ _
    (λ place e. listed_leaf _ _ _ _ place _
    (omega (arith, c.width.ensures, c.leaf.ensures.grows.width)) (omega (arith, c.requires.signal_in, c.leaf.ensures.grows.width)) e refl)
    c.leaf.ensures.at

pub fork-requires : goal.fork-requires
fork-requires t c =
    listed_can _ _ _ _ _ _ _ _ (omega (arith, c.if-signal-width.false, c.width.ensures, c.in_ok-low.ensures.grows.width))
    c.in_ok-high.ensures.grows c.in_ok-low.ensures.at c.in_ok-high.ensures.at

pub returns-clause-at : goal.returns-clause-at
returns-clause-at t c =
    let small : c.args.signal < 64 = omega (arith, c.requires.signal_in, c.requires.narrow) in
    IfOk-weaker _ _ _
    (λ place f. listed_fork _ _ _ _ _ _ _ _ _ place (ap (λ n. c.args.prefix + n) (one_shl c.args.signal 64 small))
    c.in_ok-high.ensures.grows c.fork.ensures.grows c.in_ok-low.ensures.at c.in_ok-high.ensures.at f)
    c.fork.ensures.at
