use Rattle.std.proofs.Common.{arith, subst, sym}
use Rattle.std.proofs.lemmas.Result.{IfOk-weaker}
use Rattle.word_core.specs.Cube.{IsCube}
use Rattle.letter_tree.proofs.CubeBits.{cubed_leaf, cubed_free, cubed_one, cubed_zero, can_low, can_high, bit_is_zero, bit_is_one, bit_not_zero, bit_not_one}
use Rattle.letter_tree.proofs.trees.+cubed.Goals as goal

pub returns-then-signal-width-clause-at : goal.returns-then-signal-width-clause-at
returns-then-signal-width-clause-at t c =
    let k : IsCube c.leaf.new.self.width c.args.c = subst (λ w. IsCube w c.args.c) (sym c.leaf.ensures.grows.width) c.requires.within in
    IfOk-weaker _ _ _
    (λ place e. cubed_leaf _ _ _ _ _ place k (omega (arith, c.width.ensures, c.leaf.ensures.grows.width))
    (omega (arith, c.requires.signal_in, c.leaf.ensures.grows.width)) e)
    c.leaf.ensures.at

pub returns-then-c-signal-eq0-clause-at : goal.returns-then-c-signal-eq0-clause-at
returns-then-c-signal-eq0-clause-at t c =
    cubed_free _ _ _ _ _ _ c.requires.within.1 (bit_is_zero _ _ c.if-c-signal-eq0.true) c.in_ok-rest.ensures.at

pub fork-requires : goal.fork-requires
fork-requires t c =
    can_low _ _ _ _ _ _ _ _ (omega (arith, c.if-signal-width.false, c.width.ensures, c.in_ok-rest.ensures.grows.width))
    c.in_ok-outside.ensures.grows c.in_ok-rest.ensures.at c.in_ok-outside.ensures.at

pub fork-requires-else-c-signal-eq1 : goal.fork-requires-else-c-signal-eq1
fork-requires-else-c-signal-eq1 t c =
    can_high _ _ _ _ _ _ _ _ (omega (arith, c.if-signal-width.false, c.width.ensures, c.in_ok-rest.ensures.grows.width))
    c.in_ok-outside.ensures.grows c.in_ok-rest.ensures.at c.in_ok-outside.ensures.at

pub returns-then-c-signal-eq1-clause-at : goal.returns-then-c-signal-eq1-clause-at
returns-then-c-signal-eq1-clause-at t c =
    IfOk-weaker _ _ _
    (λ place f. cubed_one _ _ _ _ _ _ _ _ _ place c.in_ok-outside.ensures.grows c.fork.ensures.grows (bit_not_zero _ _ c.if-c-signal-eq0.false)
    (bit_is_one _ _ c.if-c-signal-eq1.true) c.in_ok-rest.ensures.at c.in_ok-outside.ensures.at f)
    c.fork.ensures.at

pub returns-else-c-signal-eq1-clause-at : goal.returns-else-c-signal-eq1-clause-at
returns-else-c-signal-eq1-clause-at t c =
    IfOk-weaker _ _ _
    (λ place f. cubed_zero _ _ _ _ _ _ _ _ _ place c.in_ok-outside.ensures.grows c.fork-else-c-signal-eq1.ensures.grows
    (bit_not_zero _ _ c.if-c-signal-eq0.false) (bit_not_one _ _ c.if-c-signal-eq1.false) c.in_ok-rest.ensures.at c.in_ok-outside.ensures.at f)
    c.fork-else-c-signal-eq1.ensures.at
