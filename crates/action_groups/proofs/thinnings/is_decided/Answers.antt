use Rattle.std.proofs.Common.{◌≡◌, ℕ, ◌+◌, ◌<◌, ◌&&◌, ◌∙◌, sym, ap, arith}
use Rattle.std.specs.Prelude.{nat_eq}
use Rattle.std.specs.Int.{bit_at}
use Rattle.action_groups.specs.Tests.{signal_of}
use Rattle.action_groups.specs.Thinned.{cares_for_none}
use Rattle.action_groups.proofs.Thinned.{cares_more}
use Rattle.action_groups.proofs.thinnings.is_decided.Goals as goal

pub loop-k-preserved : goal.loop-k-preserved
loop-k-preserved c =
    let k : ℕ = c.loop-k.k in
    let lt : k < c.args.order.inputs + c.args.order.outputs = omega (arith, c.loop-k-test.true, c.width-k-end.ensures.value) in
    let none : bit_at c.args.cube.care (signal_of c.args.order k) ≡ 0 = sym (c.bit_of.ensures ∙ ap (bit_at c.args.cube.care) c.signal.ensures.value) ∙ c.if-bit_of-ne0.false in (
      omega (arith, c.loop-k.auto.k),
      c.loop-k.invariant.1 ∙ cares_more c.args.order k c.args.cube lt ∙ ap (λ n. nat_eq n 0 && cares_for_none c.args.order (k + 1) c.args.cube) none,
    )
