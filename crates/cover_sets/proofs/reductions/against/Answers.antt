use Rattle.std.proofs.Common.{◌≤◌, ◌<◌, ◌^◌, length, arith, refl, ap, ◌∙◌, not}
use Rattle.std.proofs.lemmas.List.{take_all}
use Rattle.std.proofs.lemmas.List.Elements.{All-replicate}
use Rattle.cover_sets.specs.Bits.{set_of}
use Rattle.cover_sets.specs.Union.{clashes}
use Rattle.cover_sets.proofs.Consistent.{against_more}
use Rattle.cover_sets.proofs.reductions.against.Goals as goal

pub loop-positive-init : goal.loop-positive-init
loop-positive-init c = ((refl, All-replicate (λ w. w < 2 ^ 64) 8 0 (omega arith)), λ y. refl)

pub invariant_of-against : goal.invariant_of-against
invariant_of-against c = record { fit = c.loop-positive.invariant.0 }

pub loop-positive-preserved : goal.loop-positive-preserved
loop-positive-preserved c = (
  c.denied-against-in-loop-positive.result.fit,
  against_more c.args.opposites.now c.loop-positive.positive-index _ _ (set_of c.args.literals.now) _ _ _ (omega arith) refl c.loop-positive.invariant.1 c.denied-against.ensures
      c.denied-against-in-loop-positive.ensures,
)

pub invariant_of-against-2 : goal.invariant_of-against-2
invariant_of-against-2 c = record { fit = c.loop-positive.invariant.0 }

pub returns : goal.returns
returns c y =
    let end : length c.args.opposites.now ≤ c.loop-positive.positive-index = omega arith in
    c.loop-positive.invariant.1 y ∙ ap (λ ps. not (clashes ps (set_of c.args.literals.now) y)) (take_all c.loop-positive.positive-index c.args.opposites.now end)
