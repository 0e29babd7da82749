use Rattle.std.proofs.Common.{Some, None, sym, subst, refl}
use Rattle.word_core.specs.Gap.{IsLeastGap}
use Rattle.witness_check.specs.Product.{IsPart}
use Rattle.witness_check.proofs.CubeLaws.{part_joined, no_gap, some_gap, apart_gap}
use Rattle.witness_check.proofs.choices.has_gap.Goals as goal

pub returns-in_default : goal.returns-in_default
returns-in_default c = (λ h. absurd cc, λ g. absurd (apart_gap c.args.when c.args.other c.args.earlier.now c.in_default.ensures g))

pub least_gap-requires : goal.least_gap-requires
least_gap-requires c =
    subst IsPart (sym c.in-Some.ensures.1) (part_joined c.args.when c.args.other c.requires.when_in c.requires.other_in)

pub returns-in-Some-least_gap : goal.returns-in-Some-least_gap
returns-in-Some-least_gap c =
    let h = subst (λ i. IsLeastGap c.args.earlier.now i (Some c.in-Some-least_gap._gap)) c.in-Some.ensures.1 c.in-Some-least_gap.ensures in
    (λ _. some_gap c.args.when c.args.other c.args.earlier.now c.in-Some-least_gap._gap c.in-Some.ensures.0 c.requires.when_in c.requires.other_in h, λ _. refl)

pub returns-in-None : goal.returns-in-None
returns-in-None c =
    let h = subst (λ i. IsLeastGap c.args.earlier.now i None) c.in-Some.ensures.1 c.in-None.ensures in
    (λ t. absurd cc, λ g. absurd (no_gap c.args.when c.args.other c.args.earlier.now h g))
