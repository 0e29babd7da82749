use Rattle.std.proofs.Common.{◌≡◌, ◌∙◌, Some, true, ap, arith, sym}
use Rattle.std.proofs.lemmas.List.Sorted.{All-permutation, length_permutation}
use Rattle.cover_sets.specs.Bits.{set_of}
use Rattle.cover_sets.specs.Covers.{consistent}
use Rattle.cover_sets.proofs.reductions.product.Goals as goal

pub returns-clause-value : goal.returns-clause-value
returns-clause-value c = c.in_ok-list.ensures.value ∙ ap Some (sym c.in_ok-ordered.ensures.value)

pub returns-clause-narrow : goal.returns-clause-narrow
returns-clause-narrow c = omega (arith, c.in_ok-list.ensures.narrow, length_permutation _ _ c.in_ok-ordered.ensures.all)

pub returns-clause-consistent : goal.returns-clause-consistent
returns-clause-consistent c =
    let pairs = c.args.opposites.now in
    All-permutation (λ x. consistent pairs (set_of x.literals) ≡ true) _ _ c.in_ok-ordered.ensures.all c.in_ok-list.ensures.consistent
