use Rattle.std.proofs.Common.{◌≡◌, ◌∙◌, sym, subst, false, List}
use Rattle.std.specs.Prelude.{ℤ}
use Rattle.antichain_list.specs.Antichain.{covered}
use Rattle.counter_vec.specs.Counters.{at_or_below}
use Rattle.cpre_step.specs.Refinement.{AreLeft, answers}
use Rattle.cpre_step.proofs.Left.{not_kept}
use Rattle.cpre_step.proofs.refines.by_options.Goals as goal

pub returns : goal.returns
returns g c =
    let list : List (List ℤ) = g.D.Downset.entries c.args.d.now in
    let game = c.args.g.now in
    let f : List ℤ = c.args.f.now in
    let here = c.in_ok-left.ensures.covers f c.requires.vector in
    let out : covered at_or_below f c.in_ok-left.left ≡ false = sym c.covers.ensures ∙ c.if-covers.false in (
      not_kept f (answers game list f) (sym here ∙ out),
      subst (λ left. AreLeft game list f left) (sym c.into_entries.ensures.value)
          (record { vectors = c.in_ok-left.ensures.vectors; antichain = c.into_entries.ensures.antichain; covers = c.in_ok-left.ensures.covers }),
    )
