use Rattle.std.proofs.Common.{◌<◌, All, length, arith, ap, sym, subst, ◌∙◌}
use Rattle.std.proofs.lemmas.List.{length_push}
use Rattle.std.proofs.lemmas.List.Elements.{All-push}
use Rattle.cover_sets.specs.Covers.{node_at}
use Rattle.tableau_nba.specs.Walks.{is_until}
use Rattle.tableau_nba.proofs.Spots.{filter_next}
use Rattle.tableau_nba.proofs.places.untils_of.Goals as goal
use Rattle.tableau_nba.proofs.places.untils_of.Goals.{then-is_until+in_ok-push, else-is_until}

pub loop-n-preserved : goal.loop-n-preserved
loop-n-preserved c =
    let nodes = c.args.nodes.now in
    let old = c.loop-n.untils.items in
    let n = c.loop-n.n in
    elim c.if-is_until.branch [
      | then-is_until+in_ok-push w ↦
          let e = ap (λ v. v.items) w.untils-is ∙ w.in_ok-push.ensures.items in (
            omega (arith, ap length e, length_push old n, c.loop-n.invariant.0),
            subst (All (λ u. u < 512)) (sym e) (All-push (λ u. u < 512) old n c.loop-n.invariant.1 (omega arith)),
            filter_next (λ n. is_until (node_at nodes n)) n old _ _ c.loop-n.invariant.2 (sym c.is_until.ensures ∙ w.if-is_until.true) e,
          )
      | else-is_until w ↦
          let e = ap (λ v. v.items) w.untils-is in (
            omega (arith, ap length e, c.loop-n.invariant.0),
            subst (All (λ u. u < 512)) (sym e) c.loop-n.invariant.1,
            filter_next (λ n. is_until (node_at nodes n)) n old _ _ c.loop-n.invariant.2 (sym c.is_until.ensures ∙ w.if-is_until.false) e,
          )
    ]
