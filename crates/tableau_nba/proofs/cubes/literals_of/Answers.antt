use Rattle.std.proofs.Common.{◌<◌, arith, ap, sym, subst, ◌∙◌}
use Rattle.std.proofs.lemmas.List.{append-nil}
use Rattle.std.proofs.lemmas.List.Elements.{All-push}
use Rattle.cover_sets.specs.Covers.{node_at}
use Rattle.ltl_form.specs.declared.normals.Node.TheVariants.{True}
use Rattle.tableau_nba.specs.Tableau.{AreLiterals}
use Rattle.tableau_nba.specs.Walks.{literal_at}
use Rattle.tableau_nba.proofs.Spots.{flat_next, literal_fits}
use Rattle.tableau_nba.proofs.cubes.literals_of.Goals as goal
use Rattle.tableau_nba.proofs.cubes.literals_of.Goals.{in-Some+in_ok-push, in_default}

pub loop-n-preserved : goal.loop-n-preserved
loop-n-preserved c =
    let nodes = c.args.nodes.now in
    let n = c.loop-n.n in
    elim c.match-literal_of.branch [
      | in-Some+in_ok-push w ↦
          let e = ap (λ v. v.items) w.literals-is ∙ w.in_ok-push.ensures.items in (
            subst (AreLiterals c.args.signals) (sym e)
                (All-push (λ l. (l.number < 512) × (l.signal < c.args.signals)) c.loop-n.literals.items _ c.loop-n.invariant.0
                (literal_fits c.args.signals n (node_at nodes n) _ w.in-Some.ensures (c.requires.literals n True (omega arith)) (omega arith))),
            flat_next (λ n. literal_at n (node_at nodes n)) n c.loop-n.literals.items _ _ c.loop-n.invariant.1 w.in-Some.ensures e,
          )
      | in_default w ↦
          let e = ap (λ v. v.items) w.literals-is in (
            subst (AreLiterals c.args.signals) (sym e) c.loop-n.invariant.0,
            flat_next (λ n. literal_at n (node_at nodes n)) n c.loop-n.literals.items _ _ c.loop-n.invariant.1 w.in_default.ensures (e ∙ sym (append-nil _)),
          )
    ]
