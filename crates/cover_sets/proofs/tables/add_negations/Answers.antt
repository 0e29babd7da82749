use Rattle.std.proofs.Common.{ap, sym, ◌∙◌}
use Rattle.std.proofs.lemmas.List.{append-nil}
use Rattle.cover_sets.specs.Covers.{node_at}
use Rattle.cover_sets.proofs.FormulaRows.{negations_more}
use Rattle.cover_sets.proofs.tables.add_negations.Goals as goal
use Rattle.cover_sets.proofs.tables.add_negations.Goals.{then-are_contrary+in_ok-push, else-are_contrary}

pub loop-m-preserved : goal.loop-m-preserved
loop-m-preserved c =
    let nodes = c.args.nodes.now in
    elim c.if-are_contrary.branch [
      | then-are_contrary+in_ok-push w ↦
          negations_more c.args.n c.loop-m.m (node_at nodes c.args.n) nodes c.loop-m.opposites.items _ _ _ (sym c.are_contrary.ensures ∙ w.if-are_contrary.true) c.loop-m.invariant
          (ap (λ v. v.items) w.opposites-is ∙ w.in_ok-push.ensures.items)
      | else-are_contrary w ↦
          negations_more c.args.n c.loop-m.m (node_at nodes c.args.n) nodes c.loop-m.opposites.items _ _ _ (sym c.are_contrary.ensures ∙ w.if-are_contrary.false) c.loop-m.invariant
          (ap (λ v. v.items) w.opposites-is ∙ sym (append-nil _))
    ]
