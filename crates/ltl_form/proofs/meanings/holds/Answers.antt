use Rattle.std.proofs.Common.{◌≡◌, ◌<◌, ◌∙◌, ◌+◌, length, get_or, All, ap, sym, subst}
use Rattle.std.proofs.lemmas.List.{length_push}
use Rattle.std.proofs.lemmas.List.Elements.{All-push}
use Rattle.word_core.specs.Lasso.{size}
use Rattle.ltl_form.specs.Meaning.{tree_holds}
use Rattle.ltl_form.specs.declared.normals.Node.TheVariants.{True}
use Rattle.ltl_form.specs.NodeTrees.{node_tree, node_trees, formula_at}
use Rattle.ltl_form.specs.Rows.{Tells, AreRows}
use Rattle.ltl_form.proofs.NodeLists.{formula_at-is}
use Rattle.ltl_form.proofs.RowSteps.{rows_more}
use Rattle.ltl_form.proofs.meanings.holds.Goals as goal

pub loop-node-preserved : goal.loop-node-preserved
loop-node-preserved c =
    let w = c.args.w.now in
    let nodes = c.args.f.now.nodes in
    let rows = c.loop-node.rows.items in
    let row = c.in_ok-row.row in
    let index = c.loop-node.node-index in
    let i = c.loop-node.invariant in
    let all = c.nodes-node-items.ensures.value in
    let within : index < length nodes = subst (λ l. index < length l) all c.loop-node-test.true in
    let known : AreRows w (node_trees nodes) c.as_slice.result.now = subst (AreRows w (node_trees nodes)) (sym c.as_slice.ensures.value) i.rows in
    let is : node_tree (node_trees nodes) (get_or c.nodes-node-items.result.now index True) ≡ formula_at nodes (length rows) =
    ap (λ l. node_tree (node_trees nodes) (get_or l index True)) all ∙ sym (formula_at-is nodes c.nodes-node-items.ensures.normal.below index within) ∙ ap (formula_at nodes) (sym i.count) in
    let tells : Tells (size w) (tree_holds w (formula_at nodes (length rows))) row.items =
    subst (λ t. Tells (size w) (tree_holds w t) row.items) is (c.in_ok-row.ensures.exact (node_trees nodes) known) in
    let more = sym c.in_ok-push.ensures.items in
    record {
      count = subst (λ l. length l ≡ index + 1) more (length_push rows row ∙ ap (λ n. n + 1) i.count);
      long = subst (All (λ r. length r.items ≡ size w)) more (All-push (λ r. length r.items ≡ size w) rows row i.long tells.long);
      rows = subst (AreRows w (node_trees nodes)) more (rows_more w (node_trees nodes) rows row i.rows tells);
    }
