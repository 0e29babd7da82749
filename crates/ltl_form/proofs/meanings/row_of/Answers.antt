use Rattle.std.proofs.Common.{◌<◌, length, sym, subst}
use Rattle.std.proofs.lemmas.Result.{IfOk-weaker}
use Rattle.word_core.specs.Lasso.{size}
use Rattle.ltl_form.specs.Meaning.{tree_holds}
use Rattle.ltl_form.specs.Normal.{IsNodeAt}
use Rattle.ltl_form.specs.NodeTrees.{node_tree}
use Rattle.ltl_form.specs.Rows.{Tells}
use Rattle.ltl_form.proofs.RowSteps.{row_tells, some_cycle, next_tells, until_tells, release_tells}
use Rattle.ltl_form.proofs.meanings.row_of.Goals as goal

pub returns-in-Next-clause-exact : goal.returns-in-Next-clause-exact
returns-in-Next-clause-exact c = λ trees known.
    let w = c.args.w.now in
    let f = c.in-Next.f in
    let fits : f < length c.args.rows.now = subst (IsNodeAt (length c.args.rows.now)) c.in-Next.is c.requires.node in
    let inner = row_tells w trees c.args.rows.now f c.index-rows-f-in-Next.result c.deref-in-Next.result.now known fits c.index-rows-f-in-Next.is c.deref-in-Next.ensures.value in
    IfOk-weaker c.next_row.result _ _
    (λ row h. subst (λ node. Tells (size w) (tree_holds w (node_tree trees node)) row.items) (sym c.in-Next.is)
    (next_tells w (some_cycle w c.cycle.ensures.some) _ c.deref-in-Next.result.now row.items inner h))
    c.next_row.ensures

pub returns-in-Until-clause-exact : goal.returns-in-Until-clause-exact
returns-in-Until-clause-exact c = λ trees known.
    let w = c.args.w.now in
    let f = c.in-Until.f in
    let g = c.in-Until.g in
    let fits : (f < length c.args.rows.now) × (g < length c.args.rows.now) = subst (IsNodeAt (length c.args.rows.now)) c.in-Until.is c.requires.node in
    let left = row_tells w trees c.args.rows.now f c.index-rows-f-in-Until.result c.deref-in-Until.result.now known fits.0 c.index-rows-f-in-Until.is c.deref-in-Until.ensures.value in
    let right = row_tells w trees c.args.rows.now g c.index-rows-g-in-Until.result c.deref-in-Until-2.result.now known fits.1 c.index-rows-g-in-Until.is c.deref-in-Until-2.ensures.value in
    IfOk-weaker c.until_row.result _ _
    (λ row h. subst (λ node. Tells (size w) (tree_holds w (node_tree trees node)) row.items) (sym c.in-Until.is)
    (until_tells w (some_cycle w c.cycle.ensures.some) _ _ c.deref-in-Until.result.now c.deref-in-Until-2.result.now row.items left right h))
    c.until_row.ensures

pub returns-in-Release-clause-exact : goal.returns-in-Release-clause-exact
returns-in-Release-clause-exact c = λ trees known.
    let w = c.args.w.now in
    let f = c.in-Release.f in
    let g = c.in-Release.g in
    let fits : (f < length c.args.rows.now) × (g < length c.args.rows.now) = subst (IsNodeAt (length c.args.rows.now)) c.in-Release.is c.requires.node in
    let left = row_tells w trees c.args.rows.now f c.index-rows-f-in-Release.result c.deref-in-Release.result.now known fits.0 c.index-rows-f-in-Release.is c.deref-in-Release.ensures.value in
    let right = row_tells w trees c.args.rows.now g c.index-rows-g-in-Release.result c.deref-in-Release-2.result.now known fits.1 c.index-rows-g-in-Release.is c.deref-in-Release-2.ensures.value in
    IfOk-weaker c.release_row.result _ _
    (λ row h. subst (λ node. Tells (size w) (tree_holds w (node_tree trees node)) row.items) (sym c.in-Release.is)
    (release_tells w (some_cycle w c.cycle.ensures.some) _ _ c.deref-in-Release.result.now c.deref-in-Release-2.result.now row.items left right h))
    c.release_row.ensures
