use Rattle.std.proofs.Common.{◌≡◌, ◌+◌, ◌-◌, ◌<◌, length, true, false, ap, ◌∙◌, arith}
use Rattle.std.proofs.lemmas.List.{get_or-replicate}
use Rattle.word_core.specs.Lasso.{size}
use Rattle.ltl_form.specs.Meaning.{release_within}
use Rattle.ltl_form.specs.Rows.{at, Tells}
use Rattle.ltl_form.proofs.RowSteps.{release_passes}
use Rattle.ltl_form.proofs.meanings.release_row.Goals as goal

pub returns : goal.returns
returns c =
    let w = c.args.w.now in
    let f = at c.args.fs.now in
    let g = at c.args.gs.now in
    let some : length w.stem < size w = omega (arith, c.cycle.ensures.some) in
    let start : at c.in_ok-row.row.items (length w.stem) ≡ true =
    ap (λ l. at l (length w.stem)) (c.in_ok-row.ensures.items_if_clones_equal (λ y e. e)) ∙ get_or-replicate (length c.args.fs.now) (length w.stem) true false (omega (arith, c.requires.left)) in
    let first : Tells (size w) (λ p. release_within w f g (size w - p + 0) p) c.release_pass-once.result.items = c.release_pass-once.ensures.exact 0 start in
    release_passes w some f g c.release_pass.result.items (c.release_pass.ensures.exact (size w - length w.stem + 0) (first.says (length w.stem) some))
