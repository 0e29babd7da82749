use Rattle.std.proofs.Common.{◌≡◌, ◌+◌, ◌-◌, ◌<◌, length, false, ap, ◌∙◌, arith}
use Rattle.std.proofs.lemmas.List.{get_or-replicate}
use Rattle.word_core.specs.Lasso.{size}
use Rattle.ltl_form.specs.Meaning.{until_within}
use Rattle.ltl_form.specs.Rows.{at, Tells}
use Rattle.ltl_form.proofs.RowSteps.{until_passes}
use Rattle.ltl_form.proofs.meanings.until_row.Goals as goal

pub returns : goal.returns
returns c =
    let w = c.args.w.now in
    let f = at c.args.fs.now in
    let g = at c.args.gs.now in
    let some : length w.stem < size w = omega (arith, c.cycle.ensures.some) in
    let start : at c.in_ok-row.row.items (length w.stem) ≡ false =
    ap (λ l. at l (length w.stem)) (c.in_ok-row.ensures.items_if_clones_equal (λ y e. e)) ∙ get_or-replicate (length c.args.fs.now) (length w.stem) false false (omega (arith, c.requires.left)) in
    let first : Tells (size w) (λ p. until_within w f g (size w - p + 0) p) c.until_pass-once.result.items = c.until_pass-once.ensures.exact 0 start in
    until_passes w some f g c.until_pass.result.items (c.until_pass.ensures.exact (size w - length w.stem + 0) (first.says (length w.stem) some))
