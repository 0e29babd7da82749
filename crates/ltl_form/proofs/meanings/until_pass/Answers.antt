use Rattle.std.proofs.Common.{◌≡◌, ℕ, suc, ◌+◌, ◌-◌, ◌<◌, ◌&&◌, ◌||◌, nat_lt, if◌then◌else◌, Bool, false, length, refl, ap, ◌∙◌, arith}
use Rattle.std.proofs.lemmas.List.{length-set, get_or_read}
use Rattle.word_core.specs.Lasso.{size}
use Rattle.ltl_form.specs.Meaning.{after, until_within}
use Rattle.ltl_form.specs.Rows.{at}
use Rattle.ltl_form.proofs.RowSteps.{pass_step}
use Rattle.ltl_form.proofs.meanings.until_pass.Goals as goal

pub loop-done-preserved : goal.loop-done-preserved
loop-done-preserved c =
    let w = c.args.w.now in
    let row = c.loop-done.row.items in
    let done = c.loop-done.done in
    let p = length c.args.fs.now - 1 - done in
    let i = c.loop-done.invariant in
    let some : length w.stem < size w = omega (arith, c.cycle_start-stem.ensures.value, c.cycle_start-stem.ensures.within) in
    let back : suc (done + p) ≡ size w = omega (arith, c.requires.left, c.loop-done-test.true) in
    let one : ℕ → Bool → Bool = λ p b. at c.args.gs.now p || (at c.args.fs.now p && b) in
    let next : c.place_after.result ≡ after w p =
    c.place_after.ensures.value ∙ ap (λ n. if nat_lt (suc p) n then suc p else c.cycle_start-stem.result) c.requires.left ∙ ap (λ s. if nat_lt (suc p) (size w) then suc p else s) c.cycle_start-stem.ensures.value in
    let read : c.index.result.now ≡ at row c.place_after.result = get_or_read row c.place_after.result c.index.result.now (omega (arith, c.place_after.ensures.within, i.long, c.requires.left)) c.index.ensures false in
    let is : c.until_step.result ≡ one p (at row (after w p)) = c.until_step.ensures ∙ ap (one p) read ∙ ap (λ q. one p (at row q)) next in
    record {
      long = length-set row p c.until_step.result ∙ i.long;
      begin = λ e. absurd (omega arith);
      said = pass_step w some (until_within w (at c.args.fs.now) (at c.args.gs.now)) one (λ n p. refl) c.args.row.items row done p c.until_step.result i.long back i.begin i.said is;
    }
