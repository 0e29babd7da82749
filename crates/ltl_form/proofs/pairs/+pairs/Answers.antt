use Rattle.std.proofs.Common.{get_or, ◌≡◌, ◌≤◌, true, arith, subst, sym}
use denote.Param.Weighed.{most, at_most}
use Rattle.ltl_form.proofs.formulas.Ltl.TheLaws.{the_size}
use Rattle.ltl_form.proofs.Signals.{all_below_at}
use Rattle.ltl_form.proofs.Chains.{chain_more, made_chain}
use Rattle.ltl_form.specs.Form.{MadePair}
use Rattle.ltl_form.specs.Formula.{signals_below}
use Rattle.ltl_form.specs.Tree.{sides, and_sides, or_sides, true_sides, false_sides}
use Rattle.ltl_form.proofs.pairs.+pairs.Goals as goal

pub all_of-pair_of-requires : goal.all_of-pair_of-requires
all_of-pair_of-requires t c =
    let x = c.f-item.result in
    let inside : the_size x ≤ most the_size c.args.fs.now =
    subst (λ f. the_size f ≤ most the_size c.args.fs.now) (sym c.f-item.is) (at_most the_size c.args.fs.now c.loop-f.f-index x c.loop-f-test.true) in
    (omega arith, subst (λ f. signals_below 64 f ≡ true) (sym c.f-item.is) (all_below_at 64 c.args.fs.now c.loop-f.f-index x c.requires c.loop-f-test.true))

pub any_of-pair_of-requires : goal.any_of-pair_of-requires
any_of-pair_of-requires t c =
    let x = c.f-item.result in
    let inside : the_size x ≤ most the_size c.args.fs.now =
    subst (λ f. the_size f ≤ most the_size c.args.fs.now) (sym c.f-item.is) (at_most the_size c.args.fs.now c.loop-f.f-index x c.loop-f-test.true) in
    (omega arith, subst (λ f. signals_below 64 f ≡ true) (sym c.f-item.is) (all_below_at 64 c.args.fs.now c.loop-f.f-index x c.requires c.loop-f-test.true))

pub all_of-loop-f-preserved : goal.all_of-loop-f-preserved
all_of-loop-f-preserved t c =
    let x = c.f-item.result in
    let made : MadePair c.loop-f.forms c.pair_of.new.forms c.in_ok-f.f (sides (get_or c.args.fs.now c.loop-f.f-index x)) =
    subst (λ f. MadePair c.loop-f.forms c.pair_of.new.forms c.in_ok-f.f (sides f)) c.f-item.is c.in_ok-f.ensures in
    subst (MadePair c.args.forms.now c.both.new.self c.in_ok-whole-2.whole)
    (sym (chain_more and_sides true_sides c.args.fs.now c.loop-f.f-index x c.loop-f-test.true))
    (made_chain and_sides _ _ _ _ _ _ _ _ _ c.loop-f.invariant made c.in_ok-whole-2.ensures)

pub any_of-loop-f-preserved : goal.any_of-loop-f-preserved
any_of-loop-f-preserved t c =
    let x = c.f-item.result in
    let made : MadePair c.loop-f.forms c.pair_of.new.forms c.in_ok-f.f (sides (get_or c.args.fs.now c.loop-f.f-index x)) =
    subst (λ f. MadePair c.loop-f.forms c.pair_of.new.forms c.in_ok-f.f (sides f)) c.f-item.is c.in_ok-f.ensures in
    subst (MadePair c.args.forms.now c.either.new.self c.in_ok-whole-2.whole)
    (sym (chain_more or_sides false_sides c.args.fs.now c.loop-f.f-index x c.loop-f-test.true))
    (made_chain or_sides _ _ _ _ _ _ _ _ _ c.loop-f.invariant made c.in_ok-whole-2.ensures)
