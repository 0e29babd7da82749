use Rattle.std.proofs.Common.{◌≡◌, ℕ, ◌∙◌, ◌+◌, sym, ap, subst, arith, length, get_or, List, Some}
use Rattle.std.specs.Prelude.{slice_get}
use Rattle.std.proofs.lemmas.List.{length_push}
use Rattle.strategy_play.proofs.Numbered.{same_pair, AreNumbered, numbers_more, numbers_are}
use Rattle.strategy_play.proofs.picks.numbers_of.Goals as goal

pub loop-pick-preserved : goal.loop-pick-preserved
loop-pick-preserved c =
    let picks = c.args.picks.now in
    let out = c.loop-pick.out.items in
    let p : ℕ × ℕ = get_or picks c.loop-pick.pick-index (0, 0) in
    let stored = c.in_ok-number.ensures.stored in
    let here : slice_get c.insert_full.new.self.keys c.in_ok-number.number ≡ Some p = stored.1 ∙ ap (λ (q : ℕ × ℕ). Some q) (same_pair p stored.0 stored.2) in
    record {
      count = ap (λ (ns : List ℕ). length ns) c.in_ok-push.ensures.items ∙ length_push out c.in_ok-number.number ∙ ap (λ n. n + 1) c.loop-pick.invariant.count;
      distinct = c.insert_full.ensures.unique;
      numbered = subst (λ ns. AreNumbered picks c.insert_full.new.self.keys ns (c.loop-pick.pick-index + 1)) (sym c.in_ok-push.ensures.items)
          (numbers_more picks c.loop-pick.different.keys c.insert_full.new.self.keys out c.loop-pick.pick-index c.in_ok-number.number _ c.in_ok-number.ensures.keys here c.loop-pick.invariant.count c.loop-pick.invariant.numbered);
    }

pub returns : goal.returns
returns c =
    let size : length c.loop-pick.out.items ≡ length c.args.picks.now = omega (arith, c.loop-pick.invariant.count, c.loop-pick-test.false, c.loop-pick.auto.pick-index-end) in
    numbers_are c.args.picks.now c.loop-pick.different.keys c.loop-pick.out.items c.loop-pick.pick-index size c.loop-pick-test.false c.loop-pick.invariant.distinct c.loop-pick.invariant.numbered
