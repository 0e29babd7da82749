use Rattle.std.proofs.Common.{◌≡◌, ◌+◌, true, false, List, map, Vec, Global, sym, subst, arith}
use Rattle.std.proofs.lemmas.Bool.{both_ways}
use Rattle.witness_check.specs.declared.products.Arc.{Arc}
use Rattle.witness_check.specs.Levels.{is_in, IsBehind, start}
use Rattle.witness_check.proofs.PathLaws.{for_ever, next_sound, next_whole}
use Rattle.witness_check.proofs.levels.exceeds.Goals as goal

abbrev items_of : Vec Arc Global → List Arc
items_of v = v.items

pub loop-marks-init : goal.loop-marks-init
loop-marks-init c = record {
  same = c.in_ok-reached.ensures.same;
  some = (0, (c.in_ok-reached.ensures.level 0).1 (0, omega arith, start));
  level = c.in_ok-reached.ensures.level;
}

pub returns-then-not-has_any-clause-kept : goal.returns-then-not-has_any-clause-kept
returns-then-not-has_any-clause-kept c = λ z i r.
    let A = map items_of c.args.arcs.now in
    let t = c.loop-marks.reached.items in
    let b = next_whole A t c.loop-marks._marks c.loop-marks.invariant.level i (r.0, omega (arith, r.1, c.loop-marks-test.true, c.from-marks-end.ensures), r.2) in
    let h = (c.in_ok-next.ensures.level i).1 (subst (λ x. IsBehind A x i) (sym c.deref.ensures.value) b) in
    let n = c.has_any.ensures.none c.if-not-has_any.true i in
    both_ways (is_in c.in_ok-next.next.items i) (subst (λ x. is_in x i ≡ false) c.deref-in-loop-marks.ensures.value n) h

pub returns-then-is_within-clause-over : goal.returns-then-is_within-clause-over
returns-then-is_within-clause-over c = λ z.
    let A = map items_of c.args.arcs.now in
    let t = c.loop-marks.reached.items in
    let m = c.loop-marks._marks in
    let some = c.loop-marks.invariant.some in (
      some.0,
      for_ever A t m (c.args.k + 1) c.loop-marks.invariant.level
          (λ i h.
          (let g = c.is_within.ensures c.if-is_within.true i (subst (λ x. is_in x i ≡ true) (sym c.deref-in-loop-marks-2.ensures.value) h) in
          let b = (c.in_ok-next.ensures.level i).0 (subst (λ x. is_in x i ≡ true) c.deref-in-loop-marks-3.ensures.value g) in
          next_sound A t m c.loop-marks.invariant.level i (subst (λ x. IsBehind A x i) c.deref.ensures.value b)))
          some.0 some.1,
    )

pub loop-marks-preserved : goal.loop-marks-preserved
loop-marks-preserved c =
    let A = map items_of c.args.arcs.now in
    let t = c.loop-marks.reached.items in
    let m = c.loop-marks._marks in
    let some = c.has_any.ensures.some c.if-not-has_any.false in
    record {
      same = c.in_ok-next.ensures.same;
      some = (some.0, subst (λ x. is_in x some.0 ≡ true) c.deref-in-loop-marks.ensures.value some.1);
      level = λ i. (
        λ h. (let r = next_sound A t m c.loop-marks.invariant.level i (subst (λ x. IsBehind A x i) c.deref.ensures.value ((c.in_ok-next.ensures.level i).0 h)) in
            (r.0, omega (arith, r.1), r.2)),
        λ r. (c.in_ok-next.ensures.level i).1 (subst (λ x. IsBehind A x i) (sym c.deref.ensures.value) (next_whole A t m c.loop-marks.invariant.level i (r.0, omega (arith, r.1), r.2))),
      );
    }

pub returns-clause-over : goal.returns-clause-over
returns-clause-over c = λ z.
    let some = c.loop-marks.invariant.some in
    let r = (c.loop-marks.invariant.level some.0).0 some.1 in
    (some.0, (r.0, omega (arith, r.1, c.loop-marks-test.false, c.from-marks-end.ensures), r.2))
