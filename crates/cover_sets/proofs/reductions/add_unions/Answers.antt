use Rattle.std.proofs.Common.{◌+◌, arith, ap, refl, sym, subst, ◌∙◌, not}
use Rattle.std.proofs.lemmas.List.{length-map}
use Rattle.cover_sets.specs.Bits.{set_of, sets_of, size_of}
use Rattle.cover_sets.specs.Union.{covers_of}
use Rattle.cover_sets.proofs.Unions.{Adding, adding_yes, adding_no, meets_tells, union_is}
use Rattle.cover_sets.proofs.reductions.add_unions.Goals as goal
use Rattle.cover_sets.proofs.reductions.add_unions.Goals.{then-not-meets+in_ok-push, else-not-meets}

pub loop-right-preserved : goal.loop-right-preserved
loop-right-preserved c =
    let pairs = c.args.opposites.now in
    let xs = c.args.xs.now in
    let ys = c.args.ys.now in
    let right = c.loop-right.right in
    let x = c.index-xs-left.result in
    let y = c.index-ys-right.result in
    let tells = meets_tells pairs xs ys c.args.left right x y (set_of c.against-against.result) c.meets.result c.requires.xs c.requires.ys c.requires.place (omega arith) c.index-xs-left.is c.index-ys-right.is c.against-against.ensures c.meets.ensures in
    elim c.if-not-meets.branch [
      | then-not-meets+in_ok-push w ↦
          adding_yes pairs (covers_of xs) (covers_of ys) c.args.left _ c.loop-right.unions.items c.if-not-meets.unions.items right _ c.loop-right.invariant
          (omega (arith, length-map xs sets_of)) (omega (arith, length-map ys sets_of)) refl refl
          (w.size_with-size.ensures ∙ ap size_of (sym (union_is xs ys c.args.left right x y c.requires.place (omega arith) c.index-xs-left.is c.index-ys-right.is)))
          (tells ∙ ap not w.if-not-meets.true) (ap (λ v. v.items) w.unions-is ∙ w.in_ok-push.ensures.items)
      | else-not-meets w ↦
          subst (λ v. Adding pairs (covers_of xs) (covers_of ys) c.args.left c.args.unions.now.items v (right + 1)) (sym (ap (λ v. v.items) w.unions-is))
          (adding_no pairs (covers_of xs) (covers_of ys) c.args.left _ c.loop-right.unions.items right c.loop-right.invariant (omega (arith, length-map ys sets_of)) (tells ∙ ap not w.if-not-meets.false))
    ]
