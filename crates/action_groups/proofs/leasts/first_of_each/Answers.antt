use Rattle.std.proofs.Common.{◌≡◌, ℕ, ◌<◌, ◌+◌, ◌^◌, ◌++◌, ◌∙◌, Bool, true, false, List, [], ◌∷◌, length, get_or, set, replicate, sym, ap, subst, arith, rules}
use Rattle.std.specs.List.{All}
use Rattle.std.specs.Prelude.{Vec}
use Rattle.std.specs.declared.alloc.Global.{Global}
use Rattle.std.proofs.lemmas.Grind.{common_steps}
use Rattle.std.proofs.lemmas.List.{length-set, length_push, length-replicate}
use Rattle.std.proofs.lemmas.List.Elements.{All-push, All-cons, All-nil}
use Rattle.action_groups.specs.Labels.{pair_at}
use Rattle.action_groups.proofs.Numbering.{AreKept, kept_first, kept_more, kept_same, kept_all}
use Rattle.action_groups.proofs.leasts.first_of_each.Goals as goal
use Rattle.action_groups.proofs.leasts.first_of_each.Goals.{then-not-index+in_ok-push-2, else-not-index}

pub loop-i-init : goal.loop-i-init
loop-i-init c =
    let pairs = c.args.pairs.now in
    let p : ℕ × ℕ = pair_at pairs 0 in
    let P : ℕ × ℕ → Type 0 = λ q. (q.0 < 2 ^ c.args.width) × (q.1 < c.args.count) in
    let ranged : P p = c.requires.pairs 0 (0, 0) c.requires.some in
    let kept : c.push.new.self.items ≡ p ∷ [] = c.in_ok-push.ensures.items ∙ ap (λ (l : List (ℕ × ℕ)). l ++ p ∷ []) c.new-kept.ensures.items in
    let none : c.in_ok-seen.seen.items ≡ replicate c.args.count false = search rules in
    let seen : set c.in_ok-seen.seen.items p.1 true ≡ set (replicate c.args.count false) p.1 true = ap (λ (l : List Bool). set l p.1 true) none in
    let long : length c.push.new.self.items ≡ 1 = ap (λ (l : List (ℕ × ℕ)). length l) kept in (
      subst (All P) (sym kept) (All-cons P p [] ranged (All-nil P)),
      omega arith,
      length-set c.in_ok-seen.seen.items p.1 true ∙ ap (λ (l : List Bool). length l) none ∙ length-replicate c.args.count false,
      kept_first pairs c.args.count (set c.in_ok-seen.seen.items p.1 true) c.push.new.self.items c.requires.sorted c.requires.some ranged.1 seen kept,
    )

pub loop-i-preserved : goal.loop-i-preserved
loop-i-preserved c =
    let pairs = c.args.pairs.now in
    let i : ℕ = c.loop-i.i in
    let p : ℕ × ℕ = pair_at pairs i in
    let P : ℕ × ℕ → Type 0 = λ q. (q.0 < 2 ^ c.args.width) × (q.1 < c.args.count) in
    let ranged : P p = c.requires.pairs i (0, 0) c.loop-i-test.true in
    elim c.if-not-index.branch [
      | then-not-index+in_ok-push-2 w ↦ (
          let kept : c.if-not-index.kept.items ≡ c.loop-i.kept.items ++ p ∷ [] = ap (λ (v : Vec (ℕ × ℕ) Global). v.items) w.kept-is ∙ w.in_ok-push-2.ensures.items in
          let seen : c.if-not-index.seen.items ≡ set c.loop-i.seen.items p.1 true = ap (λ (v : Vec Bool Global). v.items) w.seen-is in
          let at : p.1 < length c.loop-i.seen.items = omega (arith, ranged.1, c.loop-i.invariant.2) in
          let new : get_or c.loop-i.seen.items p.1 false ≡ false = grind (arith, common_steps) in
          let long : length c.if-not-index.kept.items ≡ length c.loop-i.kept.items + 1 = ap (λ (l : List (ℕ × ℕ)). length l) kept ∙ length_push c.loop-i.kept.items p in (
            subst (All P) (sym kept) (All-push P c.loop-i.kept.items p c.loop-i.invariant.0 ranged),
            omega (arith, long),
            ap (λ (l : List Bool). length l) seen ∙ length-set c.loop-i.seen.items p.1 true ∙ c.loop-i.invariant.2,
            kept_more pairs i c.loop-i.seen.items c.if-not-index.seen.items c.loop-i.kept.items c.if-not-index.kept.items c.requires.sorted c.loop-i-test.true at new seen kept c.loop-i.invariant.3,
          ))
      | else-not-index w ↦ (
          let here : get_or c.loop-i.seen.items p.1 false ≡ true = grind (arith, common_steps) in
          let Q : Vec (ℕ × ℕ) Global → Vec Bool Global → Type 0 = λ k s.
          All P k.items × (0 < length k.items) × (length s.items ≡ c.args.count) × AreKept pairs (i + 1) s.items k.items in
          subst (λ k. Q k c.if-not-index.seen) (sym w.kept-is) (subst (Q c.loop-i.kept) (sym w.seen-is) (
            c.loop-i.invariant.0,
            c.loop-i.invariant.1,
            c.loop-i.invariant.2,
            kept_same pairs i c.loop-i.seen.items c.loop-i.kept.items c.loop-i-test.true here c.loop-i.invariant.3,
          )))
    ]

pub returns-clause-once : goal.returns-clause-once
returns-clause-once c = kept_all c.args.pairs.now c.loop-i.i c.loop-i.seen.items c.loop-i.kept.items c.loop-i-test.false c.loop-i.invariant.3
