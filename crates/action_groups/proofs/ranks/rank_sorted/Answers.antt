use Rattle.std.proofs.Common.{◌≡◌, ℕ, ◌<◌, ◌+◌, ◌^◌, ◌++◌, ◌∙◌, Bool, true, false, List, [], ◌∷◌, length, get_or, set, replicate, sym, ap, subst, arith, rules}
use Rattle.std.specs.List.{All}
use Rattle.std.specs.Prelude.{Vec}
use Rattle.std.specs.declared.alloc.Global.{Global}
use Rattle.std.proofs.lemmas.List.{length-set, length_push, length-replicate, get_or-replicate}
use Rattle.std.proofs.lemmas.List.Elements.{All-push, All-cons, All-nil, All-set, All-weaker}
use Rattle.std.proofs.lemmas.Grind.{common_steps}
use Rattle.action_groups.specs.Labels.{pair_at}
use Rattle.action_groups.proofs.Numbering.{AreRanked, ranked_first, ranked_more, ranked_same, ranked_all}
use Rattle.action_groups.proofs.ranks.rank_sorted.Goals as goal
use Rattle.action_groups.proofs.ranks.rank_sorted.Goals.{then-not-index+in_ok-push-2, else-not-index}

pub loop-i-init : goal.loop-i-init
loop-i-init c =
    let pairs = c.args.pairs.now in
    let count : ℕ = c.args.count in
    let p : ℕ × ℕ = pair_at pairs 0 in
    let P : ℕ × ℕ → Type 0 = λ q. (q.0 < 2 ^ c.args.width) × (q.1 < count) in
    let ranged : P p = c.requires.pairs 0 (0, 0) c.requires.some in
    let order : c.push.new.self.items ≡ p ∷ [] = c.in_ok-push.ensures.items ∙ ap (λ (l : List (ℕ × ℕ)). l ++ p ∷ []) c.new-order.ensures.items in
    let none : c.in_ok-seen.seen.items ≡ replicate count false = search rules in
    let zeros : c.in_ok-numbers.numbers.items ≡ replicate count 0 = search rules in
    let seen : set c.in_ok-seen.seen.items p.1 true ≡ set (replicate count false) p.1 true = ap (λ (l : List Bool). set l p.1 true) none in
    let long : length c.push.new.self.items ≡ 1 = ap (λ (l : List (ℕ × ℕ)). length l) order in
    let size : length c.in_ok-numbers.numbers.items ≡ count = ap (λ (l : List ℕ). length l) zeros ∙ length-replicate count 0 in (
      subst (All P) (sym order) (All-cons P p [] ranged (All-nil P)),
      omega arith,
      size,
      length-set c.in_ok-seen.seen.items p.1 true ∙ ap (λ (l : List Bool). length l) none ∙ length-replicate count false,
      λ k d lt. (
          let zero_there : get_or c.in_ok-numbers.numbers.items k d ≡ 0 = ap (λ (l : List ℕ). get_or l k d) zeros ∙ get_or-replicate {A = ℕ} count k 0 d (omega arith) in
          omega arith),
      subst (λ ns. AreRanked pairs 1 (set c.in_ok-seen.seen.items p.1 true) c.push.new.self.items ns) (sym zeros)
          (ranked_first pairs count (set c.in_ok-seen.seen.items p.1 true) c.push.new.self.items c.requires.sorted c.requires.some ranged.1 seen order),
    )

pub loop-i-preserved : goal.loop-i-preserved
loop-i-preserved c =
    let pairs = c.args.pairs.now in
    let i : ℕ = c.loop-i.i in
    let p : ℕ × ℕ = pair_at pairs i in
    let size : ℕ = length c.loop-i.order.items in
    let P : ℕ × ℕ → Type 0 = λ q. (q.0 < 2 ^ c.args.width) × (q.1 < c.args.count) in
    let ranged : P p = c.requires.pairs i (0, 0) c.loop-i-test.true in
    elim c.if-not-index.branch [
      | then-not-index+in_ok-push-2 w ↦ (
          let order : c.if-not-index.order.items ≡ c.loop-i.order.items ++ p ∷ [] = ap (λ (v : Vec (ℕ × ℕ) Global). v.items) w.order-is ∙ w.in_ok-push-2.ensures.items in
          let seen : c.if-not-index.seen.items ≡ set c.loop-i.seen.items p.1 true = ap (λ (v : Vec Bool Global). v.items) w.seen-is in
          let count : w.len.result ≡ size = grind (arith, common_steps) in
          let numbers : c.if-not-index.numbers.items ≡ set c.loop-i.numbers.items p.1 size = (
          ap (λ (v : Vec ℕ Global). v.items) w.numbers-is ∙ ap (λ n. set c.loop-i.numbers.items p.1 n) count) in
          let at : p.1 < length c.loop-i.seen.items = omega (arith, ranged.1, c.loop-i.invariant.3) in
          let new : get_or c.loop-i.seen.items p.1 false ≡ false = grind (arith, common_steps) in
          let inside : p.1 < length c.loop-i.numbers.items = omega (arith, ranged.1, c.loop-i.invariant.2) in
          let long : length c.if-not-index.order.items ≡ size + 1 = ap (λ (l : List (ℕ × ℕ)). length l) order ∙ length_push c.loop-i.order.items p in
          let Below : ℕ → Type 0 = λ n. n < length c.if-not-index.order.items in
          let Before : ℕ → Type 0 = λ n. n < size in
          let top : Below size = omega (arith, long) in
          let wider : (n : ℕ) → Before n → Below n = λ n h. omega (arith, long, h) in (
            subst (All P) (sym order) (All-push P c.loop-i.order.items p c.loop-i.invariant.0 ranged),
            omega (arith, long),
            ap (λ (l : List ℕ). length l) numbers ∙ length-set c.loop-i.numbers.items p.1 size ∙ c.loop-i.invariant.2,
            ap (λ (l : List Bool). length l) seen ∙ length-set c.loop-i.seen.items p.1 true ∙ c.loop-i.invariant.3,
            subst (All Below) (sym numbers) (All-set Below c.loop-i.numbers.items p.1 size top (All-weaker Before Below wider c.loop-i.numbers.items c.loop-i.invariant.4)),
            ranked_more pairs i c.loop-i.seen.items c.if-not-index.seen.items c.loop-i.order.items c.if-not-index.order.items c.loop-i.numbers.items c.if-not-index.numbers.items c.requires.sorted c.loop-i-test.true at inside new seen order numbers c.loop-i.invariant.5,
          ))
      | else-not-index w ↦ (
          let here : get_or c.loop-i.seen.items p.1 false ≡ true = grind (arith, common_steps) in
          let Q : Vec (ℕ × ℕ) Global → Vec ℕ Global → Vec Bool Global → Type 0 = λ o n s.
          All P o.items × (0 < length o.items) × (length n.items ≡ c.args.count) × (length s.items ≡ c.args.count) × All (λ m. m < length o.items) n.items × AreRanked pairs (i + 1) s.items o.items n.items in
          subst (λ o. Q o c.if-not-index.numbers c.if-not-index.seen) (sym w.order-is) (subst (λ n. Q c.loop-i.order n c.if-not-index.seen) (sym w.numbers-is) (subst (Q c.loop-i.order c.loop-i.numbers) (sym w.seen-is) (
            c.loop-i.invariant.0,
            c.loop-i.invariant.1,
            c.loop-i.invariant.2,
            c.loop-i.invariant.3,
            c.loop-i.invariant.4,
            ranked_same pairs i c.loop-i.seen.items c.loop-i.order.items c.loop-i.numbers.items c.loop-i-test.true here c.loop-i.invariant.5,
          ))))
    ]

pub index-requires : goal.index-requires
index-requires c =
    let p : ℕ × ℕ = pair_at c.args.pairs.now c.loop-i.i in
    let ranged : p.1 < c.args.count = (c.requires.pairs c.loop-i.i (0, 0) c.loop-i-test.true).1 in
    let size : length c.loop-i.seen.items ≡ c.args.count = c.loop-i.invariant.3 in
    let inside : p.1 < length c.loop-i.seen.items = omega arith in
    grind (arith, common_steps, inside)

pub index_mut-requires-then-not-index : goal.index_mut-requires-then-not-index
index_mut-requires-then-not-index c =
    let p : ℕ × ℕ = pair_at c.args.pairs.now c.loop-i.i in
    let ranged : p.1 < c.args.count = (c.requires.pairs c.loop-i.i (0, 0) c.loop-i-test.true).1 in
    let size : length c.loop-i.seen.items ≡ c.args.count = c.loop-i.invariant.3 in
    let inside : p.1 < length c.loop-i.seen.items = omega arith in
    grind (arith, common_steps, inside)

pub index_mut-requires-then-not-index-2 : goal.index_mut-requires-then-not-index-2
index_mut-requires-then-not-index-2 c =
    let p : ℕ × ℕ = pair_at c.args.pairs.now c.loop-i.i in
    let ranged : p.1 < c.args.count = (c.requires.pairs c.loop-i.i (0, 0) c.loop-i-test.true).1 in
    let size : length c.loop-i.numbers.items ≡ c.args.count = c.loop-i.invariant.2 in
    let inside : p.1 < length c.loop-i.numbers.items = omega arith in
    grind (arith, common_steps, inside)

pub returns-clause-numbering : goal.returns-clause-numbering
returns-clause-numbering c = ranked_all c.args.pairs.now c.loop-i.i c.loop-i.seen.items c.loop-i.order.items c.loop-i.numbers.items c.loop-i-test.false c.loop-i.invariant.5
