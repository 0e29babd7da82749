use Rattle.std.proofs.Common.{◌≡◌, ℕ, ◌+◌, ◌<◌, ◌++◌, ◌∙◌, List, [], ◌∷◌, length, get_or, false, replicate, sym, ap, subst, arith, rules}
use Rattle.std.specs.Prelude.{Vec}
use Rattle.std.specs.List.{All}
use Rattle.std.specs.declared.alloc.Global.{Global}
use Rattle.std.proofs.lemmas.List.{length-replicate}
use Rattle.std.proofs.lemmas.List.Elements.{All-nil, All-push, All-replicate, Contains-get_or}
use Rattle.action_groups.specs.declared.ways.Way.{Way}
use Rattle.action_groups.specs.Way.{IsWay}
use Rattle.action_groups.proofs.Thinned.{AreThinned, thin_all, thin_keep, thin_leave, thin_start}
use Rattle.action_groups.proofs.thinnings.thinned.Goals as goal
use Rattle.action_groups.proofs.thinnings.thinned.Goals.{then-not-gives_way+in_ok-push, else-not-gives_way}

abbrev no_way : Way
no_way = record { from = 0; edge = record { cube = record { care = 0; want = 0 }; next = 0; marked = false } }

pub loop-i-init : goal.loop-i-init
loop-i-init c =
    let ways = c.args.ways.now in
    let none : c.in_ok-kept.kept.items ≡ [] = c.in_ok-kept.ensures.items in
    let zeros : c.in_ok-leaders.leaders.items ≡ replicate c.args.count 0 = search rules in (
      subst (All (IsWay c.args.count)) (sym none) (All-nil (IsWay c.args.count)),
      ap (λ (l : List ℕ). length l) zeros ∙ length-replicate c.args.count 0,
      λ some. subst (All (λ j. j < length ways)) (sym zeros) (All-replicate (λ j. j < length ways) c.args.count 0 some),
      subst (AreThinned c.args.order c.args.place ways 0) (sym none) (thin_start c.args.order c.args.place ways),
    )

pub loop-i-preserved : goal.loop-i-preserved
loop-i-preserved c =
    let ways = c.args.ways.now in
    let i : ℕ = c.loop-i.i in
    let lt : i < length ways = c.loop-i-test.true in
    let leaders = c.refresh_leaders.new.leaders.items in
    let count : length leaders ≡ c.args.count = c.refresh_leaders.ensures.count ∙ c.loop-i.invariant.1 in
    elim c.if-not-gives_way.branch [
      | then-not-gives_way+in_ok-push w ↦ (
          let pushed : c.if-not-gives_way.kept.items ≡ c.loop-i.kept.items ++ get_or ways i _ ∷ [] = ap (λ (v : Vec Way Global). v.items) w.kept-is ∙ w.in_ok-push.ensures.items in (
            subst (All (IsWay c.args.count)) (sym pushed) (All-push (IsWay c.args.count) c.loop-i.kept.items (get_or ways i _) c.loop-i.invariant.0 (c.requires.ways i _ lt)),
            count,
            λ some. c.refresh_leaders.ensures.leaders,
            thin_keep c.args.order c.args.place ways i c.loop-i.kept.items c.if-not-gives_way.kept.items _ lt pushed c.loop-i.invariant.3,
          ))
      | else-not-gives_way w ↦ (
          let same : c.if-not-gives_way.kept.items ≡ c.loop-i.kept.items = ap (λ (v : Vec Way Global). v.items) w.kept-is in
          let ranged : IsWay c.args.count (get_or ways i no_way) = c.requires.ways i no_way lt in
          let inside : c.index.result.now < length ways =
          subst (λ j. j < length ways) (sym c.index.ensures) (c.refresh_leaders.ensures.leaders (get_or ways i no_way).edge.next c.index.result.now (omega (arith, count, ranged.1))) in (
            subst (All (IsWay c.args.count)) (sym same) c.loop-i.invariant.0,
            count,
            λ some. c.refresh_leaders.ensures.leaders,
            subst (AreThinned c.args.order c.args.place ways (i + 1)) (sym same)
                (thin_leave c.args.order c.args.place ways i c.loop-i.kept.items _ _ lt (Contains-get_or ways c.index.result.now _ inside) (c.gives_way.ensures w.if-not-gives_way.false) c.loop-i.invariant.3),
          ))
    ]

pub returns-clause-same : goal.returns-clause-same
returns-clause-same c = thin_all c.args.order c.args.place c.args.ways.now c.loop-i.i c.loop-i.kept.items c.loop-i-test.false c.loop-i.invariant.3
