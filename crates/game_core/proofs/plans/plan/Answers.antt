use Rattle.std.proofs.Common.{◌≡◌, ◌∙◌, sym, ap, subst, refl, arith, true, ◌<◌, ℕ, List, Vec, length}
use Rattle.std.specs.List.{All, list_any}
use Rattle.std.specs.declared.alloc.Global.{Global}
use Rattle.game_core.specs.Plan.{AreActions, each_planned}
use Rattle.game_core.proofs.Options.{class_actions, class_placed, class_needless}
use Rattle.game_core.proofs.plans.plan.Goals as goal
use Rattle.game_core.proofs.plans.plan.Goals.{then-not-is_needless+in_ok-needed, else-not-is_needless}

pub least_options-requires : goal.least_options-requires
least_options-requires c =
    class_actions c.args.g.now c.class.result.now c.deref.result.now c.class.ensures.known (c.deref.ensures.value ∙ c.in_ok-all.ensures)

pub loop-c-preserved : goal.loop-c-preserved
loop-c-preserved c =
    let g = c.args.g.now in
    let all : List ℕ = c.deref.result.now in
    let options : List ℕ = c.in_ok-options.options.items in
    let lt : c.loop-c.c < length g.classes = (let e = ap length c.classes-c-end.ensures in omega arith) in
    let whole = c.deref.ensures.value ∙ c.in_ok-all.ensures in
    elim c.if-not-is_needless.branch [
      | then-not-is_needless+in_ok-needed w ↦ (
        let P : Vec (Vec ℕ Global) Global → Type 0 = λ v. All (λ x. AreActions (length g.actions) x.items) v.items in
            subst P (sym w.needed-is) w.in_ok-needed.ensures.actions,
        λ test respects.
            ap (λ (v : Vec (Vec ℕ Global) Global). each_planned test v.items) w.needed-is
            ∙ class_placed g test c.loop-c.needed.items c.class.result.now all options c.loop-c.c lt c.class.ensures.value whole
            (c.in_ok-options.ensures.same test respects) (c.loop-c.invariant.1 test respects) w.in_ok-needed.needed.items (w.in_ok-needed.ensures.same test respects),
      )
      | else-not-is_needless w ↦ (
        let P : Vec (Vec ℕ Global) Global → Type 0 = λ v. All (λ x. AreActions (length g.actions) x.items) v.items in
            subst P (sym w.needed-is) c.loop-c.invariant.0,
        λ test respects.
            ap (λ (v : Vec (Vec ℕ Global) Global). each_planned test v.items) w.needed-is
            ∙ class_needless g test c.loop-c.needed.items c.class.result.now all options c.loop-c.c lt c.class.ensures.value whole
            (c.in_ok-options.ensures.same test respects) (c.loop-c.invariant.1 test respects)
            (λ h. subst (λ (xs : List ℕ). list_any test xs ≡ true) c.deref-in-loop-c-2.ensures.value
            (w.if-not-is_needless.ensures refl test respects (subst (λ (ps : List (Vec ℕ Global)). each_planned test ps ≡ true) (sym c.deref-in-loop-c.ensures.value) h))),
      )
    ]
