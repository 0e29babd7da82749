use Rattle.std.proofs.Common.{◌≡◌, ℕ, ◌+◌, ◌++◌, ◌∙◌, Bool, [], ◌∷◌, sym, ap, subst}
use Rattle.std.specs.Prelude.{Vec}
use Rattle.std.specs.List.{All}
use Rattle.std.specs.declared.alloc.Global.{Global}
use Rattle.std.proofs.lemmas.List.Elements.{All-push}
use Rattle.action_groups.specs.Way.{IsStep}
use Rattle.action_groups.proofs.Steps.{AreOnce, step_at, once_push, once_skip}
use Rattle.action_groups.proofs.ways.marked_once.Goals as goal
use Rattle.action_groups.proofs.ways.marked_once.Goals.{then-is_last+in_ok-push, else-is_last}

pub loop-i-preserved : goal.loop-i-preserved
loop-i-preserved c =
    let steps = c.args.steps.now in
    let i : ℕ = c.loop-i.i in
    let once = c.loop-i.once.items in
    let P : ℕ × ℕ × Bool → Type 0 = IsStep c.args.count in
    elim c.if-is_last.branch [
      | then-is_last+in_ok-push w ↦ (
          let pushed : c.if-is_last.once.items ≡ once ++ step_at steps i ∷ [] = ap (λ (v : Vec (ℕ × ℕ × Bool) Global). v.items) w.once-is ∙ w.in_ok-push.ensures.items in (
            subst (All P) (sym pushed) (All-push P once (step_at steps i) c.loop-i.invariant.0 (c.requires.steps i (0, 0, _) c.loop-i-test.true)),
            once_push steps i once c.if-is_last.once.items c.requires.sorted c.loop-i-test.true (c.is_last.ensures.last w.if-is_last.true) pushed c.loop-i.invariant.1,
          ))
      | else-is_last w ↦ (
          let Q : Vec (ℕ × ℕ × Bool) Global → Type 0 = λ v. All P v.items × AreOnce steps (i + 1) v.items in
          let f = w.if-is_last.false in
          subst Q (sym w.once-is) (
            c.loop-i.invariant.0,
            once_skip steps i once c.requires.sorted (c.is_last.ensures.within f) (c.is_last.ensures.from f) (c.is_last.ensures.to f) c.loop-i.invariant.1,
          ))
    ]
