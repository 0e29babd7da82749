use Rattle.std.proofs.Common.{◌≡◌, drop, None, subst, sym, ap, ◌∙◌}
use Rattle.std.specs.Prelude.{IsSome}
use Rattle.std.proofs.lemmas.List.{drop_all}
use Rattle.word_core.specs.Machine.{choice}
use Rattle.word_core.proofs.machines.Machine.step.Goals as goal

pub unreachable-requires : goal.unreachable-requires
unreachable-requires c =
    let lines = c.lines-line-items.result.now in
    let x = c.args.other in
    let d = c.lines-line-items.ensures.decided x c.requires.other_in in
    let e : choice (drop c.loop-line.line-index lines) x ≡ choice lines x = subst (λ w. choice (drop c.loop-line.line-index w) x ≡ choice w x) (sym c.lines-line-items.ensures.value) c.loop-line.invariant in
    let n : choice lines x ≡ None = sym e ∙ ap (λ w. choice w x) (drop_all c.loop-line.line-index lines c.loop-line-test.false) in
    let t = subst IsSome n d in
    cc
