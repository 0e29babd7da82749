use Rattle.std.proofs.Common.{◌<◌, sym, ◌∙◌, ap, length, arith}
use Rattle.std.proofs.lemmas.List.{get_or_default}
use Rattle.word_core.proofs.machines.has_one_own.Goals as goal

pub returns-then-line-first : goal.returns-then-line-first
returns-then-line-first c =
    let lines = c.args.lines.now in
    let first = c.in-Some.first.now in
    let i = c.loop-line.line-index in
    let l : 0 < length lines = omega (arith, c.loop-line-test.true) in (
      λ h. absurd cc,
      λ h. absurd (c.if-line-first.true (ap (λ v. v.own) (get_or_default lines i _ first c.loop-line-test.true) ∙ h first i 0 c.loop-line-test.true l ∙ ap (λ v. v.own) (sym c.in-Some.ensures.item.1))),
    )
