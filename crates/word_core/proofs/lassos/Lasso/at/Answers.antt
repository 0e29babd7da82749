use Rattle.std.proofs.Common.{◌≡◌, ◌-◌, ◌<◌, ◌≤◌, ◌+◌, length, get_or, Some, subst, sym, ap, ◌∙◌, arith}
use Rattle.word_core.specs.Lasso.{letter_at, size}
use Rattle.word_core.proofs.LassoLetters.{cycle_letter}
use Rattle.word_core.proofs.lassos.Lasso.at.Goals as goal

pub returns-else-p-len : goal.returns-else-p-len
returns-else-p-len c =
    let stem = c.self.inside.stem in
    let cycle = c.self.inside.cycle in
    let n : c.len-else-p-len.result ≡ length stem.items = c.len-else-p-len.ensures ∙ stem.ok.0 in
    let m : c.len.result ≡ length stem.items = c.len.ensures ∙ stem.ok.0 in
    let h : length stem.items ≤ c.args.p = omega arith in
    let l : c.args.p < length stem.items + length cycle.items = subst (λ w. c.args.p < size w) (sym c.self.view_is) c.requires in
    let x = c.index-else-p-len.result.now in
    subst (λ w. letter_at w c.args.p ≡ Some x) c.self.view_is
    (cycle_letter stem.items cycle.items c.args.p x h l (c.index-else-p-len.ensures ∙ ap (λ i. get_or cycle.items (c.args.p - i) x) n))
