use Rattle.std.proofs.Common.{◌∙◌, sym, arith, refl, []}
use Rattle.std.proofs.lemmas.List.{ext_get_or}
use Rattle.game_core.proofs.sames.same_list.Goals as goal

pub returns : goal.returns
returns c =
    let same = ext_get_or [] c.entries-xs.result.now c.entries-ys.result.now (omega arith) (λ k lt. c.loop-i.invariant k (omega arith)) in
    ((λ h. sym c.entries-xs.ensures.value ∙ same ∙ c.entries-ys.ensures.value), (λ h. refl))
