use Rattle.std.proofs.Common.{◌∙◌, sym}
use Rattle.std.proofs.lemmas.Slice.Eq.{slice_eq-Decides}
use Rattle.std.proofs.lemmas.Bool.Decides.{Decides-int_eq}
use Rattle.game_core.proofs.sames.same_vector.Goals as goal

pub returns : goal.returns
returns c =
    let d = slice_eq-Decides Decides-int_eq _ _ _ c.eq.ensures in
    ((λ h. sym c.lanes.ensures.value ∙ d.0 h ∙ c.lanes-2.ensures.value), (λ h. d.1 (c.lanes.ensures.value ∙ h ∙ sym c.lanes-2.ensures.value)))
