use Rattle.std.proofs.Common.{None, sym, ◌∙◌, rules}
use Rattle.std.proofs.lemmas.Option.{slice_get-get_or}
use Rattle.letter_tree.proofs.Copies.{read_at, Some-same}
use Rattle.letter_tree.proofs.SumSteps.{IsLowered-put, IsLowered-same}
use Rattle.letter_tree.proofs.occurrences.lower.Goals as goal

pub returns-then-not-is_at_most : goal.returns-then-not-is_at_most
returns-then-not-is_at_most c =
    IsLowered-put _ _ _ c.requires (λ v e. c.is_at_most.ensures.above v (search rules) (Some-same (sym (slice_get-get_or _ _ None c.requires) ∙ e)))

pub returns-else-not-is_at_most : goal.returns-else-not-is_at_most
returns-else-not-is_at_most c =
    let h = c.is_at_most.ensures.below (search rules) in
    IsLowered-same _ _ _ _ (read_at _ _ None _ c.requires h.1) h.2
