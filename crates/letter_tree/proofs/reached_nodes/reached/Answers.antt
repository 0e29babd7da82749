use Rattle.std.proofs.Common.{◌≡◌, ℕ, List, length, subst, replicate, Option, Some, None, rules, ap, ◌∙◌}
use Rattle.std.specs.List.{slice_get}
use Rattle.word_core.specs.declared.branches.Branch.{Branch}
use Rattle.letter_tree.specs.Diagram.{Visits}
use Rattle.letter_tree.proofs.Copies.{IsReached-copied, slice_get-replicate}
use Rattle.letter_tree.proofs.reached_nodes.reached.Goals as goal

-- no place is noted yet
abbrev no_place : Option ℕ
no_place = None

pub returns : goal.returns
returns c =
    let e : c.deref_mut.result.now ≡ replicate (length c.args.nodes.now) no_place = search rules in
    let none : slice_get c.deref_mut.result.now c.args.root ≡ Some None =
    ap (λ t. slice_get t c.args.root) e ∙ slice_get-replicate _ _ _ c.requires.root_in in
    let walk : Visits c.visit.new.out.items 0 c.in_ok-visit.field-0 (length c.visit.new.out.items) =
    subst (λ n. Visits c.visit.new.out.items n c.in_ok-visit.field-0 (length c.visit.new.out.items)) (ap (λ (t : List Branch). length t) c.in_ok-out.ensures.items) c.in_ok-visit.ensures.walk in
    IsReached-copied _ _ _ _ _ _ _ c.requires.diagram c.requires.distinct c.in_ok-visit.ensures.copying c.in_ok-visit.ensures.copied (c.in_ok-visit.ensures.fresh none) walk
