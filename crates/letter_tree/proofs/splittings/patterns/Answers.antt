use Rattle.std.proofs.Common.{◌≡◌, ℕ, ap, ◌∙◌, subst, List, sym}
use Rattle.std.specs.List.{All}
use Rattle.word_core.specs.declared.cubes.Cube.{Cube}
use Rattle.word_core.specs.Cube.{IsCube}
use Rattle.letter_tree.specs.Splitting.{splitting, pattern_of}
use Rattle.letter_tree.proofs.SplitLines.{splitting_cubes, splitting_label, whole_splitting}
use Rattle.letter_tree.proofs.splittings.patterns.Goals as goal

pub returns-clause-cubes : goal.returns-clause-cubes
returns-clause-cubes c =
    let e : c.put_patterns.new.out.items ≡ splitting c.args.t.now.nodes =
    whole_splitting _ _ _ _ c.new-out.ensures.items c.branches-nodes.ensures.value c.in_ok-put_patterns.ensures in
    subst (λ (l : List (Cube × ℕ)). All (λ p. IsCube c.args.t.now.width p.0) l) (sym e) (splitting_cubes _ _ c.branches-nodes.ensures.known)

pub returns-clause-label : goal.returns-clause-label
returns-clause-label c bits =
    let e : c.put_patterns.new.out.items ≡ splitting c.args.t.now.nodes =
    whole_splitting _ _ _ _ c.new-out.ensures.items c.branches-nodes.ensures.value c.in_ok-put_patterns.ensures in
    ap (λ (l : List (Cube × ℕ)). pattern_of l bits) e ∙ splitting_label _ _ c.branches-nodes.ensures.known bits
