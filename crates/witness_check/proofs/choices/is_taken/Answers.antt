use Rattle.std.proofs.Common.{◌≡◌, ◌+◌, true, false, length, sym, subst, ap, ◌∙◌}
use Rattle.word_core.specs.Cube.{holds, IsCube}
use Rattle.witness_check.specs.Product.{IsPart, HasGap, own_side, other_side}
use Rattle.witness_check.proofs.CubeLaws.{other_side_in, taken_from_gap, gap_from_taken}
use Rattle.witness_check.proofs.choices.is_taken.Goals as goal

pub has_gap-requires-clause-other_in : goal.has_gap-requires-clause-other_in
has_gap-requires-clause-other_in c =
    let m = c.args.m.now in
    let cube = c.args.edge.cube in
    let w = subst (λ i. IsCube (i + m.outputs) cube) (sym c.inputs.ensures.value) c.requires.edge_in in
    subst IsPart (sym c.sides.ensures.other) (other_side_in c.player.result c.inputs.result m.outputs cube w).1

pub returns-then-holds : goal.returns-then-holds
returns-then-holds c =
    let m = c.args.m.now in
    let cube = c.args.edge.cube in
    let line = c.args.line in
    let earlier = c.args.earlier.now in
    let other = c.sides.ensures.other ∙ ap (λ p. other_side p c.inputs.result cube) c.player.ensures ∙ ap (λ i. other_side m.player i cube) c.inputs.ensures.value in
    let own = c.sides.ensures.own ∙ ap (λ p. own_side p c.inputs.result cube) c.player.ensures ∙ ap (λ i. own_side m.player i cube) c.inputs.ensures.value in
    let held = subst (λ s. holds s line.own ≡ true) own (sym c.holds.ensures ∙ c.if-holds.true) in (
      λ h. taken_from_gap m c.args.edge line earlier (length m.states) c.requires.edge_in c.requires.line_in c.requires.earlier_in held (subst (λ s. HasGap line.when s earlier) other (c.has_gap.ensures.0 h)),
      λ t. c.has_gap.ensures.1 (subst (λ s. HasGap line.when s earlier) (sym other) (gap_from_taken m c.args.edge line earlier (length m.states) c.requires.line_in t).1),
    )

pub returns-else-holds : goal.returns-else-holds
returns-else-holds c =
    let m = c.args.m.now in
    let cube = c.args.edge.cube in
    let line = c.args.line in
    let own = c.sides.ensures.own ∙ ap (λ p. own_side p c.inputs.result cube) c.player.ensures ∙ ap (λ i. own_side m.player i cube) c.inputs.ensures.value in
    let held = subst (λ s. holds s line.own ≡ false) own (sym c.holds.ensures ∙ c.if-holds.false) in (
      λ h. absurd cc,
      λ t. (let g = (gap_from_taken m c.args.edge line c.args.earlier.now (length m.states) c.requires.line_in t).0 in absurd cc),
    )
