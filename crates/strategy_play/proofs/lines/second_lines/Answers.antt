use Rattle.std.proofs.Common.{Vec, Global, ◌∙◌, subst, refl}
use Rattle.std.proofs.lemmas.Result.{IfOk-weaker}
use Rattle.word_core.specs.declared.machines.Line.{Line}
use Rattle.strategy_play.specs.Lead.{AreNumbers}
use Rattle.letter_tree.specs.Diagram.{TreeData, IsRooted}
use Rattle.strategy_play.proofs.Answered.{label_is, second_answers}
use Rattle.strategy_play.proofs.Made.{AreCubes, second_made, class_within}
use Rattle.strategy_play.proofs.lines.second_lines.Goals as goal

cubes_are : (c : goal.After-drop-picks-2) → AreCubes c.args.g.now c.in_ok-tree.tree c.in_ok-cubes.cubes.items
cubes_are c = record {
  width = c.in_ok-tree.ensures.width ∙ c.other_width.ensures;
  rooted = subst (λ (t : TreeData). IsRooted t.width t.nodes) c.tree.view_is c.tree.invariant;
  lines = c.in_ok-cubes.ensures.lines;
  within = c.in_ok-cubes.ensures.cubes;
  split = c.in_ok-cubes.ensures.label;
}

pub returns-clause-state : goal.returns-clause-state
returns-clause-state c =
    let numbered = subst (λ ps. AreNumbers ps c.in_ok-numbers.numbers.items) c.deref.ensures.value c.in_ok-numbers.ensures in
    let labelled = label_is c.in_ok-tree.tree _ c.in_ok-numbers.numbers.items _ c.args.g.now.firsts 0 0 0 c.deref-2.ensures.value c.firsts.ensures refl c.in_ok-tree.ensures.label in
    IfOk-weaker _ _ _ (λ (v : Vec Line Global) made. second_made c.args.g.now c.args.nexts.now _ c.in_ok-picks.picks.items c.in_ok-numbers.numbers.items _ c.in_ok-cubes.cubes.items c.in_ok-tree.tree v.items c.known.ensures c.requires.kind
    c.in_ok-picks.ensures c.deref-3.ensures.value numbered (cubes_are c) c.deref-4.ensures.value labelled (class_within c.args.g.now c.known.ensures) made) c.lines_by_class.ensures

pub returns-clause-answers : goal.returns-clause-answers
returns-clause-answers c =
    let numbered = subst (λ ps. AreNumbers ps c.in_ok-numbers.numbers.items) c.deref.ensures.value c.in_ok-numbers.ensures in
    let labelled = label_is c.in_ok-tree.tree _ c.in_ok-numbers.numbers.items _ c.args.g.now.firsts 0 0 0 c.deref-2.ensures.value c.firsts.ensures refl c.in_ok-tree.ensures.label in
    IfOk-weaker _ _ _ (λ (v : Vec Line Global) made. second_answers c.args.g.now c.args.nexts.now _ c.in_ok-picks.picks.items c.in_ok-numbers.numbers.items _ c.in_ok-cubes.cubes.items c.in_ok-tree.tree v.items c.known.ensures c.requires.kind
    c.in_ok-picks.ensures c.deref-3.ensures.value numbered (cubes_are c) c.deref-4.ensures.value labelled made) c.lines_by_class.ensures
