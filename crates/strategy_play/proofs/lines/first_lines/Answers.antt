use Rattle.std.proofs.Common.{Vec, Global, ◌≡◌, ◌∙◌, sym, ap, subst, true}
use Rattle.std.proofs.lemmas.Result.{IfOk-weaker}
use Rattle.game_form.specs.Game.{ClassData}
use Rattle.word_core.specs.declared.machines.Line.{Line}
use Rattle.strategy_play.specs.Lead.{lead, all_lead}
use Rattle.strategy_play.proofs.Leading.{leader_within, leader_leads}
use Rattle.letter_tree.specs.Diagram.{TreeData, IsRooted}
use Rattle.strategy_play.proofs.Answered.{label_is, first_answers}
use Rattle.strategy_play.proofs.Made.{AreCubes, first_made}
use Rattle.strategy_play.proofs.lines.first_lines.Goals as goal

pub class-class-requires : goal.class-class-requires
class-class-requires c = leader_within (lead c.args.nexts.now) c.args.g.now.classes c.leading_class.result c.leading_class.ensures

pub targets-requires-clause-lead : goal.targets-requires-clause-lead
targets-requires-clause-lead c =
    subst (λ (k : ClassData). all_lead (lead c.args.nexts.now) k.options ≡ true) (sym c.class-class.ensures.value)
    (leader_leads c.args.g.now (lead c.args.nexts.now) c.leading_class.result c.leading_class.ensures)

cubes_are : (c : goal.After-drop-targets-2) → AreCubes c.args.g.now c.in_ok-tree.tree c.in_ok-cubes.cubes.items
cubes_are c = record {
  width = c.in_ok-tree.ensures.width ∙ c.other_width.ensures;
  rooted = subst (λ (t : TreeData). IsRooted t.width t.nodes) c.tree.view_is c.tree.invariant;
  lines = c.in_ok-cubes.ensures.lines;
  within = c.in_ok-cubes.ensures.cubes;
  split = c.in_ok-cubes.ensures.label;
}

pub returns-clause-state : goal.returns-clause-state
returns-clause-state c =
    let own_is = ap (λ (k : ClassData). k.least) c.class.view_is in
    let labelled = label_is c.in_ok-tree.tree _ _ _ _ _ _ _ c.deref.ensures.value c.letters.ensures c.own_width.ensures c.in_ok-tree.ensures.label in
    IfOk-weaker _ _ _ (λ (v : Vec Line Global) made. first_made c.args.g.now c.args.nexts.now c.class-class.result.now _ _ c.in_ok-targets.targets.items _ c.in_ok-cubes.cubes.items c.in_ok-tree.tree v.items c.requires.kind
    c.class-class.ensures.known own_is c.in_ok-targets.ensures c.deref-2.ensures.value (cubes_are c) c.deref-3.ensures.value labelled made) c.lines_by_action.ensures

pub returns-clause-answers : goal.returns-clause-answers
returns-clause-answers c =
    let own_is = ap (λ (k : ClassData). k.least) c.class.view_is in
    let labelled = label_is c.in_ok-tree.tree _ _ _ _ _ _ _ c.deref.ensures.value c.letters.ensures c.own_width.ensures c.in_ok-tree.ensures.label in
    IfOk-weaker _ _ _ (λ (v : Vec Line Global) made. first_answers c.args.g.now c.args.nexts.now c.leading_class.result _ c.class-class.result.now _ c.in_ok-targets.targets.items _ c.in_ok-cubes.cubes.items c.in_ok-tree.tree v.items c.requires.kind
    c.leading_class.ensures c.class-class.ensures.value own_is c.in_ok-targets.ensures c.deref-2.ensures.value (cubes_are c) c.deref-3.ensures.value labelled made) c.lines_by_action.ensures
