use Rattle.letter_tree.specs.Diagram.{IsDiagram}
use Rattle.letter_tree.proofs.Diagrams.{IsDiagram-insert, Grows-insert}
use Rattle.letter_tree.proofs.tables.Table.leaf.Goals as goal

pub invariant_of-self-2 : goal.invariant_of-self-2
invariant_of-self-2 c = IsDiagram-insert _ _ _ _ _ c.in_ok-place.ensures.keys c.self.invariant tt

pub returns-clause-grows : goal.returns-clause-grows
returns-clause-grows c =
    let d : IsDiagram c.self.inside.width c.insert_full.new.self.keys =
    IsDiagram-insert _ _ _ _ _ c.in_ok-place.ensures.keys c.self.invariant tt in
    rw (← c.self.view_is) (Grows-insert _ _ _ _ _ c.in_ok-place.ensures.keys d)
