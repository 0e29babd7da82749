use Rattle.std.proofs.Common.{◌≡◌, Some, sym, subst, rules}
use Rattle.std.specs.List.{slice_get}
use Rattle.word_core.specs.declared.branches.Branch.TheVariants.{Split}
use Rattle.letter_tree.specs.Diagram.{TreeData, CanFork, Grows, IsDiagram}
use Rattle.letter_tree.proofs.Diagrams.{IsDiagram-insert, Grows-insert, Grows-same, IsForked-stored, IsFork-can}
use Rattle.letter_tree.proofs.tables.Table.fork.Goals as goal

pub invariant_of-self-2 : goal.invariant_of-self-2
invariant_of-self-2 c =
    let can = subst (λ (t : TreeData). CanFork t c.args.signal c.args.low c.args.high) (sym c.self.view_is) c.requires in
    IsDiagram-insert _ _ _ _ _ c.in_ok-place.ensures.keys c.self.invariant (IsFork-can _ _ _ _ can c.if-low-high.false)

pub returns-clause-at : goal.returns-clause-at
returns-clause-at c =
    let at : slice_get c.insert_full.new.self.keys c.in_ok-place.place ≡ Some (Split c.args.signal c.args.low c.args.high) = search rules in
    let can = subst (λ (t : TreeData). CanFork t c.args.signal c.args.low c.args.high) (sym c.self.view_is) c.requires in
    let d : IsDiagram c.self.inside.width c.insert_full.new.self.keys =
    IsDiagram-insert _ _ _ _ _ c.in_ok-place.ensures.keys c.self.invariant (IsFork-can _ _ _ _ can c.if-low-high.false) in
    IsForked-stored _ _ _ _ _ d at

pub returns-then-low-high-clause-grows : goal.returns-then-low-high-clause-grows
returns-then-low-high-clause-grows c = subst (λ (t : TreeData). Grows t t) c.self.view_is (Grows-same _ c.self.invariant)

pub returns-clause-grows : goal.returns-clause-grows
returns-clause-grows c =
    let can = subst (λ (t : TreeData). CanFork t c.args.signal c.args.low c.args.high) (sym c.self.view_is) c.requires in
    let d : IsDiagram c.self.inside.width c.insert_full.new.self.keys =
    IsDiagram-insert _ _ _ _ _ c.in_ok-place.ensures.keys c.self.invariant (IsFork-can _ _ _ _ can c.if-low-high.false) in
    rw (← c.self.view_is) (Grows-insert _ _ _ _ _ c.in_ok-place.ensures.keys d)
