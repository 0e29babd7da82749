use Rattle.std.proofs.Common.{sym, ◌∙◌}
use Rattle.std.proofs.lemmas.Result.{IfOk-weaker}
use Rattle.letter_tree.proofs.Joints.{join_labels, join_parts, can_fork, IsJoining-grow, IsJoining-note, IsJoin-noted}
use Rattle.letter_tree.proofs.joins.+joined.Goals as goal

pub fork-requires : goal.fork-requires
fork-requires g t c =
    can_fork _ _ _ _ _ _ _ _ _ _ _ _ _ c.in-Parts.ensures (c.in_ok-zero-in-Parts.ensures.grows.width ∙ sym c.width.ensures)
    c.in_ok-one-in-Parts.ensures.grows c.in_ok-zero-in-Parts.ensures.at c.in_ok-one-in-Parts.ensures.at

pub returns-in_ok-place-in-Labels-clause-joining : goal.returns-in_ok-place-in-Labels-clause-joining
returns-in_ok-place-in-Labels-clause-joining g t c =
    IfOk-weaker _ _ _
    (λ answer n. IsJoining-note _ _ _ _ _ _ _ _ _ answer (IsJoining-grow _ _ _ _ _ _ c.in_ok-place-in-Labels.ensures.grows c.requires.joining)
    (join_labels _ _ _ _ _ _ _ _ _ _ c.in_ok-place-in-Labels.ensures.at c.in-Labels.ensures.0 c.in-Labels.ensures.1 c.f.ensures) n)
    c.note.ensures

pub returns-in_ok-place-in-Labels-clause-at : goal.returns-in_ok-place-in-Labels-clause-at
returns-in_ok-place-in-Labels-clause-at g t c =
    IfOk-weaker _ _ _
    (λ answer n. IsJoin-noted _ _ _ _ _ _ _ _ _ answer
    (join_labels _ _ _ _ _ _ _ _ _ _ c.in_ok-place-in-Labels.ensures.at c.in-Labels.ensures.0 c.in-Labels.ensures.1 c.f.ensures) n)
    c.note.ensures

pub returns-in_ok-place-in-Parts-clause-joining : goal.returns-in_ok-place-in-Parts-clause-joining
returns-in_ok-place-in-Parts-clause-joining g t c =
    let zero = c.in_ok-zero-in-Parts.ensures in
    let one = c.in_ok-one-in-Parts.ensures in
    IfOk-weaker _ _ _
    (λ answer n. IsJoining-note _ _ _ _ _ _ _ _ _ answer (IsJoining-grow _ _ _ _ _ _ c.in_ok-place-in-Parts.ensures.grows one.joining)
    (join_parts _ _ _ _ _ _ _ _ _ _ _ _ _ _ _ c.in-Parts.ensures (zero.grows.width ∙ sym c.width.ensures) one.grows
    c.in_ok-place-in-Parts.ensures.grows zero.at one.at c.in_ok-place-in-Parts.ensures.at) n)
    c.note-in-Parts.ensures

pub returns-in_ok-place-in-Parts-clause-at : goal.returns-in_ok-place-in-Parts-clause-at
returns-in_ok-place-in-Parts-clause-at g t c =
    let zero = c.in_ok-zero-in-Parts.ensures in
    let one = c.in_ok-one-in-Parts.ensures in
    IfOk-weaker _ _ _
    (λ answer n. IsJoin-noted _ _ _ _ _ _ _ _ _ answer
    (join_parts _ _ _ _ _ _ _ _ _ _ _ _ _ _ _ c.in-Parts.ensures (zero.grows.width ∙ sym c.width.ensures) one.grows
    c.in_ok-place-in-Parts.ensures.grows zero.at one.at c.in_ok-place-in-Parts.ensures.at) n)
    c.note-in-Parts.ensures
