use Rattle.std.proofs.Common.{◌<◌, ◌≤◌, length, arith, rules}
use Rattle.std.proofs.lemmas.Result.{IfOk-weaker}
use Rattle.std.specs.List.{slice_get}
use Rattle.letter_tree.specs.Diagram.{top}
use Rattle.letter_tree.proofs.Diagrams.{Grows-then, Grows-length}
use Rattle.letter_tree.proofs.SignalChoices.{choice_at, choice_parts, can_fork_choices, IsChoosing-grow, IsChoosing-note, IsChoice-noted, HasParts-at, IsPart-at}
use Rattle.letter_tree.proofs.choices.+chosen.Goals as goal

pub fork-requires : goal.fork-requires
fork-requires t c =
    let parts = HasParts-at _ _ _ _ _ _ _ _ _ _ c.nodes.ensures.value c.nodes-2.ensures.value c.width-width.ensures c.in-Parts.ensures in
    let below = c.in_ok-below-in-Parts.ensures in
    let above = c.in_ok-above-in-Parts.ensures in
    can_fork_choices _ _ _ _ _ _ _ _ _ _ _ parts c.if-first-signal.true below.grows above.grows below.at above.at

pub returns-in_ok-place-in-Parts-clause-choosing : goal.returns-in_ok-place-in-Parts-clause-choosing
returns-in_ok-place-in-Parts-clause-choosing t c =
    let parts = HasParts-at _ _ _ _ _ _ _ _ _ _ c.nodes.ensures.value c.nodes-2.ensures.value c.width-width.ensures c.in-Parts.ensures in
    let below = c.in_ok-below-in-Parts.ensures in
    let above = c.in_ok-above-in-Parts.ensures in
    let place = c.in_ok-place-in-Parts.ensures in
    let g = Grows-then _ _ _ below.grows (Grows-then _ _ _ above.grows place.grows) in
    let low_in : c.args.low < length c.fork.new.self.nodes = omega (arith, c.requires.low_in, Grows-length _ _ g) in
    let high_in : c.args.high < length c.fork.new.self.nodes = omega (arith, c.requires.high_in, Grows-length _ _ g) in
    IfOk-weaker _ _ _
    (λ answer n. IsChoosing-note _ _ _ _ _ _ _ answer low_in high_in (IsChoosing-grow _ _ _ _ place.grows above.choosing)
    (choice_parts _ _ _ _ _ _ _ _ _ _ _ _ _ parts c.requires.low_in c.requires.high_in below.grows above.grows place.grows below.at above.at place.at) n)
    c.note.ensures

pub returns-in_ok-place-in-Parts-clause-at : goal.returns-in_ok-place-in-Parts-clause-at
returns-in_ok-place-in-Parts-clause-at t c =
    let parts = HasParts-at _ _ _ _ _ _ _ _ _ _ c.nodes.ensures.value c.nodes-2.ensures.value c.width-width.ensures c.in-Parts.ensures in
    let below = c.in_ok-below-in-Parts.ensures in
    let above = c.in_ok-above-in-Parts.ensures in
    let place = c.in_ok-place-in-Parts.ensures in
    IfOk-weaker _ _ _
    (λ answer n. IsChoice-noted _ _ _ _ _ _ _ answer
    (choice_parts _ _ _ _ _ _ _ _ _ _ _ _ _ parts c.requires.low_in c.requires.high_in below.grows above.grows place.grows below.at above.at place.at) n)
    c.note.ensures

pub returns-in_ok-place-in_default-joint-clause-choosing : goal.returns-in_ok-place-in_default-joint-clause-choosing
returns-in_ok-place-in_default-joint-clause-choosing t c =
    let bx : c.args.signal ≤ top c.args.table.now.width (slice_get c.args.table.now.nodes c.args.low) = search rules in
    let by_ : c.args.signal ≤ top c.args.table.now.width (slice_get c.args.table.now.nodes c.args.high) = search rules in
    let zero = IsPart-at _ _ _ _ _ _ _ _ c.nodes-in_default-joint.ensures.value c.width-width.ensures c.part-zero.ensures in
    let one = IsPart-at _ _ _ _ _ _ _ _ c.nodes-in_default-joint-2.ensures.value c.width-width.ensures c.part-one.ensures in
    let place = c.in_ok-place-in_default-joint.ensures in
    let low_in : c.args.low < length c.fork-in_default-joint.new.self.nodes = omega (arith, c.requires.low_in, Grows-length _ _ place.grows) in
    let high_in : c.args.high < length c.fork-in_default-joint.new.self.nodes = omega (arith, c.requires.high_in, Grows-length _ _ place.grows) in
    IfOk-weaker _ _ _
    (λ answer n. IsChoosing-note _ _ _ _ _ _ _ answer low_in high_in (IsChoosing-grow _ _ _ _ place.grows c.requires.choosing)
    (choice_at _ _ _ _ _ _ _ _ zero one bx by_ c.requires.low_in c.requires.high_in place.grows place.at) n)
    c.note-in_default-joint.ensures

pub returns-in_ok-place-in_default-joint-clause-at : goal.returns-in_ok-place-in_default-joint-clause-at
returns-in_ok-place-in_default-joint-clause-at t c =
    let bx : c.args.signal ≤ top c.args.table.now.width (slice_get c.args.table.now.nodes c.args.low) = search rules in
    let by_ : c.args.signal ≤ top c.args.table.now.width (slice_get c.args.table.now.nodes c.args.high) = search rules in
    let zero = IsPart-at _ _ _ _ _ _ _ _ c.nodes-in_default-joint.ensures.value c.width-width.ensures c.part-zero.ensures in
    let one = IsPart-at _ _ _ _ _ _ _ _ c.nodes-in_default-joint-2.ensures.value c.width-width.ensures c.part-one.ensures in
    let place = c.in_ok-place-in_default-joint.ensures in
    IfOk-weaker _ _ _
    (λ answer n. IsChoice-noted _ _ _ _ _ _ _ answer
    (choice_at _ _ _ _ _ _ _ _ zero one bx by_ c.requires.low_in c.requires.high_in place.grows place.at) n)
    c.note-in_default-joint.ensures
