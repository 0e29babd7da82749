use Rattle.std.proofs.Common.{Some, None, ◌<◌, List, [], map, length, subst, arith}
use Rattle.std.specs.List.{All}
use Rattle.std.proofs.lemmas.List.{length-map}
use Rattle.word_core.specs.declared.machines.Line.{Line}
use Rattle.word_core.specs.Cube.{IsCube}
use Rattle.word_core.specs.Gap.{IsLeastGap}
use Rattle.word_core.specs.Machine.{IsDecided}
use Rattle.word_core.proofs.StateLists.{at_map, seen_more, seen_all, seen_least, lines_of}
use Rattle.word_core.proofs.GapHalves.{none_decided, some_undecided}
use Rattle.word_core.proofs.machines.first_with_gap.Goals as goal

pub returns-in-Some : goal.returns-in-Some
returns-in-Some c =
    let states = c.args.states.now in
    let n = c.args.others in
    let i = c.loop-state.state in
    let x = c.index-states-state.result in
    let l = length-map states lines_of in
    let m : i < length (map lines_of states) = omega arith in
    let W : List Line → Type 0 = All (λ l. IsCube n l.when) in
    let w : W x.items = subst W (at_map W states i x c.loop-state-test.true c.index-states-state.is) (c.requires.ranged i [] m) in
    seen_least (IsDecided n) states i x c.loop-state-test.true c.index-states-state.is c.loop-state.invariant
    (some_undecided x.items n c.in-Some._gap w (subst (λ ls. IsLeastGap ls (record { care = 0; want = 0 }) (Some c.in-Some._gap)) c.deref.ensures.value c.in-Some.ensures))

pub loop-state-preserved : goal.loop-state-preserved
loop-state-preserved c =
    seen_more (IsDecided c.args.others) c.args.states.now c.loop-state.state c.index-states-state.result c.loop-state-test.true c.index-states-state.is c.loop-state.invariant
    (none_decided c.index-states-state.result.items c.args.others (subst (λ ls. IsLeastGap ls (record { care = 0; want = 0 }) None) c.deref.ensures.value c.in_default.ensures))

pub returns : goal.returns
returns c = seen_all (IsDecided c.args.others) c.args.states.now c.loop-state.state c.loop-state-test.false c.loop-state.invariant
