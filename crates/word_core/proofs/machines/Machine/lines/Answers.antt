use Rattle.std.proofs.Common.{◌≡◌, ◌<◌, [], length, map, subst, sym, ◌∙◌, arith}
use Rattle.std.specs.List.{All}
use Rattle.std.proofs.lemmas.List.{length-map}
use Rattle.word_core.specs.Machine.{IsMachine, IsLine, IsDecided, lines_at, own_of, other_of}
use Rattle.word_core.proofs.StateLists.{at_map, lines_of}
use Rattle.word_core.proofs.machines.Machine.lines.Goals as goal

the_lines : (c : goal.After-deref) → c.deref.result.now ≡ lines_at c.args.self.now c.args.state
the_lines c =
    let states = c.self.inside.states.items in
    let q : c.args.state < length (map lines_of states) = subst (λ w. c.args.state < length w.states) (sym c.self.view_is) c.requires in
    let l : c.args.state < length states = omega (arith, length-map states lines_of) in
    subst (λ w. c.deref.result.now ≡ lines_at w c.args.state) c.self.view_is
    (c.deref.ensures.value ∙ sym (at_map (λ _. Unit {0}) states c.args.state c.index.result.now l c.index.ensures))

known : (c : goal.After-deref) → IsMachine c.args.self.now
known c = subst IsMachine c.self.view_is c.self.invariant

pub returns-clause-ranged : goal.returns-clause-ranged
returns-clause-ranged c =
    let m = c.args.self.now in
    subst (All (IsLine (own_of m) (other_of m) (length m.states))) (sym (the_lines c)) ((known c).ranged c.args.state [] c.requires)

pub returns-clause-decided : goal.returns-clause-decided
returns-clause-decided c =
    subst (IsDecided (other_of c.args.self.now)) (sym (the_lines c)) ((known c).decided c.args.state [] c.requires)
