use Rattle.std.proofs.Common.{◌≡◌, ◌∙◌, map, take, take_all, ap, sym, subst, arith, rules}
use Rattle.std.specs.Prelude.{ℤ, pos}
use mir.Val.{SFits, to_z, of_z}
use mir.Syntax.{w16}
use Rattle.std.proofs.lemmas.Int.{to_z-of_z}
use Rattle.counter_vec.proofs.Along.{pos-size_of}
use Rattle.counter_vec.specs.Counters.{lifted}
use Rattle.game_form.specs.Vector.{size_of}
use Rattle.game_core.specs.Start.{IsStart, raised_by}
use Rattle.game_core.proofs.Lifts.{start_lifted}
use Rattle.game_core.proofs.starts.lift.Goals as goal

pub returns : goal.returns
returns c =
    let by : pos (size_of c.args.by) ≡ c.args.by = pos-size_of c.args.by c.requires.by.0 in
    let fits : SFits w16 c.args.by = search rules in
    let exact : to_z w16 (of_z w16 c.args.by) ≡ c.args.by = to_z-of_z w16 _ fits in
    let all : take c.loop-i.i c.args.left.now ≡ c.args.left.now = take_all c.loop-i.i c.args.left.now (omega arith) in
    let is : c.loop-i.higher.items ≡ map (lifted (pos (size_of c.args.by))) c.args.left.now =
    c.loop-i.invariant ∙ ap (λ (z : ℤ). map (lifted z) (take c.loop-i.i c.args.left.now)) exact ∙ ap (map (lifted c.args.by)) all ∙ ap (λ (z : ℤ). map (lifted z) c.args.left.now) (sym by) in
    subst (IsStart (raised_by (size_of c.args.by) c.args.g.now)) (sym is) (start_lifted c.args.g.now c.known.ensures (size_of c.args.by) c.args.left.now c.requires.start)
