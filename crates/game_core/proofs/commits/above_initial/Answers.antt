use Rattle.std.proofs.Common.{◌≡◌, ◌∙◌, sym, ap, Some, None, rules}
use Rattle.std.specs.Prelude.{pos, int_le}
use mir.Val.{SFits}
use mir.Syntax.{w16}
use Rattle.std.proofs.lemmas.Int.{to_z-of_z}
use Rattle.game_form.specs.Game.{lanes}
use Rattle.game_form.specs.Vector.{vector, begins}
use Rattle.counter_vec.specs.Counters.{at_or_below}
use Rattle.game_core.proofs.First.{none_below, some_below}
use Rattle.game_core.proofs.commits.above_initial.Goals as goal

pub returns-in-None : goal.returns-in-None
returns-in-None c =
    let is : c.args.g.now.init ≡ None = sym c.init.ensures ∙ c.in-None.is in
    sym (ap (λ i. at_or_below (vector (lanes c.args.g.now) (begins i)) c.args.v.now) is
    ∙ none_below (lanes c.args.g.now) c.args.v.now c.requires.same_length c.requires.low)

pub returns-in-Some : goal.returns-in-Some
returns-in-Some c =
    let is : c.args.g.now.init ≡ Some c.in-Some.first = sym c.init.ensures ∙ c.in-Some.is in
    let fits : SFits w16 c.at.result = search rules in
    ap (int_le (pos 0)) (to_z-of_z w16 _ fits ∙ c.at.ensures.value)
    ∙ some_below c.in-Some.first (lanes c.args.g.now) c.args.v.now c.requires.same_length (c.known.ensures.init c.in-Some.first is) c.requires.low
    ∙ sym (ap (λ i. at_or_below (vector (lanes c.args.g.now) (begins i)) c.args.v.now) is)
