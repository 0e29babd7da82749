use Rattle.std.proofs.Common.{◌≡◌, ◌∙◌, sym, ap, arith, true, false, Some, None}
use Rattle.std.specs.Option.{is_some}
use Rattle.counter_vec.specs.Counters.{at_or_below}
use Rattle.game_form.specs.Vector.{initial}
use Rattle.strategy_play.proofs.Leading.{any_position, position_within}
use Rattle.strategy_play.specs.Lead.{place_above}
use Rattle.strategy_play.proofs.machines.first_entry.Goals as goal

pub unreachable-requires : goal.unreachable-requires
unreachable-requires c =
    let some : true ≡ is_some (place_above c.args.d.now (initial c.args.g.now)) = sym c.requires ∙ any_position (λ e. at_or_below (initial c.args.g.now) e) 0 c.args.d.now in
    let none : place_above c.args.d.now (initial c.args.g.now) ≡ None = sym (c.first_above.ensures ∙ ap (place_above c.args.d.now) c.in_ok-initial.ensures) ∙ c.in-None.is in
    let same : true ≡ false = some ∙ ap is_some none in
    cc

pub returns-clause-within : goal.returns-clause-within
returns-clause-within c =
    let at : place_above c.args.d.now (initial c.args.g.now) ≡ Some c.in-Some.entry = sym (c.first_above.ensures ∙ ap (place_above c.args.d.now) c.in_ok-initial.ensures) ∙ c.in-Some.is in
    let r = position_within (λ e. at_or_below (initial c.args.g.now) e) 0 c.args.d.now c.in-Some.entry at in
    omega (arith, r.1)
