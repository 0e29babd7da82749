use Rattle.std.proofs.Common.{arith}
use Rattle.cover_sets.specs.Bits.{sets_of}
use Rattle.tableau_nba.proofs.Spots.{edge_is, many_places, place_number, place_put}
use Rattle.tableau_nba.proofs.walks.edge.Goals as goal

pub returns-then-len-gt-MOST-clause-many : goal.returns-then-len-gt-MOST-clause-many
returns-then-len-gt-MOST-clause-many c =
    λ _. many_places c.args.places.now.keys c.insert_full.new.self.keys c.step_from-step.result.to _ c.in_ok-next.ensures.keys c.step_from-step.ensures.to (omega (arith, c.len.ensures.len, c.if-len-gt-MOST.true))

pub returns-clause-places : goal.returns-clause-places
returns-clause-places c = place_put c.args.places.now.keys c.insert_full.new.self.keys c.step_from-step.result.to _ c.in_ok-next.ensures.keys c.step_from-step.ensures.to

pub returns-clause-value : goal.returns-clause-value
returns-clause-value c =
    edge_is c.args.literals.now c.args.untils.now _ c.args.level (sets_of c.args.cover.now) _ _ _ c.cube_of.ensures.value
    (place_number c.args.places.now.keys c.insert_full.new.self.keys c.step_from-step.result.to _ _ c.in_ok-next.ensures.keys c.step_from-step.ensures.to c.in_ok-next.ensures.index)
    c.step_from-step.ensures.marked
