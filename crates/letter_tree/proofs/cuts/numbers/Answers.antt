use Rattle.std.proofs.Common.{ℕ, ◌<◌, ◌∙◌, length, arith}
use Rattle.std.proofs.Math.ListN.{length-set}
use Rattle.letter_tree.specs.Cut.{end_at}
use Rattle.letter_tree.proofs.Rests.{places_more, set_below}
use Rattle.letter_tree.proofs.cuts.numbers.Goals as goal

pub loop-number-preserved : goal.loop-number-preserved
loop-number-preserved c =
    let ends = c.args.ends.now in
    let out = c.loop-number.out.items in
    let i : ℕ = c.loop-number.number in
    let label : ℕ = end_at ends i in
    let small : label < c.args.count = c.requires.ends i (0, 0) c.loop-number-test.true in
    let within : label < length out = omega (arith, small, c.loop-number.invariant.count) in
    record {
      count = length-set out label i ∙ c.loop-number.invariant.count;
      numbers = set_below out label i (length ends) within c.loop-number-test.true c.loop-number.invariant.numbers;
      places = places_more ends i out within c.loop-number.invariant.places;
    }

pub returns-clause-places : goal.returns-clause-places
returns-clause-places c = λ i lt. c.loop-number.invariant.places i (omega (arith, c.loop-number-test.false, lt))
