use Rattle.std.proofs.Common.{◌≡◌, ◌<◌, ◌∙◌, length, get_or, Some, arith, rules}
use Rattle.std.proofs.lemmas.List.{length-set}
use Rattle.nba_trim.proofs.Numbering.{given_more, numbers_are, kept_state}
use Rattle.nba_trim.proofs.numbers.numbers_of.Goals as goal

pub index_mut-requires : goal.index_mut-requires
index_mut-requires c =
    let l = kept_state c.args.reached.now c.args.kept.now c.loop-k.k 0 c.requires.kept c.loop-k-test.true in
    let within : get_or c.args.kept.now c.loop-k.k 0 < length c.loop-k.numbers.items = omega (arith, l, c.loop-k.invariant.count) in
    search (rules, within)

pub loop-k-preserved : goal.loop-k-preserved
loop-k-preserved c =
    let i = c.loop-k.invariant in
    let kept = c.args.kept.now in
    let numbers = c.loop-k.numbers.items in
    let k = c.loop-k.k in
    let l = kept_state c.args.reached.now kept k 0 c.requires.kept c.loop-k-test.true in
    record {
      count = length-set numbers (get_or kept k 0) (Some k) ∙ i.count;
      given = given_more numbers kept k c.requires.kept.ascending c.loop-k-test.true (omega (arith, l, i.count)) i.given;
    }

pub returns-clause-exact : goal.returns-clause-exact
returns-clause-exact c =
    let end : c.loop-k.k ≡ length c.args.kept.now = omega (arith, c.loop-k-test.false, c.loop-k.auto.k-end) in
    numbers_are c.args.reached.now c.loop-k.numbers.items c.args.kept.now c.loop-k.k c.requires.kept c.loop-k.invariant.count end c.loop-k.invariant.given
