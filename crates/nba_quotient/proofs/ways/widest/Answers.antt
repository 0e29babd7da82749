use Rattle.std.proofs.Common.{get_or, subst, false}
use Rattle.std.specs.List.{All}
use Rattle.std.proofs.lemmas.List.{get_or_default, take_all}
use Rattle.nba_quotient.specs.Ways.{Way, IsAbsorbed}
use Rattle.nba_quotient.proofs.Covered.{kept_more}
use Rattle.nba_quotient.proofs.ways.widest.Goals as goal

pub loop-way-preserved : goal.loop-way-preserved
loop-way-preserved c =
    let i = c.loop-way.way-index in
    let none : Way = (0, 0, false, record { care = 0; want = 0 }) in
    let w : Way = get_or c.args.ways.now i none in
    kept_more c.args.ways.now c.loop-way.kept.items c.keep.new.kept.items i w c.loop-way-test.true (get_or_default c.args.ways.now i none w c.loop-way-test.true)
    c.loop-way.invariant.0 c.loop-way.invariant.1 c.in_ok-keep.ensures.absorbed c.in_ok-keep.ensures.more c.in_ok-keep.ensures.only

pub returns-clause-all : goal.returns-clause-all
returns-clause-all c = subst (All (IsAbsorbed c.loop-way.kept.items)) (take_all c.loop-way.way-index c.args.ways.now c.loop-way-test.false) c.loop-way.invariant.0
