use Rattle.std.proofs.Common.{sym, subst}
use Rattle.std.specs.Prelude.{IsPermutation}
use Rattle.nba_quotient.proofs.Covered.{ways_found}
use Rattle.nba_quotient.proofs.ways.ways_of.Goals as goal

pub returns : goal.returns
returns c =
    ways_found c.args.a.now c.args.of.now c.args.state c.in_ok-ways.ways.items c.deref.result.now c.in_ok-ways.ensures
    (subst (IsPermutation c.in_ok-ways.ways.items) (sym c.deref.ensures.value) c.sort.ensures.permutation)
    c.widest.result c.widest.ensures.all c.widest.ensures.only
