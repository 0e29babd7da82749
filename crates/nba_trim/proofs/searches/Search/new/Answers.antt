use Rattle.std.proofs.Common.{sym, subst}
use Rattle.nba_trim.specs.Search.{IsSearch}
use Rattle.nba_trim.proofs.Finding.{search_none}
use Rattle.nba_trim.proofs.searches.Search.new.Goals as goal

pub invariant_of-result : goal.invariant_of-result
invariant_of-result c =
    subst (IsSearch c.in_ok-found.found.items) (sym c.new.ensures.items) (search_none c.in_ok-found.found.items c.args.count (c.in_ok-found.ensures.items_if_clones_equal (λ y e. e)))
