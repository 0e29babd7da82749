use Rattle.std.proofs.Common.{◌≡◌, length, subst, arith, rules}
use Rattle.nba_trim.specs.Search.{IsSearch}
use Rattle.nba_trim.proofs.Finding.{search_few}
use Rattle.nba_trim.proofs.searches.Search.len.Goals as goal

pub returns-clause-fewer : goal.returns-clause-fewer
returns-clause-fewer c =
    let few = search_few c.args.self.now.found c.args.self.now.queue (subst (λ v. IsSearch v.found v.queue) c.self.view_is c.self.invariant) in
    let value : c.len.result ≡ length c.args.self.now.queue = search rules in
    omega (arith, few, value)
