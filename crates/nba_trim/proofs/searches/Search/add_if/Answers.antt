use Rattle.std.proofs.Common.{◌≡◌, ◌<◌, length, true, false, sym, ◌∙◌, subst, set}
use Rattle.std.proofs.lemmas.List.{get_or_read}
use Rattle.nba_trim.specs.Search.{IsSearch, at}
use Rattle.nba_trim.proofs.Finding.{search_push}
use Rattle.nba_trim.proofs.searches.Search.add_if.Goals as goal

pub invariant_of-self-then-not-index : goal.invariant_of-self-then-not-index
invariant_of-self-then-not-index c =
    let found = c.self.inside.found.items in
    let within : c.args.q < length found = subst (λ v. c.args.q < length v.found) (sym c.self.view_is) c.requires in
    let new : at found c.args.q ≡ false = sym (get_or_read found c.args.q c.index.result.now within c.index.ensures false) ∙ c.if-not-index.true in
    subst (IsSearch (set found c.args.q true)) (sym c.in_ok-push.ensures.items) (search_push found c.self.inside.queue.items c.args.q within new c.self.invariant)
