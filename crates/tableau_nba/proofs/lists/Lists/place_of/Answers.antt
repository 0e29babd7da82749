use Rattle.std.proofs.Common.{◌≡◌, Some, [], get_or, sym, subst}
use Rattle.cover_sets.specs.Bits.{set_of}
use Rattle.cover_sets.specs.Cover.{covers_in}
use Rattle.cover_sets.specs.Union.{covers_of}
use Rattle.tableau_nba.specs.Tableau.{AreCovers, ListsData}
use Rattle.tableau_nba.proofs.Spots.{covers_known, covers_push}
use Rattle.tableau_nba.proofs.lists.Lists.place_of.Goals as goal

pub returns-in-Some-clause-value : goal.returns-in-Some-clause-value
returns-in-Some-clause-value c =
    subst (λ (l : ListsData). covers_in c.args.table.now (set_of c.args.set.now) ≡ Some (covers_of (get_or l.lists c.in-Some.at []))) c.self.view_is
    (covers_known c.args.table.now c.self.inside.sets.keys c.self.inside.lists.items c.args.set.now c.in-Some.at (subst (λ (l : ListsData). AreCovers c.args.table.now l.sets l.lists) (sym c.self.view_is) c.requires)
    c.in-Some.ensures.index)

pub returns-clause-covers : goal.returns-clause-covers
returns-clause-covers c =
    covers_push c.args.table.now c.self.inside.sets.keys _ c.self.inside.lists.items _ c.args.set.now c.in_ok-list.list.items
    (subst (λ (l : ListsData). AreCovers c.args.table.now l.sets l.lists) (sym c.self.view_is) c.requires) c.in_ok-list.ensures.value c.in_ok-at.ensures.keys (sym c.in_default.ensures.found)
    c.in_ok-push.ensures.items
