use Rattle.std.proofs.Common.{◌≡◌, ◌<◌, ◌≤◌, length, All}
use Rattle.std.specs.List.{filter, range_with_len}
use Rattle.cover_sets.specs.Covers.{node_at}
use Rattle.tableau_nba.specs.Walks.{is_until}
use Rattle.tableau_nba.proofs.places.untils_of.Given as goal

abbrev pub invariant-loop-n : goal.invariant-loop-n
invariant-loop-n l =
    (length l.untils.items ≤ l.n) × All (λ u. u < 512) l.untils.items × (l.untils.items ≡ filter (λ n. is_until (node_at l.nodes n)) (range_with_len 0 l.n))
