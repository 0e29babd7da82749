use Rattle.std.proofs.Common.{◌≡◌, length, drop, [], All}
use Rattle.cover_sets.specs.Cover.{IsRowConsistent}
use Rattle.cover_sets.specs.Covers.{rows_after}
use Rattle.cover_sets.proofs.tables.rows_of.Given as goal

abbrev pub invariant-loop-node : goal.invariant-loop-node
invariant-loop-node l =
    (length l.rows.items ≡ l.node-index)
    × All (IsRowConsistent l.opposites) l.rows.items
    × (rows_after l.opposites l.rows.items (drop l.node-index l.nodes) ≡ rows_after l.opposites [] l.nodes)
