use Rattle.std.proofs.Common.{◌≡◌}
use Rattle.std.specs.List.{flat_map, range_with_len}
use Rattle.cover_sets.specs.Covers.{negations, node_at, pairs_with}
use Rattle.cover_sets.proofs.tables.opposites_of.Given as goal

abbrev pub invariant-loop-n : goal.invariant-loop-n
invariant-loop-n l = l.opposites.items ≡ flat_map (λ n. pairs_with n (negations l.nodes (node_at l.nodes n))) (range_with_len 0 l.n)
