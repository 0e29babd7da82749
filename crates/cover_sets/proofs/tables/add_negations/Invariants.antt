use Rattle.std.proofs.Common.{◌≡◌, ◌++◌}
use Rattle.std.specs.List.{filter, range_with_len}
use Rattle.cover_sets.specs.Covers.{contrary, node_at, pairs_with}
use Rattle.cover_sets.proofs.tables.add_negations.Given as goal

abbrev pub invariant-loop-m : goal.invariant-loop-m
invariant-loop-m l =
    l.opposites.items ≡ l.fn.opposites.items ++ pairs_with l.n (filter (λ m. contrary (node_at l.nodes l.n) (node_at l.nodes m)) (range_with_len 0 l.m))
