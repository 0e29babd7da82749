use Rattle.std.proofs.Common.{◌≡◌, length, vec_len}
use Rattle.std.specs.List.{All}
use Rattle.game_core.proofs.fronts.no_columns.Given as goal

abbrev pub invariant-loop : goal.invariant-loop
invariant-loop l = (vec_len l.columns ≡ l.counter) × All (λ c. length c.items ≡ 0) l.columns.items
