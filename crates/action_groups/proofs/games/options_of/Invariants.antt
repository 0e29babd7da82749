use Rattle.std.proofs.Common.{◌≡◌, ◌<◌, ◌^◌, length, take}
use Rattle.std.specs.List.{All}
use Rattle.action_groups.specs.Listing.{with_numbers}
use Rattle.action_groups.proofs.games.options_of.Given as goal

abbrev pub invariant-loop-value : goal.invariant-loop-value
invariant-loop-value l = (l.out.items ≡ with_numbers l.numbers (take l.value-index l.options)) × (length l.out.items ≡ l.value-index) × All (λ o. (o.0 < l.count) × (o.1 < 2 ^ l.second)) l.out.items
