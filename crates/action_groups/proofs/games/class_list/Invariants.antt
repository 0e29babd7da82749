use Rattle.std.proofs.Common.{◌≡◌, length, map, take}
use Rattle.std.specs.List.{All}
use Rattle.action_groups.specs.Listing.{IsListedClass, class_from}
use Rattle.action_groups.proofs.games.class_list.Given as goal

abbrev pub invariant-loop-least : goal.invariant-loop-least
invariant-loop-least l =
    (length l.out.items ≡ l.least-index)
    × All (IsListedClass l.width l.second (length l.labels.order.items)) l.out.items
    × (l.out.items ≡ map (class_from l.lists.keys l.labels.numbers.items) (take l.least-index l.classes.order.items))
