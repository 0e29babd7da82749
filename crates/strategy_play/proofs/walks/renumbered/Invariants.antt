use Rattle.std.proofs.Common.{◌≡◌, length, take}
use Rattle.std.specs.List.{AllZip}
use Rattle.strategy_play.specs.Walk.{IsWalk, Extends, IsRenumbered, InTurn, nexts_of}
use Rattle.strategy_play.proofs.walks.renumbered.Given as goal

abbrev pub invariant-loop-line : goal.invariant-loop-line
invariant-loop-line l = record {
  count : length l.walk.numbers.items ≡ length l.initial.walk.numbers.items;
  walk : IsWalk (length l.initial.walk.numbers.items) l.walk.numbers.items l.walk.order.items;
  extends : Extends l.initial.walk.order.items l.walk.order.items;
  lines : AllZip (IsRenumbered l.walk.order.items) (take l.line-index l.lines) l.out.items;
  turns : InTurn (length l.initial.walk.order.items) (nexts_of l.out.items) (length l.walk.order.items);
}
