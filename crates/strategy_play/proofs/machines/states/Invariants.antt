use Rattle.std.proofs.Common.{◌≡◌, ℕ, ◌<◌, ◌≤◌, ◌-◌, length, map, take, get_or, Some}
use Rattle.std.specs.List.{All, Contains, flat_map}
use Rattle.game_form.specs.Vector.{initial}
use Rattle.strategy_play.specs.Lead.{place_above}
use Rattle.strategy_play.specs.State.{IsState}
use Rattle.strategy_play.specs.Strategy.{AnswersEach}
use Rattle.strategy_play.specs.Walk.{IsWalk, InTurn, nexts_of}
use Rattle.strategy_play.proofs.machines.states.Given as goal

abbrev pub invariant-walking : goal.invariant-walking
invariant-walking l = record {
  walk : IsWalk (length l.d) l.walk.numbers.items l.walk.order.items;
  some : 0 < length l.walk.order.items;
  begins : place_above l.d (initial l.g) ≡ Some (get_or l.walk.order.items 0 0);
  seen : length l.states.items ≤ length l.walk.order.items;
  states : All (IsState l.g (length l.walk.order.items)) (map (λ v. v.items) l.states.items);
  answers : AnswersEach l.g l.d l.walk.order.items (map (λ v. v.items) l.states.items);
  met : (s : ℕ) → 0 < s → s < length l.states.items → Contains (flat_map nexts_of (take s (map (λ v. v.items) l.states.items))) s;
  turns : InTurn 1 (flat_map nexts_of (map (λ v. v.items) l.states.items)) (length l.walk.order.items);
}

abbrev pub decreases-walking : goal.decreases-walking
decreases-walking l = length l.d - length l.states.items
