use Rattle.std.proofs.Common.{ℕ, ◌≡◌, ◌<◌, length, drop}
use Rattle.std.specs.Int.{int_max}
use Rattle.game_form.specs.Game.{action_at}
use Rattle.game_form.specs.Vector.{lane, arrived, bound}
use Rattle.counter_vec.specs.Counters.{AreCounters}
use Rattle.counter_vec.proofs.flows.raise_all.Given as goal

abbrev pub invariant-loop-q : goal.invariant-loop-q
invariant-loop-q l =
    AreCounters l.out
    × ((p : ℕ) → p < length l.out → int_max (lane l.out p) (arrived (bound l.g) (drop l.q (action_at l.g l.action)) (drop l.q l.f) p) ≡ int_max (lane l.initial.out p) (arrived (bound l.g) (action_at l.g l.action) l.f p))
