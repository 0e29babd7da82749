use Rattle.std.proofs.Common.{ℕ, ◌≡◌, ◌<◌, length, drop}
use Rattle.std.specs.Int.{int_max}
use Rattle.game_form.specs.Game.{IsRow}
use Rattle.game_form.specs.Vector.{lane, brought, number, size_of}
use Rattle.counter_vec.specs.Counters.{AreCounters}
use Rattle.counter_vec.proofs.flows.raise_along.Given as goal

abbrev pub invariant-loop-step : goal.invariant-loop-step
invariant-loop-step l =
    AreCounters l.out
    × ((p : ℕ) → p < length l.out → int_max (lane l.out p) (brought (size_of l.k) l.value (number (drop l.step-index l.steps) p)) ≡ int_max (lane l.initial.out p) (brought (size_of l.k) l.value (number l.steps p)))
    × ((low : ℕ) × IsRow (length l.out) low (drop l.step-index l.steps))
