use Rattle.std.proofs.Common.{ℕ, ◌≡◌, length, drop}
use Rattle.std.specs.Prelude.{◌≤ℤ◌}
use Rattle.std.specs.Int.{int_min}
use Rattle.game_form.specs.Game.{IsRow}
use Rattle.game_form.specs.Vector.{allowed, size_of}
use Rattle.counter_vec.proofs.flows.lowest_along.Given as goal

abbrev pub invariant-loop-step : goal.invariant-loop-step
invariant-loop-step l =
    (l.least ≤ℤ l.k)
    × (int_min l.least (allowed (size_of l.k) (drop l.step-index l.steps) 0 l.v) ≡ allowed (size_of l.k) l.steps 0 l.v)
    × ((low : ℕ) × IsRow (length l.v) low (drop l.step-index l.steps))
