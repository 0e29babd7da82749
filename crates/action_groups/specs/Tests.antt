-- What an edge asks of the signals that a tree tests.
use Rattle.std.specs.Prelude.{◌≡◌, ℕ, zero, suc, ◌+◌, ◌-◌, ◌<◌, ◌&&◌, ◌||◌, Bool, true, List, map, nat_eq, nat_lt, if◌then◌else◌, Vec}
use Rattle.std.specs.Int.{bit_at}
use Rattle.std.specs.List.{filter}
use Rattle.std.specs.declared.alloc.Global.{Global}
use Rattle.word_core.specs.declared.cubes.Cube.{Cube}
use Rattle.action_groups.specs.declared.orders.Order.{Order}
use Rattle.action_groups.specs.declared.ways.Way.{Way}
use Rattle.action_groups.specs.Lists.{items_at}
use Rattle.action_groups.specs.Numbers.{steps_number, step_of}

-- the signal that is tested at a place
abbrev pub signal_at : ℕ → ℕ → Bool → ℕ → ℕ
signal_at inputs outputs first place = if first then place else (if nat_lt place outputs then inputs + place else place - outputs)

abbrev pub signal_of : Order → ℕ → ℕ
signal_of order place = signal_at order.inputs order.outputs order.inputs_first place

-- a cube allows a value of a signal
abbrev pub allows : Cube → ℕ → ℕ → Bool
allows c signal bit = nat_eq (bit_at c.care signal) 0 || nat_eq (bit_at c.want signal) bit

-- a cube allows the values of so many signals from a place on
abbrev pub allows_from : Order → ℕ → ℕ → ℕ → Cube → Bool
allows_from order zero place bits c = true
allows_from order (suc n) place bits c =
    allows c (signal_of order place) (bit_at bits place) && allows_from order n (suc place) bits c

-- the edges that allow the values from a place on
abbrev pub allowing : Order → ℕ → ℕ → List Way → List Way
allowing order place bits = filter (λ w. allows_from order (order.inputs + order.outputs - place) place bits w.edge.cube)

-- the labels of a tree over the signals from a place on lead to what the edges that allow the valuation do
abbrev pub HasEffects : Order → ℕ → (ℕ → ℕ) → List (Vec (ℕ × ℕ × Bool) Global) → List Way → Type 0
HasEffects order place labels effects ways =
    (bits q p : ℕ) → steps_number (items_at effects (labels bits)) q p ≡ steps_number (map step_of (allowing order place bits ways)) q p

-- a letter and the valuation of its two sides have the same bits, at signals and at places
pub record IsLetterOf (inputs outputs : ℕ) (first : Bool) (x bits : ℕ) : Type 0 where
  pub bit : (k : ℕ) → k < inputs + outputs → bit_at x (signal_at inputs outputs first k) ≡ bit_at bits k
  pub place : (s : ℕ) → s < inputs + outputs → (k : ℕ) × (k < inputs + outputs) × (signal_at inputs outputs first k ≡ s)
