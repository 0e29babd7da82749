-- Edges that another one makes needless, where the signals before a place are decided.
use Rattle.std.specs.Prelude.{◌≡◌, ℕ, zero, suc, ◌+◌, ◌-◌, ◌*◌, ◌%◌, ◌^◌, bit_and, ◌&&◌, Bool, true, false, List, map, nat_eq}
use Rattle.std.specs.Int.{bit_at, bit_not, w64}
use Rattle.word_core.specs.declared.cubes.Cube.{Cube}
use Rattle.action_groups.specs.declared.orders.Order.{Order}
use Rattle.action_groups.specs.declared.ways.Way.{Way}
use Rattle.action_groups.specs.Numbers.{HasSameNumbers, step_of}
use Rattle.action_groups.specs.Tests.{allowing, signal_of}

-- a number of 64 bits without one of them
abbrev pub without_bit : ℕ → ℕ → ℕ
without_bit signal bits = bit_and bits (bit_not w64 (1 * 2 ^ signal % 2 ^ 64))

-- the edge with a cube that doesn't care for a signal
abbrev pub decided_way : ℕ → Way → Way
decided_way signal w = record {
  from = w.from;
  edge = record {
    cube = record {
      care = without_bit signal w.edge.cube.care;
      want = without_bit signal w.edge.cube.want;
    };
    next = w.edge.next;
    marked = w.edge.marked;
  };
}

-- a cube cares for none of so many signals from a place on
abbrev pub cares_not : Order → ℕ → ℕ → Cube → Bool
cares_not order zero place c = true
cares_not order (suc n) place c = nat_eq (bit_at c.care (signal_of order place)) 0 && cares_not order n (suc place) c

abbrev pub cares_for_none : Order → ℕ → Cube → Bool
cares_for_none order place = cares_not order (order.inputs + order.outputs - place) place

-- an edge between the same states as another one cares for no signal from a place on, and is marked where that is
pub record Replaces (order : Order) (place : ℕ) (v w : Way) : Type 0 where
  pub from : v.from ≡ w.from
  pub next : v.edge.next ≡ w.edge.next
  pub marked : w.edge.marked ≡ true → v.edge.marked ≡ true
  pub decided : cares_for_none order place v.edge.cube ≡ true

-- an edge that cares for some signal gives way to such a one
pub record GivesWay (order : Order) (place : ℕ) (w v : Way) : Type 0 where
  pub cares : cares_for_none order place w.edge.cube ≡ false
  pub replaced : Replaces order place v w

-- under each valuation of the signals from a place on, two lists of edges do the same
abbrev pub AllowSame : Order → ℕ → List Way → List Way → Type 0
AllowSame order place ways others =
    (bits : ℕ) → HasSameNumbers (map step_of (allowing order place bits ways)) (map step_of (allowing order place bits others))
