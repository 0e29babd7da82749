-- A sink in memory.
use Rattle.std.specs.Prelude.{◌≡◌, ℕ, ◌-◌, ◌==◌, ◌||◌, Bool, List, [], ◌∷◌, Option, None, is_some, length, min, nat_lt, if◌then◌else◌, find, option_map}
use Rattle.std.specs.Option.{option_map_or}
use Rattle.shelf_io.specs.Faults.{raised}

-- the bytes written, how many bytes there is room for, which calls fail after how many bytes, how many calls there were, and how many of them failed
pub record SinkData : Type 0 where
  pub written : List ℕ
  pub room : ℕ
  pub failing : List (ℕ × ℕ)
  pub calls : ℕ
  pub faults : ℕ

-- after how many bytes the next call fails, where it is one of those
abbrev pub planned : SinkData → Option ℕ
planned d = option_map (λ p. p.1) (find (λ p. p.0 == raised d.calls) d.failing)

-- how many bytes still fit
abbrev pub room_left : SinkData → ℕ
room_left d = d.room - length d.written

-- how many of n bytes the next call appends
abbrev pub next_count : SinkData → ℕ → ℕ
next_count d n = min (option_map_or (λ b. min b n) (planned d) n) (room_left d)

-- the next call, of n bytes, fails: it is one of those, or the bytes pass the room
abbrev pub next_fails : SinkData → ℕ → Bool
next_fails d n = is_some (planned d) || nat_lt (room_left d) n

-- no call is planned twice
abbrev pub NumbersDiffer : List (ℕ × ℕ) → Type 0
NumbersDiffer [] = Unit {0}
NumbersDiffer (p ∷ rest) = (find (λ q. q.0 == p.0) rest ≡ None) × NumbersDiffer rest
