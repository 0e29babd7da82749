-- Counts of faults, which never fall, and of calls.
use Rattle.std.specs.Prelude.{ℕ, ◌+◌, ◌-◌, ◌^◌, ◌≤◌, min}

-- a count after one more, which stands still at the end of its type
abbrev pub raised : ℕ → ℕ
raised n = min (n + 1) (2 ^ 64 - 1)

-- the count rose between the two moments, or stands at the end of its type
abbrev pub Rose : ℕ → ℕ → Type 0
Rose before now = raised before ≤ now
