-- Gaps: valuations that a cube holds and no line does.
use Rattle.std.specs.Prelude.{◌≡◌, ℕ, ◌≤◌, ◌⊎◌, min, true, bit_and, List, Option, Some, None}
use Rattle.word_core.specs.declared.cubes.Cube.{Cube}
use Rattle.word_core.specs.declared.machines.Line.{Line}
use Rattle.word_core.specs.Cube.{holds}
use Rattle.word_core.specs.Machine.{choice}

abbrev pub IsGap : List Line → Cube → ℕ → Type 0
IsGap lines inner x = (holds inner x ≡ true) × (choice lines x ≡ None)

-- the least gap, or none
abbrev pub IsLeastGap : List Line → Cube → Option ℕ → Type 0
IsLeastGap lines inner None = (x : ℕ) → IsGap lines inner x → ⊥
IsLeastGap lines inner (Some g) = IsGap lines inner g × ((x : ℕ) → IsGap lines inner x → g ≤ x)

-- a cube that cares for nothing beyond another one holds all that the other one holds
abbrev pub IsFilled : Cube → Cube → Type 0
IsFilled c inner = bit_and c.care inner.care ≡ c.care → (x : ℕ) → holds inner x ≡ true → holds c x ≡ true

-- one bit: every number has all of it or nothing
abbrev pub IsSingle : ℕ → Type 0
IsSingle bit = (x : ℕ) → (bit_and x bit ≡ 0) ⊎ (bit_and x bit ≡ bit)

-- the lesser of two numbers, where they are there
abbrev pub lesser_of : Option ℕ → Option ℕ → Option ℕ
lesser_of None b = b
lesser_of (Some x) None = Some x
lesser_of (Some x) (Some y) = Some (min x y)
