-- Marks on the entries that are still to be looked at.
use Rattle.std.specs.Prelude.{ℕ, ◌+◌, Bool, List, [], ◌∷◌, if◌then◌else◌}

-- how many are marked
abbrev pub marked : List Bool → ℕ
marked [] = 0
marked (b ∷ ms) = (if b then 1 else 0) + marked ms
