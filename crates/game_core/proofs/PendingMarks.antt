-- Marks that are taken away.
use Rattle.std.proofs.Common.{◌≡◌, ℕ, zero, suc, ◌<◌, Bool, true, false, List, [], ◌∷◌, arith}
use Rattle.std.specs.Prelude.{slice_index_or, slice_set}
use Rattle.game_core.specs.Pending.{marked}

pub marked_falls : (ms : List Bool) (i : ℕ) → slice_index_or ms i false ≡ true → marked (slice_set ms i false) < marked ms
marked_falls [] i h = cc
marked_falls (b ∷ ms) zero h = rw h (omega arith)
marked_falls (b ∷ ms) (suc i) h = omega (arith, marked_falls ms i h)
