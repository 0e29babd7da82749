use Rattle.std.proofs.Common.{ℕ, ◌<◌, ◌≤◌, length, vec_len, Vec, slice_index_or}
use Rattle.std.specs.declared.alloc.Global.{Global}
use Rattle.game_core.proofs.solvers.slots_of.Given as goal

abbrev pub invariant-loop-options : goal.invariant-loop-options
invariant-loop-options l =
    (length l.plan ≤ l.most)
    × ((k : ℕ) (d : Vec ℕ Global) → k < l.options-index → vec_len (slice_index_or l.plan k d) ≤ l.most)
