use Rattle.std.proofs.Common.{◌≡◌, ◌<◌, ℕ, true, List, slice_index_or}
use Rattle.std.specs.Prelude.{ℤ}
use Rattle.cpre_step.specs.Refinement.{answers}
use Rattle.game_core.specs.Columns.{AreColumns}
use Rattle.game_core.specs.Known.{HaveAnswers}
use Rattle.game_core.proofs.solvers.look_at_all.Given as goal

abbrev pub invariant-loop-place : goal.invariant-loop-place
invariant-loop-place l =
    HaveAnswers l.slots l.notes × AreColumns l.g l.vectors l.columns
    × ((k : ℕ) (d : List ℤ) → k < l.place → answers l.g l.vectors (slice_index_or l.vectors k d) ≡ true)
