use Rattle.std.proofs.Common.{◌≡◌, ℕ, length}
use Rattle.game_core.specs.Known.{HaveAnswers}
use Rattle.game_core.proofs.exchanges.forget.Given as goal

abbrev pub invariant-loop-at : goal.invariant-loop-at
invariant-loop-at l =
    (length l.notes.items ≡ length l.initial.notes.items)
    × (length l.pending.items ≡ length l.initial.pending.items)
    × ((slots : ℕ) → HaveAnswers slots l.initial.notes.items → HaveAnswers slots l.notes.items)
