use Rattle.std.proofs.Common.{◌≡◌, vec_len}
use Rattle.game_core.specs.Known.{HaveAnswers}
use Rattle.game_core.proofs.starts.notes_of.Given as goal

abbrev pub invariant-loop-i : goal.invariant-loop-i
invariant-loop-i l = (vec_len l.notes ≡ l.i) × HaveAnswers l.slots l.notes.items
