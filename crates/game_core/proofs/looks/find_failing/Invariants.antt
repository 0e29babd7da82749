use Rattle.std.proofs.Common.{◌≡◌, vec_len}
use Rattle.game_core.specs.Columns.{AreColumns}
use Rattle.game_core.proofs.looks.find_failing.Given as goal

abbrev pub invariant-loop-turn : goal.invariant-loop-turn
invariant-loop-turn l = (vec_len l.note.answers ≡ vec_len l.initial.note.answers) × AreColumns l.g l.vectors l.columns
