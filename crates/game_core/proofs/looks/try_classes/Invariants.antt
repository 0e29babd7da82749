use Rattle.std.proofs.Common.{◌≡◌, vec_len}
use Rattle.game_core.specs.Tried.{FailsEach}
use Rattle.game_core.proofs.looks.try_classes.Given as goal

abbrev pub invariant-loop-c : goal.invariant-loop-c
invariant-loop-c l = (vec_len l.note.answers ≡ vec_len l.initial.note.answers) × FailsEach l.f l.columns l.plan l.c l.failing.items
