use Rattle.std.proofs.Common.{◌≡◌, true, take, vec_len}
use Rattle.cpre_step.specs.Refinement.{action_works}
use Rattle.game_core.specs.Columns.{AreColumns}
use Rattle.game_core.specs.Plan.{each_planned}
use Rattle.game_core.proofs.looks.look_second.Given as goal

abbrev pub invariant-loop-c : goal.invariant-loop-c
invariant-loop-c l =
    (vec_len l.note.answers ≡ vec_len l.initial.note.answers) × AreColumns l.g l.vectors l.columns
    × (each_planned (action_works l.g l.vectors l.f) (take l.c l.plan) ≡ true)
