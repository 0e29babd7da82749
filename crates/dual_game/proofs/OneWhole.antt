-- The maximal held vectors have one machine.
use Rattle.std.proofs.Common.{◌≡◌, length, subst}
use Rattle.std.specs.Prelude.{ℤ, List}
use Rattle.strategy_play.specs.Exact.{IsMachineOfList}
use Rattle.strategy_play.proofs.OneMachine.{machine_is_one}
use Rattle.dual_game.specs.Games.{kind_of}
use Rattle.dual_game.specs.Machines.{HeldMachineIsOne, WholeMachineIsOne}
use Rattle.dual_game.proofs.OneList.{held_list_is_one}
use Rattle.dual_game.proofs.WholeGame.{letter_game, whole_game}

pub held_machine_is_one : HeldMachineIsOne
held_machine_is_one g states others is also =
    let same : is.vectors ≡ also.vectors = held_list_is_one g is.vectors also.vectors is.held also.held is.ascending also.ascending in
    machine_is_one g also.vectors states others (subst (λ (vs : List (List ℤ)). IsMachineOfList g vs states) same is.machine) also.machine

pub whole_machine_is_one : WholeMachineIsOne
whole_machine_is_one a names who k states others well few low is also =
    let g = letter_game a who (kind_of who names.target) (length names.inputs.items) (length names.outputs.items) k in
    let counts = whole_game a names who k well few low in
    held_machine_is_one (letter_game a who (kind_of who names.target) (length names.inputs.items) (length names.outputs.items) k) states others (is g counts) (also g counts)
