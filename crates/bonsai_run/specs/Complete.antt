-- Which orders can be answered.
use Rattle.std.specs.Prelude.{◌≡◌, ◌≤◌, false, Some}
use Rattle.shelf_io.specs.Texts.{Texts}
use Rattle.word_core.specs.declared.names.Player.TheVariants.{Environment}
use Rattle.word_core.specs.Lasso.{LassoData}
use Rattle.word_core.specs.Machine.{MachineData}
use Rattle.tlsf_basic.specs.declared.specifications.Spec.{Spec}
use Rattle.tlsf_basic.specs.Specification.{IsSpec}
use Rattle.dual_game.specs.declared.errors.GameError.{GameError}
use Rattle.dual_game.specs.declared.errors.GameError.TheVariants.{Memory}
use Rattle.dual_game.specs.Automata.{IsLimitOf, IsLimitOfPair, formula_count}
use Rattle.spec_gen.specs.Arbiter.{arbiter_text}
use Rattle.bonsai_words.specs.Ordered.{Asked}
use Rattle.bonsai_words.specs.Ordered.Asked.{synth, downset, check, eval, gen}
use Rattle.bonsai_run.specs.Texts.{IsSpecOf, IsLassoOf, IsMachineIn}

-- no limit is passed, where this says of each whether it is; want of memory is none
abbrev pub PassesNone : (GameError → Type 0) → Type 0
PassesNone passed = (limit : GameError) → passed limit → limit ≡ Memory

-- the texts that an order names are there, within their length and their grammars, and no limit of what the order builds is passed
abbrev pub IsAnswerable : Texts → Asked → Type 0
IsAnswerable told (synth name bounds workers as_written) =
    (spec : Spec) × IsSpecOf (Some told) name as_written spec × PassesNone (IsLimitOfPair spec)
IsAnswerable told (downset name player bound as_written) =
    (spec : Spec) × IsSpecOf (Some told) name as_written spec × PassesNone (IsLimitOf spec player)
IsAnswerable told (check name machine bound as_written) =
    (spec : Spec) × (m : MachineData) × IsSpecOf (Some told) name as_written spec × IsMachineIn (Some told) machine spec m
    × PassesNone (IsLimitOf spec m.player)
IsAnswerable told (eval name lasso as_written) =
    (spec : Spec) × (w : LassoData) × IsSpecOf (Some told) name as_written spec × IsLassoOf (Some told) lasso spec w
    × (formula_count spec Environment ≤ 512)
IsAnswerable told (gen clients workers) = (spec : Spec) → IsSpec (arbiter_text clients) false spec → PassesNone (IsLimitOfPair spec)
