-- What holds of every text.
use Rattle.std.specs.Prelude.{◌≡◌, ℕ, Bool, List, map, string_bytes}
use Rattle.tlsf_basic.specs.declared.faults.TextFault.{TextFault}
use Rattle.tlsf_basic.specs.declared.specifications.Spec.{Spec}
use Rattle.tlsf_basic.specs.Specification.{IsFault, IsSpec}

-- two specifications of the same names in bytes, target and formula
abbrev pub IsSameSpec : Spec → Spec → Type 0
IsSameSpec one other =
    (map string_bytes one.names.inputs.items ≡ map string_bytes other.names.inputs.items)
    × (map string_bytes one.names.outputs.items ≡ map string_bytes other.names.outputs.items)
    × (one.names.target ≡ other.names.target) × (one.formula ≡ other.formula)

-- a text has one fault at one place, or one specification, and not both
abbrev pub HasOneAnswer : List ℕ → Bool → Type 0
HasOneAnswer text as_written =
    ((what other : TextFault) (place at : ℕ) → IsFault text as_written what place → IsFault text as_written other at → (what ≡ other) × (place ≡ at))
    × ((one other : Spec) → IsSpec text as_written one → IsSpec text as_written other → IsSameSpec one other)
    × ((spec : Spec) (what : TextFault) (place : ℕ) → IsSpec text as_written spec → IsFault text as_written what place → ⊥)
