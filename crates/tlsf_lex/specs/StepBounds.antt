-- A step stays within the text.
use Rattle.std.specs.Prelude.{ℕ, ◌<◌, ◌≤◌}
use Rattle.tlsf_lex.specs.declared.steps.Step.{Step}
use Rattle.tlsf_lex.specs.declared.steps.Step.TheVariants.{Skip, Take, Bad}

-- it takes at least one byte and no more than there are, and a fault is at one of them
abbrev pub IsWithin : ℕ → Step → Type 0
IsWithin len (Skip n) = (0 < n) × (n ≤ len)
IsWithin len (Take kin n) = (0 < n) × (n ≤ len)
IsWithin len (Bad what past) = past < len
