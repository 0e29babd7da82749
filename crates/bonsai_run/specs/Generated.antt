-- The formula of an arbiter for n clients: the clients' requests are the signals below n, and their grants the signals from n on.
use Rattle.std.specs.Prelude.{ℕ, ◌+◌, List, [], ◌∷◌, map, nat_lt, if◌then◌else◌}
use Rattle.std.specs.List.{flat_map, range_with_len}
use Rattle.ltl_form.specs.declared.formulas.Ltl.{Ltl}
use Rattle.ltl_form.specs.declared.formulas.Ltl.TheVariants.{True, Signal, Not, All, Implies, Finally, Globally}
use Rattle.tlsf_basic.specs.Composition.{conjunction, plain}

-- a client and a later one are never served at once
abbrev pub exclusion_of : ℕ → ℕ → ℕ → List Ltl
exclusion_of n client other = if nat_lt client other then Not (All (Signal (n + client) ∷ Signal (n + other) ∷ [])) ∷ [] else []

abbrev pub exclusions_of : ℕ → List Ltl
exclusions_of n = flat_map (λ client. flat_map (exclusion_of n client) (range_with_len 0 n)) (range_with_len 0 n)

-- a client is served at some time after it asked
abbrev pub response_of : ℕ → ℕ → Ltl
response_of n client = Globally (Implies (Signal client) (Finally (Signal (n + client))))

abbrev pub arbiter_formula : ℕ → Ltl
arbiter_formula n = plain True True True (conjunction (exclusions_of n)) True (conjunction (map (response_of n) (range_with_len 0 n)))
