-- The specification of an arbiter for n clients, as text.
use Rattle.std.specs.Prelude.{ℕ, zero, suc, ◌+◌, List, [], ◌∷◌, ◌++◌, codes, nat_lt, if◌then◌else◌}

-- the digit of a number below ten
abbrev pub digit : ℕ → List ℕ
digit n = (48 + n) ∷ []

-- what f gives for each number below n, in order
abbrev pub each : (ℕ → List ℕ) → ℕ → List ℕ
each f zero = []
each f (suc n) = each f n ++ f n

-- the client asks
abbrev pub request : ℕ → List ℕ
request client = codes "    r" ++ digit client ++ codes ";\n"

-- the client is served
abbrev pub grant : ℕ → List ℕ
grant client = codes "    g" ++ digit client ++ codes ";\n"

-- a client and a later one are never served at once
abbrev pub exclusion : ℕ → ℕ → List ℕ
exclusion client other =
    (if nat_lt client other
    then codes "    !(g" ++ digit client ++ codes " && g" ++ digit other ++ codes ");\n"
    else [])

-- the client is served at some time after it asked
abbrev pub response : ℕ → List ℕ
response client = codes "    G (r" ++ digit client ++ codes " -> F g" ++ digit client ++ codes ");\n"

abbrev pub exclusions : ℕ → ℕ → List ℕ
exclusions clients client = each (exclusion client) clients

abbrev pub head : ℕ → List ℕ
head n =
    codes "INFO {\n  TITLE: \"Arbiter for " ++ digit n
    ++ codes " clients\"\n  SEMANTICS: Mealy\n  TARGET: Mealy\n}\nMAIN {\n"

abbrev pub arbiter_text : ℕ → List ℕ
arbiter_text n =
    head n ++ codes "  INPUTS {\n" ++ each request n
    ++ codes "  }\n  OUTPUTS {\n" ++ each grant n
    ++ codes "  }\n  ASSERT {\n" ++ each (exclusions n) n
    ++ codes "  }\n  GUARANTEE {\n" ++ each response n
    ++ codes "  }\n}\n"
