-- The tokens of a text, or its first lexical fault.
use Rattle.std.specs.Prelude.{◌≡◌, ℕ, zero, suc, ◌+◌, ◌-◌, ◌<◌, ◌≤◌, List, [], ◌∷◌, Result, Ok, Err}
use Rattle.tlsf_lex.specs.declared.tokens.LexFault.{LexFault}
use Rattle.tlsf_lex.specs.declared.tokens.LexError.{LexError}
use Rattle.tlsf_lex.specs.declared.tokens.LexError.TheVariants.{Fault, Memory}
use Rattle.tlsf_lex.specs.declared.tokens.Token.{Token}
use Rattle.tlsf_lex.specs.declared.steps.Step.{Step}
use Rattle.tlsf_lex.specs.declared.steps.Step.TheVariants.{Skip, Take, Bad}
use Rattle.tlsf_lex.specs.Steps.{step}

-- a fault and its place
abbrev pub Placed : Type 0
Placed = LexFault × ℕ

-- a token in front of those that follow
abbrev pub in_front : Token → Result (List Token) Placed → Result (List Token) Placed
in_front t (Ok ts) = Ok (t ∷ ts)
in_front t (Err e) = Err e

-- at a place, with what the rest gives behind so many further bytes
abbrev pub by_step : Step → ℕ → (ℕ → Result (List Token) Placed) → Result (List Token) Placed
by_step (Skip n) at rest = rest (n - 1)
by_step (Take kin n) at rest = in_front (record { kin = kin; «from» = at; to = at + n }) (rest (n - 1))
by_step (Bad what past) at rest = Err (what, at + past)

-- the tokens of the text that begins at a place, behind the bytes to be passed over
unfoldable pub tokens_at : ℕ → ℕ → List ℕ → Result (List Token) Placed
tokens_at at passed [] = Ok []
tokens_at at (suc passed) (b ∷ text) = tokens_at (at + 1) passed text
tokens_at at zero (b ∷ text) = by_step (step (b ∷ text)) at (λ n. tokens_at (at + 1) n text)

abbrev pub tokens_of : List ℕ → Result (List Token) Placed
tokens_of text = tokens_at 0 0 text

-- an error tells of the fault, unless memory ran out
abbrev pub Tells : LexError → Result (List Token) Placed → Type 0
Tells (Fault what place) read = read ≡ Err (what, place)
Tells Memory read = Unit {0}

-- the token has a byte, and is a part of a text of this length
abbrev pub IsWithin : ℕ → Token → Type 0
IsWithin len t = (t.«from» < t.to) × (t.to ≤ len)

-- the one ends where or before the other begins
abbrev pub IsBefore : Token → Token → Type 0
IsBefore t u = t.to ≤ u.«from»

-- a fault stands at a byte of a text of this length
abbrev pub IsPlaced : ℕ → LexError → Type 0
IsPlaced len (Fault what place) = place < len
IsPlaced len Memory = Unit {0}
