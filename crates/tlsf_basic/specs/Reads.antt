-- Reading a list of tokens from the front: a value and the tokens behind it, or a fault and the tokens that it stands at.
use Rattle.std.specs.Prelude.{◌≡◌, ℕ, zero, suc, Bool, List, [], ◌∷◌, Result, Ok, Err, if◌then◌else◌}
use Rattle.std.specs.Borrow.{Bor}
use Rattle.tlsf_basic.specs.declared.faults.Part.{Part}
use Rattle.tlsf_basic.specs.declared.faults.TextFault.{TextFault}
use Rattle.tlsf_basic.specs.declared.faults.TextFault.TheVariants.{FullFormat, Expected, NeedsParens, MissingPart}
use Rattle.tlsf_basic.specs.declared.symbols.Symbol.{Symbol}
use Rattle.tlsf_basic.specs.declared.symbols.Symbol.TheVariants as s
use Rattle.tlsf_basic.specs.declared.symbols.Lexeme.{Lexeme}
use Rattle.tlsf_basic.specs.declared.stops.Stop.{Stop}
use Rattle.tlsf_basic.specs.declared.stops.Stop.TheVariants as stops

abbrev pub Halt : Type 0
Halt = TextFault × List Lexeme

-- a value, and the tokens behind it
abbrev pub Read : Type 0 → Type 0
Read A = Result (A × List Lexeme) Halt

-- the tokens behind what has no value
abbrev pub Past : Type 0
Past = Result (List Lexeme) Halt

infixl 10 ◌>>=◌
abbrev pub ◌>>=◌ : {A B : Type 0} → Result A Halt → (A → Result B Halt) → Result B Halt
(Ok x) >>= f = f x
(Err e) >>= f = Err e

-- what a function returned, seen by a view, is what reading gives, unless memory ran out
abbrev pub Fails : {Y : Type 0} → Stop → Result Y Halt → Type 0
Fails stops.Memory read = Unit {0}
Fails (stops.Fault what rest) read = read ≡ Err (what, rest.now)

abbrev pub Gives : {X Y : Type 0} → (X → Y) → Result X Stop → Result Y Halt → Type 0
Gives view (Ok x) read = read ≡ Ok (view x)
Gives view (Err e) read = Fails e read

-- a value and the tokens behind it
abbrev pub behind_by : {A : Type 0} → A × Bor (List Lexeme) → A × List Lexeme
behind_by r = (r.0, r.1.now)

abbrev pub front : List Lexeme → Symbol
front [] = s.End
front (t ∷ ts) = t.symbol

abbrev pub expected_by : Symbol → TextFault
expected_by s.Full = FullFormat
expected_by _ = Expected

-- the fault where the grammar doesn't go on with these tokens
abbrev pub expected : List Lexeme → TextFault
expected w = expected_by (front w)

abbrev pub unexpected : {A : Type 0} → List Lexeme → Result A Halt
unexpected w = Err (expected w, w)

abbrev pub misplaced_by : Symbol → TextFault
misplaced_by s.Full = FullFormat
misplaced_by s.And = NeedsParens
misplaced_by s.Or = NeedsParens
misplaced_by s.Arrow = NeedsParens
misplaced_by (s.Lone op) = NeedsParens
misplaced_by _ = Expected

-- the same, right behind a whole operand
abbrev pub misplaced : List Lexeme → TextFault
misplaced w = misplaced_by (front w)

abbrev pub missing_by : Part → Symbol → TextFault
missing_by part s.Full = FullFormat
missing_by part _ = MissingPart part

-- the same, where the part alone may stand
abbrev pub missing : Part → List Lexeme → TextFault
missing part w = missing_by part (front w)

-- turns as long as the front says so, at most a number of them
unfoldable pub turns : {S : Type 0} → (Symbol → Bool) → (S → List Lexeme → Read S) → ℕ → S → List Lexeme → Read S
turns goes turn zero state w = Ok (state, w)
turns goes turn (suc n) state w =
    (if goes (front w) then turn state w >>= (λ r. turns goes turn n r.0 r.1) else Ok (state, w))

-- the same for turns without a value
unfoldable pub passes : (Symbol → Bool) → (List Lexeme → Past) → ℕ → List Lexeme → Past
passes goes turn zero w = Ok w
passes goes turn (suc n) w = (if goes (front w) then turn w >>= passes goes turn n else Ok w)
