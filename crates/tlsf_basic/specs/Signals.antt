-- Declared names, and the numbers of names in formulas.
use Rattle.std.specs.Prelude.{◌≡◌, ℕ, ◌<◌, min, Bool, true, false, ◌&&◌, take, slice_get, List, [], ◌∷◌, ◌++◌, map, filter, position, fold, slice_range, Option, Some, None, if◌then◌else◌}
use Rattle.std.specs.List.{list_any}
use Rattle.std.specs.Str.{bytes_eq}
use Rattle.tlsf_basic.specs.declared.symbols.Side.TheVariants.{Input, Output}
use Rattle.tlsf_basic.specs.declared.symbols.Symbol.{Symbol}
use Rattle.tlsf_basic.specs.declared.symbols.Symbol.TheVariants as s
use Rattle.tlsf_basic.specs.declared.symbols.Lexeme.{Lexeme}
use Rattle.tlsf_basic.specs.Marks.{is_declared}

abbrev pub is_input : Symbol → Bool
is_input (s.Declared Input) = true
is_input _ = false

abbrev pub is_output : Symbol → Bool
is_output (s.Declared Output) = true
is_output _ = false

-- a signal's number is below n
abbrev pub IsSymbolBelow : ℕ → Symbol → Type 0
IsSymbolBelow n (s.Signal k) = k < n
IsSymbolBelow n _ = Unit {0}

abbrev pub IsSignalBelow : ℕ → Lexeme → Type 0
IsSignalBelow n l = IsSymbolBelow n l.symbol

abbrev pub is_unknown : Symbol → Bool
is_unknown s.Unknown = true
is_unknown _ = false

-- it is no name of a formula that isn't declared
abbrev pub IsKnown : Lexeme → Type 0
IsKnown l = is_unknown l.symbol ≡ false

-- it is no name of a formula that has a number already
abbrev pub IsSymbolFresh : Symbol → Type 0
IsSymbolFresh (s.Signal k) = ⊥
IsSymbolFresh _ = Unit {0}

abbrev pub IsFresh : Lexeme → Type 0
IsFresh l = IsSymbolFresh l.symbol

-- the bytes of a lexeme
abbrev pub name_of : List ℕ → Lexeme → List ℕ
name_of text l = slice_range text l.from l.to

abbrev pub inputs_of : List Lexeme → List Lexeme
inputs_of w = filter (λ l. is_input l.symbol) w

abbrev pub outputs_of : List Lexeme → List Lexeme
outputs_of w = filter (λ l. is_output l.symbol) w

-- a name behind the others, unless it is one of them
abbrev pub with_name : List (List ℕ) → List ℕ → List (List ℕ)
with_name names name = if list_any (bytes_eq name) names then names else names ++ name ∷ []

-- the names in order, each at its first place
abbrev pub each_once : List (List ℕ) → List (List ℕ)
each_once names = fold with_name [] names

-- the declared names, the inputs first
abbrev pub declared_of : List ℕ → List Lexeme → List (List ℕ)
declared_of text w = map (name_of text) (inputs_of w) ++ map (name_of text) (outputs_of w)

-- a number that has no 32 bits is the greatest that has
abbrev pub signal_at : Option ℕ → Symbol
signal_at None = s.Unknown
signal_at (Some k) = s.Signal (min k 4294967295)

-- a name of a formula gets its place among the declared names
abbrev pub numbered_by : List ℕ → List (List ℕ) → Lexeme → Lexeme
numbered_by text names l =
    (if is_unknown l.symbol then record { symbol = signal_at (position (bytes_eq (name_of text l)) names); «from» = l.from; to = l.to } else l)

unfoldable pub numbered : List ℕ → List Lexeme → List Lexeme
numbered text w = map (numbered_by text (each_once (declared_of text w))) w

-- the first lexeme that passes a test of it and of those before it
abbrev pub IsFirst : (List Lexeme → Lexeme → Bool) → List Lexeme → Lexeme → Type 0
IsFirst test w l =
    (i : ℕ) × (slice_get w i ≡ Some l) × (test (take i w) l ≡ true)
    × ((k : ℕ) (m : Lexeme) → k < i → slice_get w k ≡ Some m → test (take k w) m ≡ false)

abbrev pub IsNever : (List Lexeme → Lexeme → Bool) → List Lexeme → Type 0
IsNever test w = (k : ℕ) (m : Lexeme) → slice_get w k ≡ Some m → test (take k w) m ≡ false

-- the names that are declared among these lexemes, in order of place
abbrev pub names_among : List ℕ → List Lexeme → List (List ℕ)
names_among text w = map (name_of text) (filter (λ l. is_declared l.symbol) w)

-- a declared name that was declared before
abbrev pub is_repeated : List ℕ → List Lexeme → Lexeme → Bool
is_repeated text before l = is_declared l.symbol && list_any (bytes_eq (name_of text l)) (names_among text before)

-- a name of a formula that isn't declared
abbrev pub is_undeclared : List Lexeme → Lexeme → Bool
is_undeclared before l = is_unknown l.symbol
