-- Rows of single tokens, each of its class.
use Rattle.std.specs.Prelude.{◌≡◌, Bool, true, List, [], ◌∷◌}
use Rattle.tlsf_basic.specs.declared.symbols.Symbol.{Symbol}
use Rattle.tlsf_basic.specs.declared.symbols.Lexeme.{Lexeme}

abbrev pub IsRow : List (Symbol → Bool) → List Lexeme → Type 0
IsRow [] [] = Unit {0}
IsRow [] (t ∷ w) = ⊥
IsRow (is ∷ others) [] = ⊥
IsRow (is ∷ others) (t ∷ w) = (is t.symbol ≡ true) × IsRow others w

-- the first ones of a row, perhaps none
abbrev pub BeginsRow : List (Symbol → Bool) → List Lexeme → Type 0
BeginsRow others [] = Unit {0}
BeginsRow [] (t ∷ w) = ⊥
BeginsRow (is ∷ others) (t ∷ w) = (is t.symbol ≡ true) × BeginsRow others w
