-- The grammar of formulas: which lists of tokens are texts of each rule, and their values. The number bounds the nesting of every token.
use Rattle.std.specs.Prelude.{◌≡◌, ℕ, suc, true, List, [], ◌∷◌, ◌++◌, Option, Some, None}
use Rattle.ltl_form.specs.declared.formulas.Ltl.{Ltl}
use Rattle.ltl_form.specs.declared.formulas.Ltl.TheVariants as ltl
use Rattle.tlsf_basic.specs.declared.symbols.Unary.{Unary}
use Rattle.tlsf_basic.specs.declared.symbols.Lone.{Lone}
use Rattle.tlsf_basic.specs.declared.symbols.Symbol.{Symbol}
use Rattle.tlsf_basic.specs.declared.symbols.Symbol.TheVariants as s
use Rattle.tlsf_basic.specs.declared.symbols.Lexeme.{Lexeme}
use Rattle.tlsf_basic.specs.Marks.{is_close}
use Rattle.tlsf_basic.specs.Values.{with_unary, with_lone}

-- a constant, or a name by its number; a name that isn't declared has none, and the greatest stands for it
abbrev pub atom_value : Symbol → Option Ltl
atom_value s.True = Some ltl.True
atom_value s.False = Some ltl.False
atom_value (s.Signal k) = Some (ltl.Signal k)
atom_value s.Unknown = Some (ltl.Signal 4294967295)
atom_value _ = None

-- a chain of `&&`; a single operand is itself
abbrev pub all_of : Ltl → List Ltl → Ltl
all_of f [] = f
all_of f (g ∷ gs) = ltl.All (f ∷ g ∷ gs)

-- a chain of `||`
abbrev pub any_of : Ltl → List Ltl → Ltl
any_of f [] = f
any_of f (g ∷ gs) = ltl.Any (f ∷ g ∷ gs)

mutual
  -- unary operators before an atom
  pub data IsUnary : ℕ → List Lexeme → Ltl → Type 0 where
    is_atom : {n : ℕ} {f : Ltl} (t : Lexeme) → atom_value t.symbol ≡ Some f → IsUnary n (t ∷ []) f
    is_parens : {n : ℕ} {f : Ltl} (t c : Lexeme) (w : List Lexeme) → t.symbol ≡ s.Open → IsFormula n w f → is_close c.symbol ≡ true → IsUnary (suc n) (t ∷ w ++ c ∷ []) f
    is_prefixed : {n : ℕ} {f : Ltl} (t : Lexeme) (op : Unary) (w : List Lexeme) → t.symbol ≡ s.Unary op → IsUnary n w f → IsUnary (suc n) (t ∷ w) (with_unary op f)

  -- any number of operands, each behind `&&`
  pub data IsAnds : ℕ → List Lexeme → List Ltl → Type 0 where
    no_and : {n : ℕ} → IsAnds n [] []
    and_more : {n : ℕ} {f : Ltl} {fs : List Ltl} (t : Lexeme) (w v : List Lexeme) → t.symbol ≡ s.And → IsUnary n w f → IsAnds n v fs → IsAnds n (t ∷ w ++ v) (f ∷ fs)

  pub data IsAll : ℕ → List Lexeme → Ltl → Type 0 where
    is_all : {n : ℕ} {f : Ltl} {fs : List Ltl} (w v : List Lexeme) → IsUnary n w f → IsAnds n v fs → IsAll n (w ++ v) (all_of f fs)

  -- any number of operands, each behind `||`
  pub data IsOrs : ℕ → List Lexeme → List Ltl → Type 0 where
    no_or : {n : ℕ} → IsOrs n [] []
    or_more : {n : ℕ} {f : Ltl} {fs : List Ltl} (t : Lexeme) (w v : List Lexeme) → t.symbol ≡ s.Or → IsAll n w f → IsOrs n v fs → IsOrs n (t ∷ w ++ v) (f ∷ fs)

  pub data IsAny : ℕ → List Lexeme → Ltl → Type 0 where
    is_any : {n : ℕ} {f : Ltl} {fs : List Ltl} (w v : List Lexeme) → IsAll n w f → IsOrs n v fs → IsAny n (w ++ v) (any_of f fs)

  -- what stands behind a `->` is one level deeper
  pub data IsArrow : ℕ → List Lexeme → Ltl → Type 0 where
    is_last : {n : ℕ} {f : Ltl} {w : List Lexeme} → IsAny n w f → IsArrow n w f
    is_implied : {n : ℕ} {f g : Ltl} (w : List Lexeme) (t : Lexeme) (v : List Lexeme) → IsAny (suc n) w f → t.symbol ≡ s.Arrow → IsArrow n v g → IsArrow (suc n) (w ++ t ∷ v) (ltl.Implies f g)

  pub data IsFormula : ℕ → List Lexeme → Ltl → Type 0 where
    is_arrow : {n : ℕ} {f : Ltl} {w : List Lexeme} → IsArrow n w f → IsFormula n w f
    is_lone : {n : ℕ} {f g : Ltl} (w : List Lexeme) (t : Lexeme) (op : Lone) (v : List Lexeme) → IsUnary n w f → t.symbol ≡ s.Lone op → IsUnary n v g → IsFormula n (w ++ t ∷ v) (with_lone op f g)
