-- Which lists of tokens begin each rule of formulas. The empty list begins every rule, and a single token begins the token that it is.
-- A row of parts is begun by whole texts of the first ones and a list that begins the next, and a repetition by whole turns and a list that begins one more.
use Rattle.std.specs.Prelude.{◌≡◌, ℕ, suc, Bool, true, List, [], ◌∷◌, ◌++◌, Some}
use Rattle.ltl_form.specs.declared.formulas.Ltl.{Ltl}
use Rattle.tlsf_basic.specs.declared.symbols.Unary.{Unary}
use Rattle.tlsf_basic.specs.declared.symbols.Lone.{Lone}
use Rattle.tlsf_basic.specs.declared.symbols.Symbol.{Symbol}
use Rattle.tlsf_basic.specs.declared.symbols.Symbol.TheVariants as s
use Rattle.tlsf_basic.specs.declared.symbols.Lexeme.{Lexeme}
use Rattle.tlsf_basic.specs.Marks.{is_close}
use Rattle.tlsf_basic.specs.Grammar.{atom_value, IsUnary, IsAnds, IsAll, IsOrs, IsAny, IsFormula}

-- a token of a class
pub data BeginsMark (is : Symbol → Bool) : List Lexeme → Type 0 where
  no_mark : BeginsMark is []
  the_mark : (t : Lexeme) → is t.symbol ≡ true → BeginsMark is (t ∷ [])

mutual
  pub data BeginsUnary : ℕ → List Lexeme → Type 0 where
    nothing : {n : ℕ} → BeginsUnary n []
    atom_alone : {n : ℕ} (f : Ltl) (t : Lexeme) → atom_value t.symbol ≡ Some f → BeginsUnary n (t ∷ [])
    in_parens : {n : ℕ} (t : Lexeme) (w : List Lexeme) → t.symbol ≡ s.Open → BeginsFormula n w → BeginsUnary (suc n) (t ∷ w)
    at_close : {n : ℕ} (f : Ltl) (t : Lexeme) (w r : List Lexeme) → t.symbol ≡ s.Open → IsFormula n w f → BeginsMark is_close r → BeginsUnary (suc n) (t ∷ w ++ r)
    in_operand : {n : ℕ} (t : Lexeme) (op : Unary) (w : List Lexeme) → t.symbol ≡ s.Unary op → BeginsUnary n w → BeginsUnary (suc n) (t ∷ w)

  pub data BeginsAnds : ℕ → List Lexeme → Type 0 where
    whole_ands : {n : ℕ} (fs : List Ltl) (w : List Lexeme) → IsAnds n w fs → BeginsAnds n w
    in_and : {n : ℕ} (fs : List Ltl) (w : List Lexeme) (t : Lexeme) (v : List Lexeme) → IsAnds n w fs → t.symbol ≡ s.And → BeginsUnary n v → BeginsAnds n (w ++ t ∷ v)

  pub data BeginsAll : ℕ → List Lexeme → Type 0 where
    in_first : {n : ℕ} {w : List Lexeme} → BeginsUnary n w → BeginsAll n w
    in_ands : {n : ℕ} (f : Ltl) (w v : List Lexeme) → IsUnary n w f → BeginsAnds n v → BeginsAll n (w ++ v)

  pub data BeginsOrs : ℕ → List Lexeme → Type 0 where
    whole_ors : {n : ℕ} (fs : List Ltl) (w : List Lexeme) → IsOrs n w fs → BeginsOrs n w
    in_or : {n : ℕ} (fs : List Ltl) (w : List Lexeme) (t : Lexeme) (v : List Lexeme) → IsOrs n w fs → t.symbol ≡ s.Or → BeginsAll n v → BeginsOrs n (w ++ t ∷ v)

  pub data BeginsAny : ℕ → List Lexeme → Type 0 where
    in_all : {n : ℕ} {w : List Lexeme} → BeginsAll n w → BeginsAny n w
    in_ors : {n : ℕ} (f : Ltl) (w v : List Lexeme) → IsAll n w f → BeginsOrs n v → BeginsAny n (w ++ v)

  -- either an `any` alone, or one before `->`
  pub data BeginsArrow : ℕ → List Lexeme → Type 0 where
    in_any : {n : ℕ} {w : List Lexeme} → BeginsAny n w → BeginsArrow n w
    in_right : {n : ℕ} (f : Ltl) (w : List Lexeme) (t : Lexeme) (v : List Lexeme) → IsAny (suc n) w f → t.symbol ≡ s.Arrow → BeginsArrow n v → BeginsArrow (suc n) (w ++ t ∷ v)

  -- either an arrow, which each list that begins a `unary` begins too, or two operands
  pub data BeginsFormula : ℕ → List Lexeme → Type 0 where
    in_arrow : {n : ℕ} {w : List Lexeme} → BeginsArrow n w → BeginsFormula n w
    in_second : {n : ℕ} (f : Ltl) (w : List Lexeme) (t : Lexeme) (op : Lone) (v : List Lexeme) → IsUnary n w f → t.symbol ≡ s.Lone op → BeginsUnary n v → BeginsFormula n (w ++ t ∷ v)
