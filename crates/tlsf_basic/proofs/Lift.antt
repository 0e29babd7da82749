-- A text of a formula stays one where deeper nesting is allowed.
use Rattle.std.proofs.Common.{ℕ, zero, suc, ◌≤◌, List, arith}
use Rattle.ltl_form.specs.declared.formulas.Ltl.{Ltl}
use Rattle.tlsf_basic.specs.declared.symbols.Lexeme.{Lexeme}
use Rattle.tlsf_basic.specs.Grammar.{IsUnary, is_atom, is_parens, is_prefixed, IsAnds, no_and, and_more, IsAll, is_all, IsOrs, no_or, or_more, IsAny, is_any, IsArrow, is_last, is_implied, IsFormula, is_arrow, is_lone}

mutual
  pub lift_unary : {n : ℕ} {w : List Lexeme} {f : Ltl} → IsUnary n w f → (m : ℕ) → n ≤ m → IsUnary m w f
  lift_unary (is_atom t e) m h = is_atom t e
  lift_unary (is_parens t c w o x e) zero h = absurd (omega (arith, h))
  lift_unary (is_parens t c w o x e) (suc m) h = is_parens t c w o (lift_formula x m (omega (arith, h))) e
  lift_unary (is_prefixed t op w e x) zero h = absurd (omega (arith, h))
  lift_unary (is_prefixed t op w e x) (suc m) h = is_prefixed t op w e (lift_unary x m (omega (arith, h)))

  pub lift_ands : {n : ℕ} {w : List Lexeme} {fs : List Ltl} → IsAnds n w fs → (m : ℕ) → n ≤ m → IsAnds m w fs
  lift_ands no_and m h = no_and
  lift_ands (and_more t w v e x y) m h = and_more t w v e (lift_unary x m h) (lift_ands y m h)

  pub lift_all : {n : ℕ} {w : List Lexeme} {f : Ltl} → IsAll n w f → (m : ℕ) → n ≤ m → IsAll m w f
  lift_all (is_all w v x y) m h = is_all w v (lift_unary x m h) (lift_ands y m h)

  pub lift_ors : {n : ℕ} {w : List Lexeme} {fs : List Ltl} → IsOrs n w fs → (m : ℕ) → n ≤ m → IsOrs m w fs
  lift_ors no_or m h = no_or
  lift_ors (or_more t w v e x y) m h = or_more t w v e (lift_all x m h) (lift_ors y m h)

  pub lift_any : {n : ℕ} {w : List Lexeme} {f : Ltl} → IsAny n w f → (m : ℕ) → n ≤ m → IsAny m w f
  lift_any (is_any w v x y) m h = is_any w v (lift_all x m h) (lift_ors y m h)

  pub lift_arrow : {n : ℕ} {w : List Lexeme} {f : Ltl} → IsArrow n w f → (m : ℕ) → n ≤ m → IsArrow m w f
  lift_arrow (is_last x) m h = is_last (lift_any x m h)
  lift_arrow (is_implied w t v x e y) zero h = absurd (omega (arith, h))
  lift_arrow (is_implied w t v x e y) (suc m) h = is_implied w t v (lift_any x (suc m) h) e (lift_arrow y m (omega (arith, h)))

  pub lift_formula : {n : ℕ} {w : List Lexeme} {f : Ltl} → IsFormula n w f → (m : ℕ) → n ≤ m → IsFormula m w f
  lift_formula (is_arrow x) m h = is_arrow (lift_arrow x m h)
  lift_formula (is_lone w t op v x e y) m h = is_lone w t op v (lift_unary x m h) e (lift_unary y m h)
