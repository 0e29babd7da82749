-- Why reading stops: the fault, and what the tokens before it begin.
use Rattle.std.proofs.Common.{◌≡◌, ℕ, suc, ◌≤◌, Bool, true, false, List, [], ◌∷◌, ◌++◌, sym, refl, ap, ◌∙◌, subst, arith, append_assoc}
use Rattle.ltl_form.specs.declared.formulas.Ltl.{Ltl}
use Rattle.tlsf_basic.specs.declared.faults.Part.{Part}
use Rattle.tlsf_basic.specs.declared.faults.TextFault.{TextFault}
use Rattle.tlsf_basic.specs.declared.faults.TextFault.TheVariants.{TooDeep}
use Rattle.tlsf_basic.specs.declared.symbols.Symbol.{Symbol}
use Rattle.tlsf_basic.specs.declared.symbols.Symbol.TheVariants as s
use Rattle.tlsf_basic.specs.declared.symbols.Lexeme.{Lexeme}
use Rattle.tlsf_basic.specs.Reads.{expected, misplaced, missing}
use Rattle.tlsf_basic.specs.Grammar.{IsUnary}

abbrev pub ends_by : Symbol → Bool
ends_by s.True = true
ends_by s.False = true
ends_by (s.Signal k) = true
ends_by s.Unknown = true
ends_by s.Close = true
ends_by _ = false

-- whether the last token is one with which an operand ends
abbrev pub ends_operand : List Lexeme → Bool
ends_operand [] = false
ends_operand (t ∷ []) = ends_by t.symbol
ends_operand (t ∷ u ∷ w) = ends_operand (u ∷ w)

pub ends-append : (u p : List Lexeme) → ends_operand u ≡ false → ends_operand p ≡ false → ends_operand (u ++ p) ≡ false
ends-append [] p a b = b
ends-append (t ∷ []) [] a b = a
ends-append (t ∷ []) (x ∷ p) a b = b
ends-append (t ∷ y ∷ u) p a b = ends-append (y ∷ u) p a b

pub ends-last : (u : List Lexeme) (t : Lexeme) (p : List Lexeme) → ends_operand (u ++ t ∷ p) ≡ ends_operand (t ∷ p)
ends-last [] t p = refl
ends-last (x ∷ []) t p = refl
ends-last (x ∷ y ∷ u) t p = ends-last (y ∷ u) t p

-- the last of them are an operand, and a `(` may stand in its place
abbrev pub Operand : (ℕ → List Lexeme → Type 0) → ℕ → List Lexeme → Type 0
Operand B n p = (q : List Lexeme) × (u : List Lexeme) × (g : Ltl) × (p ≡ q ++ u) × IsUnary n u g × ((o : Lexeme) → o.symbol ≡ s.Open → B (suc n) (q ++ o ∷ []))

abbrev pub Lacks : Type 1
Lacks = Part → List Lexeme → List Lexeme → Type 0

abbrev pub no_lack : Lacks
no_lack part p v = ⊥

pub data Stop (Missing : Lacks) (B : ℕ → List Lexeme → Type 0) (n : ℕ) (p : List Lexeme) (f : TextFault) (v : List Lexeme) : Type 0 where
  not_expected : B n p → f ≡ expected v → ends_operand p ≡ false → Stop Missing B n p f v
  not_parenthesized : B n p → f ≡ misplaced v → Operand B n p → Stop Missing B n p f v
  at_depth : (t : Lexeme) (rest : List Lexeme) → B n p → f ≡ TooDeep → v ≡ t ∷ rest → B (suc n) (p ++ t ∷ []) → Stop Missing B n p f v
  lacking : (part : Part) → B n p → f ≡ missing part v → Missing part p v → Stop Missing B n p f v

-- what stands before these tokens
abbrev pub Carried : (ℕ → List Lexeme → Type 0) → (ℕ → List Lexeme → Type 0) → ℕ → List Lexeme → Type 0
Carried B1 B n u = (m : ℕ) (r : List Lexeme) → n ≤ m → B1 m r → B m (u ++ r)

pub operand_behind : (B1 B : ℕ → List Lexeme → Type 0) (n : ℕ) (u p : List Lexeme) → Carried B1 B n u → Operand B1 n p → Operand B n (u ++ p)
operand_behind B1 B n u p carry (q, x, g, e, is, open_) = (
  u ++ q,
  x,
  g,
  ap (λ y. u ++ y) e ∙ sym (append_assoc u q x),
  is,
  λ o h. subst (B (suc n)) (sym (append_assoc u q (o ∷ []))) (carry (suc n) (q ++ o ∷ []) (omega arith) (open_ o h)),
)

pub stop_behind : (M1 M : Lacks) (B1 B : ℕ → List Lexeme → Type 0) (n : ℕ) (u p : List Lexeme) (f : TextFault) (v : List Lexeme)
    → Carried B1 B n u → (ends_operand p ≡ false → ends_operand (u ++ p) ≡ false) → ((part : Part) → M1 part p v → M part (u ++ p) v)
    → Stop M1 B1 n p f v → Stop M B n (u ++ p) f v
stop_behind M1 M B1 B n u p f v carry ends lack (not_expected b fault end) = not_expected (carry n p (omega arith) b) fault (ends end)
stop_behind M1 M B1 B n u p f v carry ends lack (not_parenthesized b fault operand) = not_parenthesized (carry n p (omega arith) b) fault (operand_behind B1 B n u p carry operand)
stop_behind M1 M B1 B n u p f v carry ends lack (at_depth t rest b fault is more) =
    at_depth t rest (carry n p (omega arith) b) fault is (subst (B (suc n)) (sym (append_assoc u p (t ∷ []))) (carry (suc n) (p ++ t ∷ []) (omega arith) more))
stop_behind M1 M B1 B n u p f v carry ends lack (lacking part b fault missing_) = lacking part (carry n p (omega arith) b) fault (lack part missing_)

-- the same tokens as those of a larger rule
pub stop_within : (M : Lacks) (B1 B : ℕ → List Lexeme → Type 0) (n : ℕ) (p : List Lexeme) (f : TextFault) (v : List Lexeme)
    → ((m : ℕ) (r : List Lexeme) → B1 m r → B m r) → Stop M B1 n p f v → Stop M B n p f v
stop_within M B1 B n p f v carry stop = stop_behind M M B1 B n [] p f v (λ m r h b. carry m r b) (λ h. h) (λ part h. h) stop
