-- What begins a formula goes on to a whole one.
use Rattle.std.proofs.Common.{◌≡◌, ℕ, suc, List, [], ◌∷◌, ◌++◌, sym, refl, ap, ◌∙◌, subst, append_assoc, append-nil}
use Rattle.ltl_form.specs.declared.formulas.Ltl.{Ltl}
use Rattle.ltl_form.specs.declared.formulas.Ltl.TheVariants as ltl
use Rattle.tlsf_basic.specs.declared.symbols.Symbol.{Symbol}
use Rattle.tlsf_basic.specs.declared.symbols.Symbol.TheVariants as s
use Rattle.tlsf_basic.specs.declared.symbols.Lexeme.{Lexeme}
use Rattle.tlsf_basic.specs.Values.{with_unary, with_lone}
use Rattle.tlsf_basic.specs.Marks.{is_close}
use Rattle.tlsf_basic.specs.Grammar.{all_of, any_of, IsUnary, is_atom, is_parens, is_prefixed, IsAnds, no_and, and_more, IsAll, is_all, IsOrs, no_or, or_more, IsAny, is_any, IsArrow, is_last, is_implied, IsFormula, is_arrow, is_lone}
use Rattle.tlsf_basic.specs.Begins.{BeginsMark, no_mark, the_mark, BeginsUnary, nothing, atom_alone, in_parens, at_close, in_operand, BeginsAnds, whole_ands, in_and, BeginsAll, in_first, in_ands, BeginsOrs, whole_ors, in_or, BeginsAny, in_all, in_ors, BeginsArrow, in_any, in_right, BeginsFormula, in_arrow, in_second}

-- a token of this kind
abbrev pub made : Symbol → Lexeme
made y = record { symbol = y; «from» = 0; to = 0 }

-- these tokens and some more are a text
abbrev pub GoesOn : (List Lexeme → Ltl → Type 0) → List Lexeme → Type 0
GoesOn T w = (x : List Lexeme) × (f : Ltl) × T (w ++ x) f

atom_whole : (n : ℕ) → IsUnary n (made s.True ∷ []) ltl.True
atom_whole n = is_atom (made s.True) refl

ands_join : {n : ℕ} {w v : List Lexeme} {fs gs : List Ltl} → IsAnds n w fs → IsAnds n v gs → IsAnds n (w ++ v) (fs ++ gs)
ands_join no_and y = y
ands_join {v = v} {gs = gs} (and_more {n = n} {f = f} {fs = fs} t w z is x xs) y = subst (λ q. IsAnds n (t ∷ q) (f ∷ fs ++ gs)) (sym (append_assoc w z v)) (and_more t w (z ++ v) is x (ands_join xs y))

ors_join : {n : ℕ} {w v : List Lexeme} {fs gs : List Ltl} → IsOrs n w fs → IsOrs n v gs → IsOrs n (w ++ v) (fs ++ gs)
ors_join no_or y = y
ors_join {v = v} {gs = gs} (or_more {n = n} {f = f} {fs = fs} t w z is x xs) y = subst (λ q. IsOrs n (t ∷ q) (f ∷ fs ++ gs)) (sym (append_assoc w z v)) (or_more t w (z ++ v) is x (ors_join xs y))

-- the closing parenthesis, where it isn't there
close_whole : (n : ℕ) (f : Ltl) (t : Lexeme) (w r : List Lexeme) → t.symbol ≡ s.Open → IsFormula n w f → BeginsMark is_close r → GoesOn (IsUnary (suc n)) (t ∷ w ++ r)
close_whole n f t w r is x no_mark = (made s.Close ∷ [], f, subst (λ q. IsUnary (suc n) (t ∷ q) f) (sym (append_assoc w [] (made s.Close ∷ []))) (is_parens t (made s.Close) w is x refl))
close_whole n f t w r is x (the_mark c e) = ([], f, subst (λ q. IsUnary (suc n) (t ∷ q) f) (sym (append-nil (w ++ c ∷ []))) (is_parens t c w is x e))

mutual
  pub unary_whole : {n : ℕ} {w : List Lexeme} → BeginsUnary n w → GoesOn (IsUnary n) w
  unary_whole (nothing {n = n}) = (made s.True ∷ [], ltl.True, atom_whole n)
  unary_whole (atom_alone f t e) = ([], f, is_atom t e)
  unary_whole (in_parens {n = n} t w is b) =
      let (x, f, text) = formula_whole b in
      (x ++ made s.Close ∷ [], f, subst (λ q. IsUnary (suc n) (t ∷ q) f) (append_assoc w x (made s.Close ∷ [])) (is_parens t (made s.Close) (w ++ x) is text refl))
  unary_whole (at_close {n = n} f t w r is x b) = close_whole n f t w r is x b
  unary_whole (in_operand t op w is b) =
      let (x, f, text) = unary_whole b in (x, with_unary op f, is_prefixed t op (w ++ x) is text)

  ands_whole : {n : ℕ} {w : List Lexeme} → BeginsAnds n w → (x : List Lexeme) × (fs : List Ltl) × IsAnds n (w ++ x) fs
  ands_whole (whole_ands {n = n} fs w y) = ([], fs, subst (λ q. IsAnds n q fs) (sym (append-nil w)) y)
  ands_whole (in_and {n = n} fs w t v y is b) =
      let (x, f, text) = unary_whole b in
      (x, fs ++ f ∷ [], subst (λ q. IsAnds n q (fs ++ f ∷ [])) (ap (λ q. w ++ t ∷ q) (append-nil (v ++ x)) ∙ sym (append_assoc w (t ∷ v) x)) (ands_join y (and_more t (v ++ x) [] is text no_and)))

  all_whole : {n : ℕ} {w : List Lexeme} → BeginsAll n w → GoesOn (IsAll n) w
  all_whole (in_first {n = n} {w = w} b) =
      let (x, f, text) = unary_whole b in (x, f, subst (λ q. IsAll n q f) (append-nil (w ++ x)) (is_all (w ++ x) [] text no_and))
  all_whole (in_ands {n = n} f w v y b) =
      let (x, fs, text) = ands_whole b in (x, all_of f fs, subst (λ q. IsAll n q (all_of f fs)) (sym (append_assoc w v x)) (is_all w (v ++ x) y text))

  ors_whole : {n : ℕ} {w : List Lexeme} → BeginsOrs n w → (x : List Lexeme) × (fs : List Ltl) × IsOrs n (w ++ x) fs
  ors_whole (whole_ors {n = n} fs w y) = ([], fs, subst (λ q. IsOrs n q fs) (sym (append-nil w)) y)
  ors_whole (in_or {n = n} fs w t v y is b) =
      let (x, f, text) = all_whole b in
      (x, fs ++ f ∷ [], subst (λ q. IsOrs n q (fs ++ f ∷ [])) (ap (λ q. w ++ t ∷ q) (append-nil (v ++ x)) ∙ sym (append_assoc w (t ∷ v) x)) (ors_join y (or_more t (v ++ x) [] is text no_or)))

  any_whole : {n : ℕ} {w : List Lexeme} → BeginsAny n w → GoesOn (IsAny n) w
  any_whole (in_all {n = n} {w = w} b) =
      let (x, f, text) = all_whole b in (x, f, subst (λ q. IsAny n q f) (append-nil (w ++ x)) (is_any (w ++ x) [] text no_or))
  any_whole (in_ors {n = n} f w v y b) =
      let (x, fs, text) = ors_whole b in (x, any_of f fs, subst (λ q. IsAny n q (any_of f fs)) (sym (append_assoc w v x)) (is_any w (v ++ x) y text))

  arrow_whole : {n : ℕ} {w : List Lexeme} → BeginsArrow n w → GoesOn (IsArrow n) w
  arrow_whole (in_any b) = let (x, f, text) = any_whole b in (x, f, is_last text)
  arrow_whole (in_right {n = n} f w t v y is b) =
      let (x, g, text) = arrow_whole b in (x, ltl.Implies f g, subst (λ q. IsArrow (suc n) q (ltl.Implies f g)) (sym (append_assoc w (t ∷ v) x)) (is_implied w t (v ++ x) y is text))

  pub formula_whole : {n : ℕ} {w : List Lexeme} → BeginsFormula n w → GoesOn (IsFormula n) w
  formula_whole (in_arrow b) = let (x, f, text) = arrow_whole b in (x, f, is_arrow text)
  formula_whole (in_second {n = n} f w t op v y is b) =
      let (x, g, text) = unary_whole b in (x, with_lone op f g, subst (λ q. IsFormula n q (with_lone op f g)) (sym (append_assoc w (t ∷ v) x)) (is_lone w t op (v ++ x) y is text))
