-- A formula ends with a whole operand, in whose place a `(` may stand.
use Rattle.std.proofs.Common.{◌≡◌, ℕ, suc, List, [], ◌∷◌, ◌++◌, sym, refl, ap, ◌∙◌, subst, arith, append_assoc, append-nil}
use Rattle.ltl_form.specs.declared.formulas.Ltl.{Ltl}
use Rattle.tlsf_basic.specs.declared.symbols.Symbol.TheVariants as s
use Rattle.tlsf_basic.specs.declared.symbols.Lexeme.{Lexeme}
use Rattle.tlsf_basic.specs.Grammar.{IsUnary, IsAnds, no_and, and_more, IsAll, is_all, IsOrs, no_or, or_more, IsAny, is_any, IsArrow, is_last, is_implied, IsFormula, is_arrow, is_lone}
use Rattle.tlsf_basic.specs.Begins.{BeginsUnary, nothing, in_parens, BeginsAnds, whole_ands, in_and, BeginsAll, in_first, in_ands, BeginsOrs, whole_ors, in_or, BeginsAny, in_all, in_ors, BeginsArrow, in_any, in_right, BeginsFormula, in_arrow, in_second}
use Rattle.tlsf_basic.proofs.Lift.{lift_unary, lift_all, lift_any}
use Rattle.tlsf_basic.proofs.Stopping.{Operand, Carried, operand_behind}

module _ {n : ℕ} where
  pub and_carried : (t : Lexeme) (w : List Lexeme) (g : Ltl) → t.symbol ≡ s.And → IsUnary n w g → Carried BeginsAnds BeginsAnds n (t ∷ w)
  and_carried t w g is x m r le (whole_ands fs v y) = whole_ands (g ∷ fs) (t ∷ w ++ v) (and_more t w v is (lift_unary x m le) y)
  and_carried t w g is x m r le (in_and fs v t' z y is' b) =
      subst (λ q. BeginsAnds m (t ∷ q)) (append_assoc w v (t' ∷ z)) (in_and (g ∷ fs) (t ∷ w ++ v) t' z (and_more t w v is (lift_unary x m le) y) is' b)

  pub or_carried : (t : Lexeme) (w : List Lexeme) (g : Ltl) → t.symbol ≡ s.Or → IsAll n w g → Carried BeginsOrs BeginsOrs n (t ∷ w)
  or_carried t w g is x m r le (whole_ors fs v y) = whole_ors (g ∷ fs) (t ∷ w ++ v) (or_more t w v is (lift_all x m le) y)
  or_carried t w g is x m r le (in_or fs v t' z y is' b) =
      subst (λ q. BeginsOrs m (t ∷ q)) (append_assoc w v (t' ∷ z)) (in_or (g ∷ fs) (t ∷ w ++ v) t' z (or_more t w v is (lift_all x m le) y) is' b)

  opening : (o : Lexeme) → o.symbol ≡ s.Open → BeginsUnary (suc n) (o ∷ [])
  opening o h = in_parens o [] h (in_arrow (in_any (in_all (in_first nothing))))

  unary_operand : (w : List Lexeme) (f : Ltl) → IsUnary n w f → Operand BeginsUnary n w
  unary_operand w f x = ([], w, f, refl, x, opening)

  of_larger : (B1 B : ℕ → List Lexeme → Type 0) (w : List Lexeme) → ((m : ℕ) (r : List Lexeme) → B1 m r → B m r) → Operand B1 n w → Operand B n w
  of_larger B1 B w more (q, u, g, e, x, open_) = (q, u, g, e, x, λ o h. more (suc n) (q ++ o ∷ []) (open_ o h))

  ands_operand : (t : Lexeme) (w v : List Lexeme) (f : Ltl) (fs : List Ltl) → t.symbol ≡ s.And → IsUnary n w f → IsAnds n v fs → Operand BeginsAnds n (t ∷ w ++ v)
  ands_operand t w v f fs is x no_and =
      (t ∷ [], w, f, ap (λ z. t ∷ z) (append-nil w), x, λ o h. in_and [] [] t (o ∷ []) no_and is (opening o h))
  ands_operand t w v f fs is x (and_more {f = g} {fs = gs} t' w' v' is' y z) =
      operand_behind BeginsAnds BeginsAnds n (t ∷ w) (t' ∷ w' ++ v') (and_carried t w f is x) (ands_operand t' w' v' g gs is' y z)

  pub all_operand : (w : List Lexeme) (f : Ltl) → IsAll n w f → Operand BeginsAll n w
  all_operand w f (is_all {f = g} a b x no_and) =
      subst (Operand BeginsAll n) (sym (append-nil a)) (of_larger BeginsUnary BeginsAll a (λ m r. in_first) (unary_operand a g x))
  all_operand w f (is_all {f = g} a b x (and_more {f = h} {fs = hs} t c e is y z)) =
      operand_behind BeginsAnds BeginsAll n a (t ∷ c ++ e) (λ m r le. in_ands g a r (lift_unary x m le)) (ands_operand t c e h hs is y z)

  ors_operand : (t : Lexeme) (w v : List Lexeme) (f : Ltl) (fs : List Ltl) → t.symbol ≡ s.Or → IsAll n w f → IsOrs n v fs → Operand BeginsOrs n (t ∷ w ++ v)
  ors_operand t w v f fs is x no_or =
      subst (λ z. Operand BeginsOrs n (t ∷ z)) (sym (append-nil w))
      (operand_behind BeginsAll BeginsOrs n (t ∷ []) w (λ m r le. in_or [] [] t r no_or is) (all_operand w f x))
  ors_operand t w v f fs is x (or_more {f = g} {fs = gs} t' w' v' is' y z) =
      operand_behind BeginsOrs BeginsOrs n (t ∷ w) (t' ∷ w' ++ v') (or_carried t w f is x) (ors_operand t' w' v' g gs is' y z)

  pub any_operand : (w : List Lexeme) (f : Ltl) → IsAny n w f → Operand BeginsAny n w
  any_operand w f (is_any {f = g} a b x no_or) =
      subst (Operand BeginsAny n) (sym (append-nil a)) (of_larger BeginsAll BeginsAny a (λ m r. in_all) (all_operand a g x))
  any_operand w f (is_any {f = g} a b x (or_more {f = h} {fs = hs} t c e is y z)) =
      operand_behind BeginsOrs BeginsAny n a (t ∷ c ++ e) (λ m r le. in_ors g a r (lift_all x m le)) (ors_operand t c e h hs is y z)

pub arrow_operand : {n : ℕ} {w : List Lexeme} {f : Ltl} → IsArrow n w f → Operand BeginsArrow n w
arrow_operand {n} {w} {f} (is_last x) = of_larger BeginsAny BeginsArrow w (λ m r. in_any) (any_operand w f x)
arrow_operand (is_implied {n = n} {f = f} w t v x is y) =
    let (q, u, g, e, z, open_) = arrow_operand y in (
      w ++ t ∷ q,
      u,
      g,
      ap (λ r. w ++ t ∷ r) e ∙ sym (append_assoc w (t ∷ q) u),
      lift_unary z (suc n) (omega arith),
      λ o h. subst (BeginsArrow (suc (suc n))) (sym (append_assoc w (t ∷ q) (o ∷ []))) (in_right f w t (q ++ o ∷ []) (lift_any x (suc (suc n)) (omega arith)) is (open_ o h)),
    )

pub formula_operand : {n : ℕ} {w : List Lexeme} {f : Ltl} → IsFormula n w f → Operand BeginsFormula n w
formula_operand {n} {w} {f} (is_arrow x) = of_larger BeginsArrow BeginsFormula w (λ m r. in_arrow) (arrow_operand x)
formula_operand (is_lone {n = n} {f = f} {g = g} w t op v x is y) = (
  w ++ t ∷ [],
  v,
  g,
  sym (append_assoc w (t ∷ []) v),
  y,
  λ o h. subst (BeginsFormula (suc n)) (sym (append_assoc w (t ∷ []) (o ∷ []))) (in_second f w t op (o ∷ []) (lift_unary x (suc n) (omega arith)) is (opening o h)),
)
