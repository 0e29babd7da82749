-- What reading a formula gives is a formula, and where it stops the tokens before begin one.
use Rattle.std.proofs.Common.{◌≡◌, ℕ, zero, suc, ◌<◌, ◌≤◌, true, false, List, [], ◌∷◌, ◌++◌, length, drop, Ok, Err, Some, sym, refl, ap, ◌∙◌, subst, arith, append_assoc, append-nil}
use Rattle.ltl_form.specs.declared.formulas.Ltl.{Ltl}
use Rattle.ltl_form.specs.declared.formulas.Ltl.TheVariants as ltl
use Rattle.tlsf_basic.specs.declared.faults.TextFault.{TextFault}
use Rattle.tlsf_basic.specs.declared.faults.TextFault.TheVariants.{TooDeep}
use Rattle.tlsf_basic.specs.declared.symbols.Unary.{Unary}
use Rattle.tlsf_basic.specs.declared.symbols.Lone.{Lone}
use Rattle.tlsf_basic.specs.declared.symbols.Symbol.{Symbol}
use Rattle.tlsf_basic.specs.declared.symbols.Symbol.TheVariants as s
use Rattle.tlsf_basic.specs.declared.symbols.Lexeme.{Lexeme}
use Rattle.tlsf_basic.specs.Reads.{Read, ◌>>=◌, front, misplaced_by}
use Rattle.tlsf_basic.specs.Marks.{is_and, is_or, is_close, closing}
use Rattle.tlsf_basic.specs.Formulas.{Deeper, atom_by, read_atom, read_prefixed, read_parens, unary_by, read_unary, one_more, read_conjuncts, all_by, read_all_from, read_all, read_disjuncts, any_by, read_any_from, read_implied, arrow_by, read_arrow_from, read_arrow, read_second, formula_by, read_formula, nested}
use Rattle.tlsf_basic.specs.Values.{with_unary, with_lone}
use Rattle.tlsf_basic.specs.Grammar.{atom_value, IsUnary, is_atom, is_parens, is_prefixed, IsAnds, no_and, and_more, IsAll, is_all, IsOrs, no_or, or_more, IsAny, is_any, IsArrow, is_last, is_implied, IsFormula, is_arrow, is_lone}
use Rattle.tlsf_basic.specs.Begins.{no_mark, BeginsUnary, nothing, in_parens, at_close, in_operand, BeginsAnds, in_and, BeginsAll, in_first, in_ands, BeginsOrs, whole_ors, in_or, BeginsAny, in_all, in_ors, BeginsArrow, in_any, in_right, BeginsFormula, in_arrow, in_second}
use Rattle.tlsf_basic.proofs.Good.{Texts, Stops, Others, By, Good, weaker, behind_token, then, past-then, gives, map_value, at_unexpected, choose, IsOne, StopsAt, at_token}
use Rattle.tlsf_basic.proofs.Loops.{run, loop_once}
use Rattle.tlsf_basic.proofs.FormulaOperand.{and_carried, or_carried, formula_operand}
use Rattle.tlsf_basic.proofs.Lift.{lift_unary, lift_all, lift_any}
use Rattle.tlsf_basic.proofs.Stopping.{ends_by, ends_operand, ends-append, ends-last, Operand, no_lack, Stop, not_expected, not_parenthesized, at_depth, lacking, Carried, stop_behind, stop_within}

abbrev pub StopOf : (ℕ → List Lexeme → Type 0) → ℕ → Stops
StopOf B n = Stop no_lack B n

pub and_is : (y : Symbol) → is_and y ≡ true → y ≡ s.And
and_is s.And e = refl
and_is y e = cc

pub or_is : (y : Symbol) → is_or y ≡ true → y ≡ s.Or
or_is s.Or e = refl
or_is y e = cc

-- a token before, with which no operand ends
ends_token : (t : Lexeme) (y : Symbol) → t.symbol ≡ y → ends_by y ≡ false → (p : List Lexeme) → ends_operand p ≡ false → ends_operand (t ∷ p) ≡ false
ends_token t y is quiet p e = ends-append (t ∷ []) p (ap ends_by is ∙ quiet) e

behind : (B1 B : ℕ → List Lexeme → Type 0) (n : ℕ) (t : Lexeme) (y : Symbol) → t.symbol ≡ y → ends_by y ≡ false → Carried B1 B n (t ∷ []) → (p : List Lexeme) (f : TextFault) (v : List Lexeme) → StopOf B1 n p f v → StopOf B n (t ∷ p) f v
behind B1 B n t y is quiet carry p f v stop = stop_behind no_lack no_lack B1 B n (t ∷ []) p f v carry (ends_token t y is quiet p) (λ part h. h) stop

within : (B1 B : ℕ → List Lexeme → Type 0) (n : ℕ) → ((m : ℕ) (r : List Lexeme) → B1 m r → B m r) → (p : List Lexeme) (f : TextFault) (v : List Lexeme) → StopOf B1 n p f v → StopOf B n p f v
within B1 B n carry p f v stop = stop_within no_lack B1 B n p f v carry stop

-- behind other tokens, where at least one was read
behind_filled : (B1 B : ℕ → List Lexeme → Type 0) (n : ℕ) (u : List Lexeme) (t : Lexeme) (p : List Lexeme) (f : TextFault) (v : List Lexeme) → Carried B1 B n u → StopOf B1 n (t ∷ p) f v → StopOf B n (u ++ t ∷ p) f v
behind_filled B1 B n u t p f v carry stop = stop_behind no_lack no_lack B1 B n u (t ∷ p) f v carry (λ e. ends-last u t p ∙ e) (λ part h. h) stop

abbrev Filled : List Lexeme → Type 0
Filled p = (t : Lexeme) × (w : List Lexeme) × (p ≡ t ∷ w)

abbrev pub Opened : ℕ → Texts Ltl
Opened n u f = ((c : Lexeme) → is_close c.symbol ≡ true → IsUnary n (u ++ c ∷ []) f) × BeginsUnary n u × Operand BeginsUnary n u

abbrev pub Implied : ℕ → Texts Ltl
Implied n u g = (w : List Lexeme) (f : Ltl) → IsAny n w f → IsArrow n (w ++ u) (ltl.Implies f g)

abbrev pub ImpliedStop : ℕ → Stops
ImpliedStop n p f v = (w : List Lexeme) (g : Ltl) → IsAny n w g → StopOf BeginsArrow n (w ++ p) f v

module _ (Fits : TextFault → Type 0) (n : ℕ) where
  -- what is read one level deeper
  pub record GoodDeeper (d d' : Deeper) : Type 0 where
    pub unary : (t : Lexeme) (ts : List Lexeme) (op : Unary) → t.symbol ≡ s.Unary op → Good Fits (λ u f. IsUnary n u (with_unary op f)) (StopOf BeginsUnary n) (By d'.unary) (t ∷ ts) (d.unary (t ∷ ts))
    pub formula : (t : Lexeme) (ts : List Lexeme) → t.symbol ≡ s.Open → Good Fits (Opened n) (StopOf BeginsUnary n) (By d'.formula) (t ∷ ts) (d.formula (t ∷ ts))
    pub arrow : (t : Lexeme) (ts : List Lexeme) → t.symbol ≡ s.Arrow → Good Fits (Implied n) (ImpliedStop n) (By d'.arrow) (t ∷ ts) (d.arrow (t ∷ ts))

  atom_one : (f : Ltl) (y : Symbol) (w : List Lexeme) → y ≡ front w → atom_value y ≡ Some f → (y ≡ s.End → ⊥) → Good Fits (IsUnary n) (StopOf BeginsUnary n) (By (λ x. Ok (f, drop 1 x))) w (Ok (f, drop 1 w))
  atom_one f y [] is e other = absurd (other is)
  atom_one f y (t ∷ ts) is e other = (t ∷ [], refl, is_atom t (ap atom_value (sym is) ∙ e), λ v al. refl)

  atom-go : (y : Symbol) (w : List Lexeme) → y ≡ front w → Good Fits (IsUnary n) (StopOf BeginsUnary n) (By (atom_by y)) w (atom_by y w)
  atom-go s.True w is = atom_one ltl.True s.True w is refl (λ e. cc)
  atom-go s.False w is = atom_one ltl.False s.False w is refl (λ e. cc)
  atom-go (s.Signal k) w is = atom_one (ltl.Signal k) (s.Signal k) w is refl (λ e. cc)
  atom-go s.Unknown w is = atom_one (ltl.Signal 4294967295) s.Unknown w is refl (λ e. cc)
  atom-go y w is = at_unexpected Fits (IsUnary n) (StopOf BeginsUnary n) w (not_expected nothing refl refl)

  at_atom : (w : List Lexeme) → Good Fits (IsUnary n) (StopOf BeginsUnary n) (By read_atom) w (read_atom w)
  unfolding read_atom
  at_atom w = choose Fits (IsUnary n) (StopOf BeginsUnary n) atom_by (front w) w (atom_by (front w) w) refl (atom-go (front w) w refl)

  module _ (d d' : Deeper) (k : GoodDeeper d d') where
    at_prefixed : (op : Unary) (w : List Lexeme) → s.Unary op ≡ front w → Good Fits (IsUnary n) (StopOf BeginsUnary n) (By (read_prefixed d' op)) w (read_prefixed d op w)
    unfolding read_prefixed
    at_prefixed op [] is = cc
    at_prefixed op (t ∷ ts) is =
        map_value Fits (λ u f. IsUnary n u (with_unary op f)) (IsUnary n) (StopOf BeginsUnary n) (StopOf BeginsUnary n) d'.unary (with_unary op) (t ∷ ts) (d.unary (t ∷ ts))
        (λ u a h. h) (λ p f v h. h) (k.unary t ts op (sym is))

    at_closing : (u : List Lexeme) (a : Ltl) (v : List Lexeme) → Opened n u a → Good Fits (λ x b. IsUnary n (u ++ x) b) (λ p f z. StopOf BeginsUnary n (u ++ p) f z) (By (λ y. closing is_close y >>= λ x. Ok (a, x))) v (closing is_close v >>= λ x. Ok (a, x))
    unfolding closing
    at_closing u a v (whole, begun, operand) =
        past-then Fits (IsOne is_close) (StopsAt is_close misplaced_by) (closing is_close) (λ x. Ok (a, x)) (λ x b. IsUnary n (u ++ x) b) (λ p f z. StopOf BeginsUnary n (u ++ p) f z) v (closing is_close v) (λ x. Ok (a, x))
        (at_token Fits is_close misplaced_by refl v)
        (λ p f z h. subst (λ y. StopOf BeginsUnary n y f z) (sym (append-nil u) ∙ ap (λ y. u ++ y) (sym h.0)) (not_parenthesized begun h.1 operand))
        (λ x z e h. gives Fits (λ y b. IsUnary n (u ++ (x ++ y)) b) (λ p f r. StopOf BeginsUnary n (u ++ (x ++ p)) f r) a z
        (subst (λ y. IsUnary n (u ++ y) a) (sym (append-nil x ∙ h.1)) (whole h.0 h.2)))

    at_parens : (w : List Lexeme) → s.Open ≡ front w → Good Fits (IsUnary n) (StopOf BeginsUnary n) (By (read_parens d')) w (read_parens d w)
    unfolding read_parens
    at_parens [] is = cc
    at_parens (t ∷ ts) is =
        then Fits (Opened n) (StopOf BeginsUnary n) d'.formula (λ r. closing is_close r.1 >>= λ v. Ok (r.0, v)) (IsUnary n) (StopOf BeginsUnary n) (t ∷ ts) (d.formula (t ∷ ts)) (λ r. closing is_close r.1 >>= λ v. Ok (r.0, v))
        (k.formula t ts (sym is)) (λ p f v h. h) (λ u a v e text. at_closing u a v text)

    unary-go : (y : Symbol) (w : List Lexeme) → y ≡ front w → Good Fits (IsUnary n) (StopOf BeginsUnary n) (By (unary_by y d')) w (unary_by y d w)
    unary-go (s.Unary op) w is = at_prefixed op w is
    unary-go s.Open w is = at_parens w is
    unary-go y w is = at_atom w

    pub at_unary : (w : List Lexeme) → Good Fits (IsUnary n) (StopOf BeginsUnary n) (By (read_unary d')) w (read_unary d w)
    unfolding read_unary
    at_unary w = choose Fits (IsUnary n) (StopOf BeginsUnary n) (λ y. unary_by y d') (front w) w (unary_by (front w) d w) refl (unary-go (front w) w refl)

    some_token : (u : List Lexeme) (t : Lexeme) (w : List Lexeme) → u ≡ t ∷ w → 0 < length u
    some_token u t w e = subst (λ y. 0 < length y) (sym e) (omega arith)

    -- chains of `&&`

    abbrev AndTurn : List Ltl → Texts (List Ltl)
    AndTurn fs u gs = (g : Ltl) × (gs ≡ fs ++ g ∷ []) × (t : Lexeme) × (w : List Lexeme) × (u ≡ t ∷ w) × (t.symbol ≡ s.And) × IsUnary n w g

    abbrev AndStop : Stops
    AndStop p f v = StopOf BeginsAnds n p f v × Filled p

    abbrev AndRest : List Ltl → Texts Ltl
    AndRest fs u b = (gs : List Ltl) × (b ≡ ltl.All (fs ++ gs)) × IsAnds n u gs

    and_turn : (fs : List Ltl) (w : List Lexeme) → is_and (front w) ≡ true → Good Fits (AndTurn fs) AndStop (By (one_more (read_unary d') fs)) w (one_more (read_unary d) fs w)
    and_turn fs [] go = cc
    and_turn fs (t ∷ ts) go =
        let is = and_is t.symbol go in
        map_value Fits (λ u g. (w : List Lexeme) × (u ≡ t ∷ w) × IsUnary n w g) (AndTurn fs) AndStop AndStop (λ x. read_unary d' (drop 1 x)) (λ f. fs ++ f ∷ []) (t ∷ ts) (read_unary d ts)
        (λ u a h. (a, refl, t, h.0, h.1, is, h.2)) (λ p f v h. h)
        (behind_token Fits (IsUnary n) (λ u g. (w : List Lexeme) × (u ≡ t ∷ w) × IsUnary n w g) (StopOf BeginsUnary n) AndStop (By (read_unary d')) (By (λ x. read_unary d' (drop 1 x))) t ts (read_unary d ts)
        (λ u a h. (u, refl, h)) (λ p f v h. (behind BeginsUnary BeginsAnds n t s.And is refl (λ m r le b. in_and [] [] t r no_and is b) p f v h, (t, p, refl))) (λ x q h. h) (at_unary ts))

    and_more_stop : (fs : List Ltl) (u : List Lexeme) (next : List Ltl) (p : List Lexeme) (f : TextFault) (v : List Lexeme) → AndTurn fs u next → AndStop p f v → AndStop (u ++ p) f v
    and_more_stop fs u next p f v (g, e, t, w, eu, is, x) (stop, (t', p', filled)) = (
      subst (λ y. StopOf BeginsAnds n (y ++ p) f v) (sym eu)
          (subst (λ y. StopOf BeginsAnds n (t ∷ w ++ y) f v) (sym filled)
          (behind_filled BeginsAnds BeginsAnds n (t ∷ w) t' p' f v (and_carried t w g is x) (subst (λ y. StopOf BeginsAnds n y f v) filled stop))),
      (t, w ++ p, ap (λ y. y ++ p) eu),
    )

    and_more_text : (fs : List Ltl) (u : List Lexeme) (next : List Ltl) (v : List Lexeme) (b : Ltl) → AndTurn fs u next → AndRest next v b → AndRest fs (u ++ v) b
    and_more_text fs u next v b (g, e, t, w, eu, is, x) (gs, eb, y) = (
      g ∷ gs,
      eb ∙ ap (λ z. ltl.All (z ++ gs)) e ∙ ap ltl.All (append_assoc fs (g ∷ []) gs),
      subst (λ z. IsAnds n (z ++ v) (g ∷ gs)) (sym eu) (and_more t w v is x y),
    )

    abbrev and_close : List Ltl → List Lexeme → Read Ltl
    and_close fs x = Ok (ltl.All fs, x)

    and_closed : (fs : List Ltl) (x : List Lexeme) → is_and (front x) ≡ false → Good Fits (AndRest fs) AndStop (By (and_close fs)) x (and_close fs x)
    and_closed fs x e = ([], refl, ([], ap ltl.All (sym (append-nil fs)), no_and), λ v al. refl)

    and_some : (fs : List Ltl) (u : List Lexeme) (next : List Ltl) → AndTurn fs u next → 0 < length u
    and_some fs u next (g, e, t, z, eu, is, x) = some_token u t z eu

    abbrev AndOnce : List Ltl → Texts Ltl
    AndOnce fs u b = (x : List Lexeme) × (next : List Ltl) × (z : List Lexeme) × (u ≡ x ++ z) × AndTurn fs x next × AndRest next z b

    abbrev AndLooped : List Ltl → Others Ltl
    AndLooped fs x q = (k : ℕ) → length x ≤ k → run is_and (one_more (read_unary d')) and_close k fs x ≡ q

    and_loop : (fs : List Ltl) (w : List Lexeme) → is_and (front w) ≡ true → Good Fits (AndOnce fs) AndStop (AndLooped fs) w (run is_and (one_more (read_unary d)) and_close (length w) fs w)
    and_loop fs w go =
        loop_once Fits is_and (one_more (read_unary d)) (one_more (read_unary d')) and_close and_close AndTurn (λ fs. AndStop) AndRest (λ fs. AndStop)
        and_turn and_closed (λ fs p f v h. h) and_more_text and_more_stop and_some
        (λ fs e. absurd (let x : false ≡ true = e in cc)) (λ fs e. absurd (let x : false ≡ true = e in cc)) w fs go refl

    abbrev AllFrom : Ltl → Texts Ltl
    AllFrom first u b = (w : List Lexeme) → IsUnary n w first → IsAll n (w ++ u) b

    abbrev AllStop : Ltl → Stops
    AllStop first p f v = (w : List Lexeme) → IsUnary n w first → StopOf BeginsAll n (w ++ p) f v

    all_from_once : (first : Ltl) (u : List Lexeme) (b : Ltl) → AndOnce (first ∷ []) u b → AllFrom first u b
    all_from_once first u b (x1, next, z, e, (g, en, t, q, eq, is, xg), (gs, eb, xs)) y x =
        subst (IsAll n (y ++ u)) (sym (eb ∙ ap (λ hs. ltl.All (hs ++ gs)) en))
        (subst (λ r. IsAll n (y ++ r) (ltl.All (first ∷ g ∷ gs))) (sym (e ∙ ap (λ r. r ++ z) eq))
        (is_all y (t ∷ q ++ z) x (and_more t q z is xg xs)))

    all_stop_once : (first : Ltl) (p : List Lexeme) (f : TextFault) (v : List Lexeme) → AndStop p f v → AllStop first p f v
    all_stop_once first p f v (stop, (t, q, e)) y x =
        subst (λ z. StopOf BeginsAll n (y ++ z) f v) (sym e)
        (behind_filled BeginsAnds BeginsAll n y t q f v (λ m r le b. in_ands first y r (lift_unary x m le) b) (subst (λ z. StopOf BeginsAnds n z f v) e stop))

    at_conjuncts : (first : Ltl) (w : List Lexeme) → is_and (front w) ≡ true → Good Fits (AllFrom first) (AllStop first) (By (read_conjuncts d' first)) w (read_conjuncts d first w)
    unfolding read_conjuncts
    at_conjuncts first w go =
        weaker Fits (AndOnce (first ∷ [])) (AllFrom first) AndStop (AllStop first) (AndLooped (first ∷ [])) (By (read_conjuncts d' first)) w
        (run is_and (one_more (read_unary d)) and_close (length w) (first ∷ []) w)
        (all_from_once first) (all_stop_once first) (λ x q h. h (length x) (omega arith)) (and_loop (first ∷ []) w go)

    all-go : (y : Symbol) (first : Ltl) (w : List Lexeme) → y ≡ front w → Good Fits (AllFrom first) (AllStop first) (By (all_by y d' first)) w (all_by y d first w)
    all-go s.And first w is = at_conjuncts first w (ap is_and (sym is))
    all-go y first w is = gives Fits (AllFrom first) (AllStop first) first w (λ y x. is_all y [] x no_and)

    at_all_from : (first : Ltl) (w : List Lexeme) → Good Fits (AllFrom first) (AllStop first) (By (read_all_from d' first)) w (read_all_from d first w)
    unfolding read_all_from
    at_all_from first w = choose Fits (AllFrom first) (AllStop first) (λ y. all_by y d' first) (front w) w (all_by (front w) d first w) refl (all-go (front w) first w refl)

    pub at_all : (w : List Lexeme) → Good Fits (IsAll n) (StopOf BeginsAll n) (By (read_all d')) w (read_all d w)
    unfolding read_all
    at_all w =
        then Fits (IsUnary n) (StopOf BeginsUnary n) (read_unary d') (λ r. read_all_from d' r.0 r.1) (IsAll n) (StopOf BeginsAll n) w (read_unary d w) (λ r. read_all_from d r.0 r.1)
        (at_unary w) (λ p f v h. within BeginsUnary BeginsAll n (λ m r. in_first) p f v h)
        (λ u a v e text. weaker Fits (AllFrom a) (λ x b. IsAll n (u ++ x) b) (AllStop a) (λ p f z. StopOf BeginsAll n (u ++ p) f z) (By (read_all_from d' a)) (By (read_all_from d' a)) v (read_all_from d a v)
        (λ x b h. h u text) (λ p f z h. h u text) (λ x q h. h) (at_all_from a v))

    -- chains of `||`

    abbrev OrTurn : List Ltl → Texts (List Ltl)
    OrTurn fs u gs = (g : Ltl) × (gs ≡ fs ++ g ∷ []) × (t : Lexeme) × (w : List Lexeme) × (u ≡ t ∷ w) × (t.symbol ≡ s.Or) × IsAll n w g

    abbrev OrStop : Stops
    OrStop p f v = StopOf BeginsOrs n p f v × Filled p

    abbrev OrRest : List Ltl → Texts Ltl
    OrRest fs u b = (gs : List Ltl) × (b ≡ ltl.Any (fs ++ gs)) × IsOrs n u gs

    or_turn : (fs : List Ltl) (w : List Lexeme) → is_or (front w) ≡ true → Good Fits (OrTurn fs) OrStop (By (one_more (read_all d') fs)) w (one_more (read_all d) fs w)
    or_turn fs [] go = cc
    or_turn fs (t ∷ ts) go =
        let is = or_is t.symbol go in
        map_value Fits (λ u g. (w : List Lexeme) × (u ≡ t ∷ w) × IsAll n w g) (OrTurn fs) OrStop OrStop (λ x. read_all d' (drop 1 x)) (λ f. fs ++ f ∷ []) (t ∷ ts) (read_all d ts)
        (λ u a h. (a, refl, t, h.0, h.1, is, h.2)) (λ p f v h. h)
        (behind_token Fits (IsAll n) (λ u g. (w : List Lexeme) × (u ≡ t ∷ w) × IsAll n w g) (StopOf BeginsAll n) OrStop (By (read_all d')) (By (λ x. read_all d' (drop 1 x))) t ts (read_all d ts)
        (λ u a h. (u, refl, h)) (λ p f v h. (behind BeginsAll BeginsOrs n t s.Or is refl (λ m r le b. in_or [] [] t r no_or is b) p f v h, (t, p, refl))) (λ x q h. h) (at_all ts))

    or_more_stop : (fs : List Ltl) (u : List Lexeme) (next : List Ltl) (p : List Lexeme) (f : TextFault) (v : List Lexeme) → OrTurn fs u next → OrStop p f v → OrStop (u ++ p) f v
    or_more_stop fs u next p f v (g, e, t, w, eu, is, x) (stop, (t', p', filled)) = (
      subst (λ y. StopOf BeginsOrs n (y ++ p) f v) (sym eu)
          (subst (λ y. StopOf BeginsOrs n (t ∷ w ++ y) f v) (sym filled)
          (behind_filled BeginsOrs BeginsOrs n (t ∷ w) t' p' f v (or_carried t w g is x) (subst (λ y. StopOf BeginsOrs n y f v) filled stop))),
      (t, w ++ p, ap (λ y. y ++ p) eu),
    )

    or_more_text : (fs : List Ltl) (u : List Lexeme) (next : List Ltl) (v : List Lexeme) (b : Ltl) → OrTurn fs u next → OrRest next v b → OrRest fs (u ++ v) b
    or_more_text fs u next v b (g, e, t, w, eu, is, x) (gs, eb, y) = (
      g ∷ gs,
      eb ∙ ap (λ z. ltl.Any (z ++ gs)) e ∙ ap ltl.Any (append_assoc fs (g ∷ []) gs),
      subst (λ z. IsOrs n (z ++ v) (g ∷ gs)) (sym eu) (or_more t w v is x y),
    )

    abbrev or_close : List Ltl → List Lexeme → Read Ltl
    or_close fs x = Ok (ltl.Any fs, x)

    or_closed : (fs : List Ltl) (x : List Lexeme) → is_or (front x) ≡ false → Good Fits (OrRest fs) OrStop (By (or_close fs)) x (or_close fs x)
    or_closed fs x e = ([], refl, ([], ap ltl.Any (sym (append-nil fs)), no_or), λ v al. refl)

    or_some : (fs : List Ltl) (u : List Lexeme) (next : List Ltl) → OrTurn fs u next → 0 < length u
    or_some fs u next (g, e, t, z, eu, is, x) = some_token u t z eu

    abbrev OrOnce : List Ltl → Texts Ltl
    OrOnce fs u b = (x : List Lexeme) × (next : List Ltl) × (z : List Lexeme) × (u ≡ x ++ z) × OrTurn fs x next × OrRest next z b

    abbrev OrLooped : List Ltl → Others Ltl
    OrLooped fs x q = (k : ℕ) → length x ≤ k → run is_or (one_more (read_all d')) or_close k fs x ≡ q

    or_loop : (fs : List Ltl) (w : List Lexeme) → is_or (front w) ≡ true → Good Fits (OrOnce fs) OrStop (OrLooped fs) w (run is_or (one_more (read_all d)) or_close (length w) fs w)
    or_loop fs w go =
        loop_once Fits is_or (one_more (read_all d)) (one_more (read_all d')) or_close or_close OrTurn (λ fs. OrStop) OrRest (λ fs. OrStop)
        or_turn or_closed (λ fs p f v h. h) or_more_text or_more_stop or_some
        (λ fs e. absurd (let x : false ≡ true = e in cc)) (λ fs e. absurd (let x : false ≡ true = e in cc)) w fs go refl

    abbrev JoinedFrom : Ltl → Texts Ltl
    JoinedFrom first u b = (w : List Lexeme) → IsAll n w first → IsAny n (w ++ u) b

    abbrev JoinedStop : Ltl → Stops
    JoinedStop first p f v = (w : List Lexeme) → IsAll n w first → StopOf BeginsAny n (w ++ p) f v

    joined_from_once : (first : Ltl) (u : List Lexeme) (b : Ltl) → OrOnce (first ∷ []) u b → JoinedFrom first u b
    joined_from_once first u b (x1, next, z, e, (g, en, t, q, eq, is, xg), (gs, eb, xs)) y x =
        subst (IsAny n (y ++ u)) (sym (eb ∙ ap (λ hs. ltl.Any (hs ++ gs)) en))
        (subst (λ r. IsAny n (y ++ r) (ltl.Any (first ∷ g ∷ gs))) (sym (e ∙ ap (λ r. r ++ z) eq))
        (is_any y (t ∷ q ++ z) x (or_more t q z is xg xs)))

    joined_stop_once : (first : Ltl) (p : List Lexeme) (f : TextFault) (v : List Lexeme) → OrStop p f v → JoinedStop first p f v
    joined_stop_once first p f v (stop, (t, q, e)) y x =
        subst (λ z. StopOf BeginsAny n (y ++ z) f v) (sym e)
        (behind_filled BeginsOrs BeginsAny n y t q f v (λ m r le b. in_ors first y r (lift_all x m le) b) (subst (λ z. StopOf BeginsOrs n z f v) e stop))

    at_disjuncts : (first : Ltl) (w : List Lexeme) → is_or (front w) ≡ true → Good Fits (JoinedFrom first) (JoinedStop first) (By (read_disjuncts d' first)) w (read_disjuncts d first w)
    unfolding read_disjuncts
    at_disjuncts first w go =
        weaker Fits (OrOnce (first ∷ [])) (JoinedFrom first) OrStop (JoinedStop first) (OrLooped (first ∷ [])) (By (read_disjuncts d' first)) w
        (run is_or (one_more (read_all d)) or_close (length w) (first ∷ []) w)
        (joined_from_once first) (joined_stop_once first) (λ x q h. h (length x) (omega arith)) (or_loop (first ∷ []) w go)

    joined-go : (y : Symbol) (first : Ltl) (w : List Lexeme) → y ≡ front w → Good Fits (JoinedFrom first) (JoinedStop first) (By (any_by y d' first)) w (any_by y d first w)
    joined-go s.Or first w is = at_disjuncts first w (ap is_or (sym is))
    joined-go y first w is = gives Fits (JoinedFrom first) (JoinedStop first) first w (λ y x. is_any y [] x no_or)

    at_joined : (first : Ltl) (w : List Lexeme) → Good Fits (JoinedFrom first) (JoinedStop first) (By (λ x. any_by (front x) d' first x)) w (any_by (front w) d first w)
    at_joined first w = choose Fits (JoinedFrom first) (JoinedStop first) (λ y. any_by y d' first) (front w) w (any_by (front w) d first w) refl (joined-go (front w) first w refl)

    abbrev AnyFrom : Ltl → Texts Ltl
    AnyFrom first u b = (w : List Lexeme) → IsUnary n w first → IsAny n (w ++ u) b

    abbrev AnyStop : Ltl → Stops
    AnyStop first p f v = (w : List Lexeme) → IsUnary n w first → StopOf BeginsAny n (w ++ p) f v

    at_any_from : (first : Ltl) (w : List Lexeme) → Good Fits (AnyFrom first) (AnyStop first) (By (read_any_from d' first)) w (read_any_from d first w)
    unfolding read_any_from
    at_any_from first w =
        then Fits (AllFrom first) (AllStop first) (read_all_from d' first) (λ r. any_by (front r.1) d' r.0 r.1) (AnyFrom first) (AnyStop first) w (read_all_from d first w) (λ r. any_by (front r.1) d r.0 r.1)
        (at_all_from first w) (λ p f v h y x. within BeginsAll BeginsAny n (λ m r. in_all) (y ++ p) f v (h y x))
        (λ u a v e text. weaker Fits (JoinedFrom a) (λ x b. AnyFrom first (u ++ x) b) (JoinedStop a) (λ p f z. AnyStop first (u ++ p) f z) (By (λ x. any_by (front x) d' a x)) (By (λ x. any_by (front x) d' a x)) v (any_by (front v) d a v)
        (λ x b h y z. subst (λ q. IsAny n q b) (append_assoc y u x) (h (y ++ u) (text y z)))
        (λ p f z h y q. subst (λ r. StopOf BeginsAny n r f z) (append_assoc y u p) (h (y ++ u) (text y q))) (λ x q h. h) (at_joined a v))

    -- `->`

    abbrev SideFrom : Ltl → Texts Ltl
    SideFrom left u b = (w : List Lexeme) → IsAny n w left → IsArrow n (w ++ u) b

    abbrev SideStop : Ltl → Stops
    SideStop left p f v = (w : List Lexeme) → IsAny n w left → StopOf BeginsArrow n (w ++ p) f v

    at_implied : (left : Ltl) (w : List Lexeme) → s.Arrow ≡ front w → Good Fits (SideFrom left) (SideStop left) (By (read_implied d' left)) w (read_implied d left w)
    unfolding read_implied
    at_implied left [] is = cc
    at_implied left (t ∷ ts) is =
        map_value Fits (Implied n) (SideFrom left) (ImpliedStop n) (SideStop left) d'.arrow (ltl.Implies left) (t ∷ ts) (d.arrow (t ∷ ts))
        (λ u a h w x. h w left x) (λ p f v h w x. h w left x) (k.arrow t ts (sym is))

    side-go : (y : Symbol) (left : Ltl) (w : List Lexeme) → y ≡ front w → Good Fits (SideFrom left) (SideStop left) (By (arrow_by y d' left)) w (arrow_by y d left w)
    side-go s.Arrow left w is = at_implied left w is
    side-go y left w is = gives Fits (SideFrom left) (SideStop left) left w (λ y x. subst (λ z. IsArrow n z left) (sym (append-nil y)) (is_last x))

    at_side : (left : Ltl) (w : List Lexeme) → Good Fits (SideFrom left) (SideStop left) (By (λ x. arrow_by (front x) d' left x)) w (arrow_by (front w) d left w)
    at_side left w = choose Fits (SideFrom left) (SideStop left) (λ y. arrow_by y d' left) (front w) w (arrow_by (front w) d left w) refl (side-go (front w) left w refl)

    abbrev ArrowFrom : Ltl → Texts Ltl
    ArrowFrom first u b = (w : List Lexeme) → IsUnary n w first → IsArrow n (w ++ u) b

    abbrev ArrowStop : Ltl → Stops
    ArrowStop first p f v = (w : List Lexeme) → IsUnary n w first → StopOf BeginsArrow n (w ++ p) f v

    at_arrow_from : (first : Ltl) (w : List Lexeme) → Good Fits (ArrowFrom first) (ArrowStop first) (By (read_arrow_from d' first)) w (read_arrow_from d first w)
    unfolding read_arrow_from
    at_arrow_from first w =
        then Fits (AnyFrom first) (AnyStop first) (read_any_from d' first) (λ r. arrow_by (front r.1) d' r.0 r.1) (ArrowFrom first) (ArrowStop first) w (read_any_from d first w) (λ r. arrow_by (front r.1) d r.0 r.1)
        (at_any_from first w) (λ p f v h y x. within BeginsAny BeginsArrow n (λ m r. in_any) (y ++ p) f v (h y x))
        (λ u a v e text. weaker Fits (SideFrom a) (λ x b. ArrowFrom first (u ++ x) b) (SideStop a) (λ p f z. ArrowStop first (u ++ p) f z) (By (λ x. arrow_by (front x) d' a x)) (By (λ x. arrow_by (front x) d' a x)) v (arrow_by (front v) d a v)
        (λ x b h y z. subst (λ q. IsArrow n q b) (append_assoc y u x) (h (y ++ u) (text y z)))
        (λ p f z h y q. subst (λ r. StopOf BeginsArrow n r f z) (append_assoc y u p) (h (y ++ u) (text y q))) (λ x q h. h) (at_side a v))

    pub at_arrow : (w : List Lexeme) → Good Fits (IsArrow n) (StopOf BeginsArrow n) (By (read_arrow d')) w (read_arrow d w)
    unfolding read_arrow
    at_arrow w =
        then Fits (IsUnary n) (StopOf BeginsUnary n) (read_unary d') (λ r. read_arrow_from d' r.0 r.1) (IsArrow n) (StopOf BeginsArrow n) w (read_unary d w) (λ r. read_arrow_from d r.0 r.1)
        (at_unary w) (λ p f v h. within BeginsUnary BeginsArrow n (λ m r b. in_any (in_all (in_first b))) p f v h)
        (λ u a v e text. weaker Fits (ArrowFrom a) (λ x b. IsArrow n (u ++ x) b) (ArrowStop a) (λ p f z. StopOf BeginsArrow n (u ++ p) f z) (By (read_arrow_from d' a)) (By (read_arrow_from d' a)) v (read_arrow_from d a v)
        (λ x b h. h u text) (λ p f z h. h u text) (λ x q h. h) (at_arrow_from a v))

    -- formulas

    abbrev FormulaFrom : Ltl → Texts Ltl
    FormulaFrom first u b = (w : List Lexeme) → IsUnary n w first → IsFormula n (w ++ u) b

    abbrev FormulaStop : Ltl → Stops
    FormulaStop first p f v = (w : List Lexeme) → IsUnary n w first → StopOf BeginsFormula n (w ++ p) f v

    abbrev SecondBegins : Lexeme → ℕ → List Lexeme → Type 0
    SecondBegins t m r = (q : List Lexeme) × (r ≡ t ∷ q) × BeginsUnary m q

    at_second : (op : Lone) (first : Ltl) (w : List Lexeme) → s.Lone op ≡ front w → Good Fits (FormulaFrom first) (FormulaStop first) (By (read_second d' op first)) w (read_second d op first w)
    unfolding read_second
    at_second op first [] is = cc
    at_second op first (t ∷ ts) is =
        map_value Fits (λ u g. (w : List Lexeme) × (u ≡ t ∷ w) × IsUnary n w g) (FormulaFrom first) (FormulaStop first) (FormulaStop first) (λ x. read_unary d' (drop 1 x)) (with_lone op first) (t ∷ ts) (read_unary d ts)
        (λ u a h y x. subst (λ z. IsFormula n (y ++ z) (with_lone op first a)) (sym h.1) (is_lone y t op h.0 x (sym is) h.2)) (λ p f v h. h)
        (behind_token Fits (IsUnary n) (λ u g. (w : List Lexeme) × (u ≡ t ∷ w) × IsUnary n w g) (StopOf BeginsUnary n) (FormulaStop first) (By (read_unary d')) (By (λ x. read_unary d' (drop 1 x))) t ts (read_unary d ts)
        (λ u a h. (u, refl, h))
        (λ p f v h y x. behind_filled (SecondBegins t) BeginsFormula n y t p f v
        (λ m r le b. subst (λ z. BeginsFormula m (y ++ z)) (sym b.1) (in_second first y t op b.0 (lift_unary x m le) (sym is) b.2))
        (behind BeginsUnary (SecondBegins t) n t (s.Lone op) (sym is) refl (λ m r le b. (r, refl, b)) p f v h))
        (λ x q h. h) (at_unary ts))

    formula-go : (y : Symbol) (first : Ltl) (w : List Lexeme) → y ≡ front w → Good Fits (FormulaFrom first) (FormulaStop first) (By (formula_by y d' first)) w (formula_by y d first w)
    formula-go (s.Lone op) first w is = at_second op first w is
    formula-go y first w is =
        weaker Fits (ArrowFrom first) (FormulaFrom first) (ArrowStop first) (FormulaStop first) (By (read_arrow_from d' first)) (By (read_arrow_from d' first)) w (read_arrow_from d first w)
        (λ u a h y x. is_arrow (h y x)) (λ p f v h y x. within BeginsArrow BeginsFormula n (λ m r. in_arrow) (y ++ p) f v (h y x)) (λ x q h. h) (at_arrow_from first w)

    at_formula_from : (first : Ltl) (w : List Lexeme) → Good Fits (FormulaFrom first) (FormulaStop first) (By (λ x. formula_by (front x) d' first x)) w (formula_by (front w) d first w)
    at_formula_from first w = choose Fits (FormulaFrom first) (FormulaStop first) (λ y. formula_by y d' first) (front w) w (formula_by (front w) d first w) refl (formula-go (front w) first w refl)

    pub at_formula : (w : List Lexeme) → Good Fits (IsFormula n) (StopOf BeginsFormula n) (By (read_formula d')) w (read_formula d w)
    unfolding read_formula
    at_formula w =
        then Fits (IsUnary n) (StopOf BeginsUnary n) (read_unary d') (λ r. formula_by (front r.1) d' r.0 r.1) (IsFormula n) (StopOf BeginsFormula n) w (read_unary d w) (λ r. formula_by (front r.1) d r.0 r.1)
        (at_unary w) (λ p f v h. within BeginsUnary BeginsFormula n (λ m r b. in_arrow (in_any (in_all (in_first b)))) p f v h)
        (λ u a v e text. weaker Fits (FormulaFrom a) (λ x b. IsFormula n (u ++ x) b) (FormulaStop a) (λ p f z. StopOf BeginsFormula n (u ++ p) f z) (By (λ x. formula_by (front x) d' a x)) (By (λ x. formula_by (front x) d' a x)) v (formula_by (front v) d a v)
        (λ x b h. h u text) (λ p f z h. h u text) (λ x q h. h) (at_formula_from a v))

-- one level deeper

abbrev Shifted : (ℕ → List Lexeme → Type 0) → ℕ → List Lexeme → Type 0
Shifted B m r = (j : ℕ) × (m ≡ suc j) × B j r

shift : (B : ℕ → List Lexeme → Type 0) (n : ℕ) (p : List Lexeme) (f : TextFault) (v : List Lexeme) → StopOf B n p f v → StopOf (Shifted B) (suc n) p f v
shift B n p f v (not_expected b fault e) = not_expected (n, refl, b) fault e
shift B n p f v (not_parenthesized b fault (q, u, g, e, x, open_)) = not_parenthesized (n, refl, b) fault (q, u, g, e, lift_unary x (suc n) (omega arith), λ o h. (suc n, refl, open_ o h))
shift B n p f v (at_depth t rest b fault is more) = at_depth t rest (n, refl, b) fault is (suc n, refl, more)
shift B n p f v (lacking part b fault m) = absurd m

abbrev RightBegins : Lexeme → ℕ → List Lexeme → Type 0
RightBegins t m r = (q : List Lexeme) × (r ≡ t ∷ q) × Shifted BeginsArrow m q

any_begins : {n : ℕ} {w : List Lexeme} {f : Ltl} → IsAny n w f → BeginsArrow n w
any_begins (is_any {f = f} {fs = fs} w v x y) = in_any (in_ors f w v x (whole_ors fs v y))

right_carried : (n : ℕ) (w : List Lexeme) (g : Ltl) (t : Lexeme) → t.symbol ≡ s.Arrow → IsAny (suc n) w g → Carried (RightBegins t) BeginsArrow (suc n) w
right_carried n w g t is x m r le (q, e, (j, em, b)) =
    subst (λ z. BeginsArrow m (w ++ z)) (sym e) (subst (λ z. BeginsArrow z (w ++ t ∷ q)) (sym em) (in_right g w t q (lift_any x (suc j) (omega (arith, le, em))) is b))

right_stop : (n : ℕ) (w : List Lexeme) (g : Ltl) (t : Lexeme) → t.symbol ≡ s.Arrow → IsAny (suc n) w g → (p : List Lexeme) (f : TextFault) (v : List Lexeme) → StopOf BeginsArrow n p f v → StopOf BeginsArrow (suc n) (w ++ t ∷ p) f v
right_stop n w g t is x p f v stop =
    behind_filled (RightBegins t) BeginsArrow (suc n) w t p f v (right_carried n w g t is x)
    (behind (Shifted BeginsArrow) (RightBegins t) (suc n) t s.Arrow is refl (λ m r le b. (r, refl, b)) p f v (shift BeginsArrow n p f v stop))

opened : (n : ℕ) (t : Lexeme) (u : List Lexeme) (a : Ltl) → t.symbol ≡ s.Open → IsFormula n u a → Opened (suc n) (t ∷ u) a
opened n t u a is h =
    let (q, x, g, e, y, open_) = formula_operand h in (
      (λ c e. is_parens t c u is h e),
      subst (λ z. BeginsUnary (suc n) (t ∷ z)) (append-nil u) (at_close a t u [] is h no_mark),
      (t ∷ q, x, g, ap (λ z. t ∷ z) e, lift_unary y (suc n) (omega arith), λ o i. in_parens t (q ++ o ∷ []) is (open_ o i)),
    )

module _ (Fits : TextFault → Type 0) where
  -- the one reading has as many levels as the other, or the fault isn't that there are too few
  pub at_nested : (n m : ℕ) → n ≤ m → (Fits TooDeep → n ≡ m) → GoodDeeper Fits n (nested n) (nested m)
  unfolding nested
  at_nested zero m le fits = record {
    unary = λ t ts op is. out (λ u f. IsUnary zero u (with_unary op f)) (StopOf BeginsUnary zero) (λ d. d.unary) (λ w. refl) t ts (at_depth t ts nothing refl refl (in_operand t op [] is nothing));
    formula = λ t ts is. out (Opened zero) (StopOf BeginsUnary zero) (λ d. d.formula) (λ w. refl) t ts (at_depth t ts nothing refl refl (in_parens t [] is (in_arrow (in_any (in_all (in_first nothing))))));
    arrow = λ t ts is. out (Implied zero) (ImpliedStop zero) (λ d. d.arrow) (λ w. refl) t ts
        (λ w g x. subst (λ z. StopOf BeginsArrow zero z TooDeep (t ∷ ts)) (sym (append-nil w))
        (at_depth t ts (any_begins x) refl refl (in_right g w t [] (lift_any x 1 (omega arith)) is (in_any (in_all (in_first nothing))))));
  } where
    out : (T : Texts Ltl) (S : Stops) (pick : Deeper → List Lexeme → Read Ltl) → ((w : List Lexeme) → pick (nested zero) w ≡ Err (TooDeep, w)) → (t : Lexeme) (ts : List Lexeme) → S [] TooDeep (t ∷ ts) → Good Fits T S (By (pick (nested m))) (t ∷ ts) (Err (TooDeep, t ∷ ts))
    out T S pick none t ts stop = ([], refl, stop, λ f v al. ap (λ k. pick (nested k) v) (sym (fits f)) ∙ none v)
  at_nested (suc n) zero le fits = absurd (omega (arith, le))
  at_nested (suc n) (suc m) le fits =
      let k = at_nested n m (omega (arith, le)) (λ f. let e : suc n ≡ suc m = fits f in omega (arith, e)) in
      record {
        unary = λ t ts op is. behind_token Fits (IsUnary n) (λ u f. IsUnary (suc n) u (with_unary op f)) (StopOf BeginsUnary n) (StopOf BeginsUnary (suc n)) (By (read_unary (nested m))) (By (λ x. read_unary (nested m) (drop 1 x))) t ts (read_unary (nested n) ts)
            (λ u a h. is_prefixed t op u is h)
            (λ p f v h. behind (Shifted BeginsUnary) BeginsUnary (suc n) t (s.Unary op) is refl (λ i r le b. subst (λ z. BeginsUnary z (t ∷ r)) (sym b.1) (in_operand t op r is b.2)) p f v (shift BeginsUnary n p f v h))
            (λ x q h. h) (at_unary Fits n (nested n) (nested m) k ts);
        formula = λ t ts is. behind_token Fits (IsFormula n) (Opened (suc n)) (StopOf BeginsFormula n) (StopOf BeginsUnary (suc n)) (By (read_formula (nested m))) (By (λ x. read_formula (nested m) (drop 1 x))) t ts (read_formula (nested n) ts)
            (λ u a h. opened n t u a is h)
            (λ p f v h. behind (Shifted BeginsFormula) BeginsUnary (suc n) t s.Open is refl (λ i r le b. subst (λ z. BeginsUnary z (t ∷ r)) (sym b.1) (in_parens t r is b.2)) p f v (shift BeginsFormula n p f v h))
            (λ x q h. h) (at_formula Fits n (nested n) (nested m) k ts);
        arrow = λ t ts is. behind_token Fits (IsArrow n) (Implied (suc n)) (StopOf BeginsArrow n) (ImpliedStop (suc n)) (By (read_arrow (nested m))) (By (λ x. read_arrow (nested m) (drop 1 x))) t ts (read_arrow (nested n) ts)
            (λ u a h w f x. is_implied w t u x is h)
            (λ p f v h w g x. right_stop n w g t is x p f v h)
            (λ x q h. h) (at_arrow Fits n (nested n) (nested m) k ts);
      }

  pub at_formula_of : (n m : ℕ) → n ≤ m → (Fits TooDeep → n ≡ m) → (w : List Lexeme) → Good Fits (IsFormula n) (StopOf BeginsFormula n) (By (read_formula (nested m))) w (read_formula (nested n) w)
  at_formula_of n m le fits w = at_formula Fits n (nested n) (nested m) (at_nested n m le fits) w
