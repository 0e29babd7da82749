-- Each text of a formula is read as its value, where what stands behind it doesn't go on with the formula.
use Rattle.std.proofs.Common.{◌≡◌, ℕ, zero, suc, ◌≤◌, Bool, true, false, List, [], ◌∷◌, ◌++◌, length, Ok, Some, sym, refl, ap, ◌∙◌, arith, append_assoc, append-nil, length-append}
use Rattle.std.proofs.lemmas.Option.{same_Some}
use Rattle.ltl_form.specs.declared.formulas.Ltl.{Ltl}
use Rattle.ltl_form.specs.declared.formulas.Ltl.TheVariants as ltl
use Rattle.tlsf_basic.specs.declared.symbols.Symbol.{Symbol}
use Rattle.tlsf_basic.specs.declared.symbols.Symbol.TheVariants as s
use Rattle.tlsf_basic.specs.declared.symbols.Lexeme.{Lexeme}
use Rattle.tlsf_basic.specs.Reads.{Read, ◌>>=◌, front, turns}
use Rattle.tlsf_basic.specs.Marks.{is_and, is_or, is_close, closing}
use Rattle.tlsf_basic.specs.Formulas.{Deeper, atom_by, read_atom, read_prefixed, read_parens, unary_by, read_unary, one_more, read_conjuncts, all_by, read_all_from, read_all, read_disjuncts, any_by, read_any_from, read_implied, arrow_by, read_arrow_from, read_arrow, read_second, formula_by, read_formula, nested}
use Rattle.tlsf_basic.specs.Values.{with_unary, with_lone}
use Rattle.tlsf_basic.specs.Grammar.{atom_value, all_of, any_of, IsUnary, is_atom, is_parens, is_prefixed, IsAnds, no_and, and_more, IsAll, is_all, IsOrs, no_or, or_more, IsAny, is_any, IsArrow, is_last, is_implied, IsFormula, is_arrow, is_lone}
use Rattle.tlsf_basic.proofs.Turns.{turns_end, one_turn}

abbrev pub arrows : Symbol → Bool
arrows s.Arrow = true
arrows _ = false

abbrev pub lones : Symbol → Bool
lones (s.Lone op) = true
lones _ = false

-- what doesn't go on with a chain
abbrev pub PastAny : Symbol → Type 0
PastAny y = (is_and y ≡ false) × (is_or y ≡ false)

abbrev pub PastArrow : Symbol → Type 0
PastArrow y = PastAny y × (arrows y ≡ false)

abbrev pub PastFormula : Symbol → Type 0
PastFormula y = PastArrow y × (lones y ≡ false)

atom_reads : (y : Symbol) (f : Ltl) (t : Lexeme) (v : List Lexeme) → atom_value y ≡ Some f → atom_by y (t ∷ v) ≡ Ok (f, v)
atom_reads s.True f t v e = ap (λ g. Ok (g, v)) (same_Some ltl.True f e)
atom_reads s.False f t v e = ap (λ g. Ok (g, v)) (same_Some ltl.False f e)
atom_reads (s.Signal k) f t v e = ap (λ g. Ok (g, v)) (same_Some (ltl.Signal k) f e)
atom_reads s.Unknown f t v e = ap (λ g. Ok (g, v)) (same_Some (ltl.Signal 4294967295) f e)
atom_reads y f t v e = cc

unary_atom : (y : Symbol) (f : Ltl) (d : Deeper) (w : List Lexeme) → atom_value y ≡ Some f → unary_by y d w ≡ read_atom w
unary_atom s.True f d w e = refl
unary_atom s.False f d w e = refl
unary_atom (s.Signal k) f d w e = refl
unary_atom s.Unknown f d w e = refl
unary_atom y f d w e = cc

reads_atom : (f : Ltl) (d : Deeper) (t : Lexeme) (v : List Lexeme) → atom_value t.symbol ≡ Some f → read_unary d (t ∷ v) ≡ Ok (f, v)
unfolding read_unary read_atom
reads_atom f d t v e = unary_atom t.symbol f d (t ∷ v) e ∙ atom_reads t.symbol f t v e

closes : (c : Lexeme) (v : List Lexeme) → is_close c.symbol ≡ true → closing is_close (c ∷ v) ≡ Ok v
unfolding closing
closes c v e = rw e refl

past_close : (y : Symbol) → is_close y ≡ true → PastFormula y
past_close s.Close e = (((refl, refl), refl), refl)
past_close y e = cc

reads_parens : (f : Ltl) (m : ℕ) (t c : Lexeme) (w v : List Lexeme) → t.symbol ≡ s.Open → is_close c.symbol ≡ true → read_formula (nested m) (w ++ c ∷ v) ≡ Ok (f, c ∷ v) → read_unary (nested (suc m)) ((t ∷ w ++ c ∷ []) ++ v) ≡ Ok (f, v)
unfolding read_unary read_parens nested
reads_parens f m t c w v open_ close_ inner =
    ap (λ y. unary_by y (nested (suc m)) (t ∷ (w ++ c ∷ []) ++ v)) open_
    ∙ ap (λ x. read_formula (nested m) x >>= λ r. closing is_close r.1 >>= λ z. Ok (r.0, z)) (append_assoc w (c ∷ []) v)
    ∙ ap (λ r. r >>= λ r. closing is_close r.1 >>= λ z. Ok (r.0, z)) inner
    ∙ ap (λ r. r >>= λ z. Ok (f, z)) (closes c v close_)

reads_prefixed : (f : Ltl) (m : ℕ) (t : Lexeme) (op : _) (w v : List Lexeme) → t.symbol ≡ s.Unary op → read_unary (nested m) (w ++ v) ≡ Ok (f, v) → read_unary (nested (suc m)) (t ∷ w ++ v) ≡ Ok (with_unary op f, v)
unfolding read_unary read_prefixed nested
reads_prefixed f m t op w v is inner =
    ap (λ y. unary_by y (nested (suc m)) (t ∷ w ++ v)) is ∙ ap (λ r. r >>= λ r. Ok (with_unary op r.0, r.1)) inner

abbrev pushed : List Ltl → Read Ltl → Read (List Ltl)
pushed done q = q >>= λ r. Ok (done ++ r.0 ∷ [], r.1)

-- one more operand of a chain, and the others
reads_more : (goes : Symbol → Bool) (read : List Lexeme → Read Ltl) (f : Ltl) (fs done : List Ltl) (k : ℕ) (t : Lexeme) (w z v : List Lexeme) → goes t.symbol ≡ true → read (w ++ (z ++ v)) ≡ Ok (f, z ++ v)
    → ((j : ℕ) → length (z ++ v) ≤ j → turns goes (one_more read) j (done ++ f ∷ []) (z ++ v) ≡ Ok ((done ++ f ∷ []) ++ fs, v))
    → length ((t ∷ w ++ z) ++ v) ≤ k → turns goes (one_more read) k done ((t ∷ w ++ z) ++ v) ≡ Ok (done ++ f ∷ fs, v)
reads_more goes read f fs done zero t w z v go one others len = absurd (omega (arith, len))
reads_more goes read f fs done (suc k) t w z v go one others len =
    let shorter : length (z ++ v) ≤ k = omega (arith, len, length-append (w ++ z) v, length-append w z, length-append z v) in
    one_turn goes (one_more read) k done ((t ∷ w ++ z) ++ v) go
    ∙ ap (λ x. pushed done (read x) >>= (λ r. turns goes (one_more read) k r.0 r.1)) (append_assoc w z v)
    ∙ ap (λ x. pushed done x >>= (λ r. turns goes (one_more read) k r.0 r.1)) one
    ∙ others k shorter
    ∙ ap (λ x. Ok (x, v)) (append_assoc done (f ∷ []) fs)

all_ends : (y : Symbol) (d : Deeper) (f : Ltl) (v : List Lexeme) → is_and y ≡ false → all_by y d f v ≡ Ok (f, v)
all_ends s.And d f v e = cc
all_ends y d f v e = refl

any_ends : (y : Symbol) (d : Deeper) (f : Ltl) (v : List Lexeme) → is_or y ≡ false → any_by y d f v ≡ Ok (f, v)
any_ends s.Or d f v e = cc
any_ends y d f v e = refl

arrow_ends : (y : Symbol) (d : Deeper) (f : Ltl) (v : List Lexeme) → arrows y ≡ false → arrow_by y d f v ≡ Ok (f, v)
arrow_ends s.Arrow d f v e = cc
arrow_ends y d f v e = refl

formula_ends : (y : Symbol) (d : Deeper) (f : Ltl) (v : List Lexeme) → lones y ≡ false → formula_by y d f v ≡ read_arrow_from d f v
formula_ends (s.Lone op) d f v e = cc
formula_ends y d f v e = refl

-- the whole chain behind a first operand
abbrev AndsRead : Deeper → List Ltl → List Lexeme → List Lexeme → Type 0
AndsRead d fs u v = (k : ℕ) (done : List Ltl) → length (u ++ v) ≤ k → turns is_and (one_more (read_unary d)) k done (u ++ v) ≡ Ok (done ++ fs, v)

abbrev OrsRead : Deeper → List Ltl → List Lexeme → List Lexeme → Type 0
OrsRead d fs u v = (k : ℕ) (done : List Ltl) → length (u ++ v) ≤ k → turns is_or (one_more (read_all d)) k done (u ++ v) ≡ Ok (done ++ fs, v)

all_from_ands : {n : ℕ} {b : List Lexeme} {fs : List Ltl} → IsAnds n b fs → (d : Deeper) (f : Ltl) (v : List Lexeme) → is_and (front v) ≡ false → AndsRead d fs b v → read_all_from d f (b ++ v) ≡ Ok (all_of f fs, v)
unfolding read_all_from read_conjuncts
all_from_ands no_and d f v past reads = all_ends (front v) d f v past
all_from_ands (and_more {f = g} {fs = gs} t w z is x y) d f v past reads =
    ap (λ q. all_by q d f ((t ∷ w ++ z) ++ v)) is
    ∙ ap (λ r. r >>= λ r. Ok (ltl.All r.0, r.1)) (reads (length ((t ∷ w ++ z) ++ v)) (f ∷ []) (omega arith))

any_from_ors : {n : ℕ} {b : List Lexeme} {fs : List Ltl} → IsOrs n b fs → (d : Deeper) (f : Ltl) (v : List Lexeme) → is_or (front v) ≡ false → OrsRead d fs b v → any_by (front (b ++ v)) d f (b ++ v) ≡ Ok (any_of f fs, v)
unfolding read_disjuncts
any_from_ors no_or d f v past reads = any_ends (front v) d f v past
any_from_ors (or_more {f = g} {fs = gs} t w z is x y) d f v past reads =
    ap (λ q. any_by q d f ((t ∷ w ++ z) ++ v)) is
    ∙ ap (λ r. r >>= λ r. Ok (ltl.Any r.0, r.1)) (reads (length ((t ∷ w ++ z) ++ v)) (f ∷ []) (omega arith))

-- the first operand is read, and then the others
abbrev Starts : Deeper → (Ltl → List Lexeme → Read Ltl) → List Lexeme → Ltl → List Lexeme → Type 0
Starts d rest u f v = (g : Ltl) × (r : List Lexeme) × (read_unary d (u ++ v) ≡ Ok (g, r)) × (rest g r ≡ Ok (f, v)) × (lones (front v) ≡ false → lones (front r) ≡ false)

no_lone_ands : {n : ℕ} {b : List Lexeme} {fs : List Ltl} → IsAnds n b fs → (v : List Lexeme) → lones (front v) ≡ false → lones (front (b ++ v)) ≡ false
no_lone_ands no_and v e = e
no_lone_ands (and_more t w z is x y) v e = ap lones is

past_ors : {n : ℕ} {b : List Lexeme} {fs : List Ltl} → IsOrs n b fs → (v : List Lexeme) → is_and (front v) ≡ false → is_and (front (b ++ v)) ≡ false
past_ors no_or v e = e
past_ors (or_more t w z is x y) v e = ap is_and is

no_lone_ors : {n : ℕ} {b : List Lexeme} {fs : List Ltl} → IsOrs n b fs → (v : List Lexeme) → lones (front v) ≡ false → lones (front (b ++ v)) ≡ false
no_lone_ors no_or v e = e
no_lone_ors (or_more t w z is x y) v e = ap lones is

started_all : (d : Deeper) (u : List Lexeme) (f : Ltl) (v : List Lexeme) → Starts d (read_all_from d) u f v → read_all d (u ++ v) ≡ Ok (f, v)
unfolding read_all
started_all d u f v (g, r, e, k, l) = ap (λ q. q >>= λ r. read_all_from d r.0 r.1) e ∙ k

started_arrow : (d : Deeper) (u : List Lexeme) (f : Ltl) (v : List Lexeme) → Starts d (read_arrow_from d) u f v → read_arrow d (u ++ v) ≡ Ok (f, v)
unfolding read_arrow
started_arrow d u f v (g, r, e, k, l) = ap (λ q. q >>= λ r. read_arrow_from d r.0 r.1) e ∙ k

started_formula : (d : Deeper) (u : List Lexeme) (f : Ltl) (v : List Lexeme) → lones (front v) ≡ false → Starts d (read_arrow_from d) u f v → read_formula d (u ++ v) ≡ Ok (f, v)
unfolding read_formula
started_formula d u f v past (g, r, e, k, l) = ap (λ q. q >>= λ r. formula_by (front r.1) d r.0 r.1) e ∙ formula_ends (front r) d g r (l past) ∙ k

start_any : {n : ℕ} {b : List Lexeme} {fs : List Ltl} → IsOrs n b fs → (d : Deeper) (w : List Lexeme) (f : Ltl) (v : List Lexeme) → is_or (front v) ≡ false → Starts d (read_all_from d) w f (b ++ v) → OrsRead d fs b v → Starts d (read_any_from d) (w ++ b) (any_of f fs) v
unfolding read_any_from
start_any {b = b} ors d w f v past (g, r, e, k, l) reads = (
  g,
  r,
  ap (read_unary d) (append_assoc w b v) ∙ e,
  ap (λ q. q >>= λ r. any_by (front r.1) d r.0 r.1) k ∙ any_from_ors ors d f v past reads,
  λ h. l (no_lone_ors ors v h),
)

start_last : (d : Deeper) (w : List Lexeme) (f : Ltl) (v : List Lexeme) → arrows (front v) ≡ false → Starts d (read_any_from d) w f v → Starts d (read_arrow_from d) w f v
unfolding read_arrow_from
start_last d w f v past (g, r, e, k, l) = (g, r, e, ap (λ q. q >>= λ r. arrow_by (front r.1) d r.0 r.1) k ∙ arrow_ends (front v) d f v past, l)

start_implied : (m : ℕ) (w : List Lexeme) (f g : Ltl) (t : Lexeme) (z v : List Lexeme) → t.symbol ≡ s.Arrow → Starts (nested (suc m)) (read_any_from (nested (suc m))) w f (t ∷ z ++ v) → read_arrow (nested m) (z ++ v) ≡ Ok (g, v) → Starts (nested (suc m)) (read_arrow_from (nested (suc m))) (w ++ t ∷ z) (ltl.Implies f g) v
unfolding read_arrow_from read_implied nested
start_implied m w f g t z v is (h, r, e, k, l) right = (
  h,
  r,
  ap (read_unary (nested (suc m))) (append_assoc w (t ∷ z) v) ∙ e,
  ap (λ q. q >>= λ r. arrow_by (front r.1) (nested (suc m)) r.0 r.1) k
      ∙ ap (λ y. arrow_by y (nested (suc m)) f (t ∷ z ++ v)) is
      ∙ ap (λ q. q >>= λ r. Ok (ltl.Implies f r.0, r.1)) right,
  λ past. l (ap lones is),
)

reads_lone : (d : Deeper) (w z v : List Lexeme) (f g : Ltl) (t : Lexeme) (op : _) → t.symbol ≡ s.Lone op → read_unary d (w ++ (t ∷ z ++ v)) ≡ Ok (f, t ∷ z ++ v) → read_unary d (z ++ v) ≡ Ok (g, v) → read_formula d ((w ++ t ∷ z) ++ v) ≡ Ok (with_lone op f g, v)
unfolding read_formula read_second
reads_lone d w z v f g t op is one two =
    ap (λ x. read_unary d x >>= λ r. formula_by (front r.1) d r.0 r.1) (append_assoc w (t ∷ z) v)
    ∙ ap (λ q. q >>= λ r. formula_by (front r.1) d r.0 r.1) one
    ∙ ap (λ y. formula_by y d f (t ∷ z ++ v)) is
    ∙ ap (λ q. q >>= λ r. Ok (with_lone op f r.0, r.1)) two

ands_end : (d : Deeper) (v : List Lexeme) → is_and (front v) ≡ false → AndsRead d [] [] v
ands_end d v past k done len = turns_end is_and (one_more (read_unary d)) k done v past ∙ ap (λ x. Ok (x, v)) (sym (append-nil done))

ors_end : (d : Deeper) (v : List Lexeme) → is_or (front v) ≡ false → OrsRead d [] [] v
ors_end d v past k done len = turns_end is_or (one_more (read_all d)) k done v past ∙ ap (λ x. Ok (x, v)) (sym (append-nil done))

mutual
  pub unary_read : {n : ℕ} {u : List Lexeme} {f : Ltl} → IsUnary n u f → (m : ℕ) → n ≤ m → (v : List Lexeme) → read_unary (nested m) (u ++ v) ≡ Ok (f, v)
  unary_read (is_atom {f = f} t e) m le v = reads_atom f (nested m) t v e
  unary_read (is_parens t c w o x e) zero le v = absurd (omega (arith, le))
  unary_read (is_parens {f = f} t c w o x e) (suc m) le v = reads_parens f m t c w v o e (formula_read x m (omega (arith, le)) (c ∷ v) (past_close c.symbol e))
  unary_read (is_prefixed t op w e x) zero le v = absurd (omega (arith, le))
  unary_read (is_prefixed {f = f} t op w e x) (suc m) le v = reads_prefixed f m t op w v e (unary_read x m (omega (arith, le)) v)

  ands_read : {n : ℕ} {u : List Lexeme} {fs : List Ltl} → IsAnds n u fs → (m : ℕ) → n ≤ m → (v : List Lexeme) → is_and (front v) ≡ false → AndsRead (nested m) fs u v
  ands_read no_and m le v past = ands_end (nested m) v past
  ands_read (and_more {f = f} {fs = fs} t w z is x y) m le v past = λ k done len.
      reads_more is_and (read_unary (nested m)) f fs done k t w z v (ap is_and is) (unary_read x m le (z ++ v)) (λ j short. ands_read y m le v past j (done ++ f ∷ []) short) len

  all_read : {n : ℕ} {u : List Lexeme} {f : Ltl} → IsAll n u f → (m : ℕ) → n ≤ m → (v : List Lexeme) → is_and (front v) ≡ false → Starts (nested m) (read_all_from (nested m)) u f v
  all_read (is_all {f = f} w b x y) m le v past =
      (f, b ++ v, ap (read_unary (nested m)) (append_assoc w b v) ∙ unary_read x m le (b ++ v), all_from_ands y (nested m) f v past (ands_read y m le v past), no_lone_ands y v)

  ors_read : {n : ℕ} {u : List Lexeme} {fs : List Ltl} → IsOrs n u fs → (m : ℕ) → n ≤ m → (v : List Lexeme) → PastAny (front v) → OrsRead (nested m) fs u v
  ors_read no_or m le v past = ors_end (nested m) v past.1
  ors_read (or_more {f = f} {fs = fs} t w z is x y) m le v past = λ k done len.
      reads_more is_or (read_all (nested m)) f fs done k t w z v (ap is_or is) (started_all (nested m) w f (z ++ v) (all_read x m le (z ++ v) (past_ors y v past.0))) (λ j short. ors_read y m le v past j (done ++ f ∷ []) short) len

  any_read : {n : ℕ} {u : List Lexeme} {f : Ltl} → IsAny n u f → (m : ℕ) → n ≤ m → (v : List Lexeme) → PastAny (front v) → Starts (nested m) (read_any_from (nested m)) u f v
  any_read (is_any {f = f} w b x y) m le v past = start_any y (nested m) w f v past.1 (all_read x m le (b ++ v) (past_ors y v past.0)) (ors_read y m le v past)

  arrow_read : {n : ℕ} {u : List Lexeme} {f : Ltl} → IsArrow n u f → (m : ℕ) → n ≤ m → (v : List Lexeme) → PastArrow (front v) → Starts (nested m) (read_arrow_from (nested m)) u f v
  arrow_read (is_last {f = f} {w = w} x) m le v past = start_last (nested m) w f v past.1 (any_read x m le v past.0)
  arrow_read (is_implied w t z x is y) zero le v past = absurd (omega (arith, le))
  arrow_read (is_implied {f = f} {g = g} w t z x is y) (suc m) le v past =
      start_implied m w f g t z v is (any_read x (suc m) le (t ∷ z ++ v) (ap is_and is, ap is_or is)) (started_arrow (nested m) z g v (arrow_read y m (omega (arith, le)) v past))

  pub formula_read : {n : ℕ} {u : List Lexeme} {f : Ltl} → IsFormula n u f → (m : ℕ) → n ≤ m → (v : List Lexeme) → PastFormula (front v) → read_formula (nested m) (u ++ v) ≡ Ok (f, v)
  formula_read (is_arrow {f = f} {w = w} x) m le v past = started_formula (nested m) w f v past.1 (arrow_read x m le v past.0)
  formula_read (is_lone {f = f} {g = g} w t op z x is y) m le v past = reads_lone (nested m) w z v f g t op is (unary_read x m le (t ∷ z ++ v)) (unary_read y m le v)
