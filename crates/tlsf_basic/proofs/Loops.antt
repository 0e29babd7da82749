-- Turns up to what closes them.
use Rattle.std.proofs.Common.{◌≡◌, ℕ, zero, suc, ◌<◌, ◌≤◌, Bool, true, false, cond, List, [], ◌∷◌, ◌++◌, length, Result, Ok, Err, sym, refl, ap, ◌∙◌, subst, arith, length-append}
use Rattle.tlsf_basic.specs.declared.faults.TextFault.{TextFault}
use Rattle.tlsf_basic.specs.declared.faults.TextFault.TheVariants.{Expected}
use Rattle.tlsf_basic.specs.declared.symbols.Symbol.{Symbol}
use Rattle.tlsf_basic.specs.declared.symbols.Symbol.TheVariants as s
use Rattle.tlsf_basic.specs.declared.symbols.Lexeme.{Lexeme}
use Rattle.tlsf_basic.specs.Reads.{Halt, Read, Past, ◌>>=◌, front, turns, passes}
use Rattle.tlsf_basic.proofs.Turns.{turns_end, one_turn}
use Rattle.tlsf_basic.proofs.Good.{Texts, Stops, Others, By, valued, unvalued, front_same, Good, weaker, failing, at_front, bind}

pub bind_assoc : {A B C : Type 0} (r : Result A Halt) (f : A → Result B Halt) (g : B → Result C Halt) → (r >>= f >>= g) ≡ (r >>= λ x. f x >>= g)
bind_assoc (Ok x) f g = refl
bind_assoc (Err e) f g = refl

abbrev pub halt_of : {A : Type 0} → Result A Halt → Halt
halt_of (Ok x) = (Expected, [])
halt_of (Err h) = h

pub length_zero : {A : Type 0} (w : List A) → length w ≤ 0 → w ≡ []
length_zero [] h = refl
length_zero (t ∷ ts) h = absurd (omega (arith, h))

module _ {S B : Type 0} (goes : Symbol → Bool) (turn : S → List Lexeme → Read S) (close : S → List Lexeme → Read B) where
  abbrev pub run : ℕ → S → List Lexeme → Read B
  run k state w = turns goes turn k state w >>= λ x. close x.0 x.1

  pub run_end : (k : ℕ) (state : S) (w : List Lexeme) → goes (front w) ≡ false → run k state w ≡ close state w
  run_end k state w e = ap (λ r. r >>= λ x. close x.0 x.1) (turns_end goes turn k state w e)

  pub run_more : (k : ℕ) (state : S) (w : List Lexeme) → goes (front w) ≡ true → run (suc k) state w ≡ (turn state w >>= λ x. run k x.0 x.1)
  run_more k state w e =
      ap (λ r. r >>= λ x. close x.0 x.1) (one_turn goes turn k state w e)
      ∙ bind_assoc (turn state w) (λ r. turns goes turn k r.0 r.1) (λ x. close x.0 x.1)

  pub run_out : (state : S) (w : List Lexeme) → run zero state w ≡ close state w
  unfolding turns
  run_out state w = refl

abbrev Shorter : {A : Type 0} → List Lexeme → Read A → Type 0
Shorter x (Ok r) = length r.1 < length x
Shorter x (Err e) = Unit {0}

module _ (Fits : TextFault → Type 0) {S B : Type 0} (goes : Symbol → Bool) (turn turn' : S → List Lexeme → Read S) (close close' : S → List Lexeme → Read B)
    (T1 : S → Texts S) (S1 : S → Stops) (T : S → Texts B) (St : S → Stops)
    (turn_good : (state : S) (w : List Lexeme) → goes (front w) ≡ true → Good Fits (T1 state) (S1 state) (By (turn' state)) w (turn state w))
    (close_good : (state : S) (w : List Lexeme) → goes (front w) ≡ false → Good Fits (T state) (St state) (By (close' state)) w (close state w))
    (here : (state : S) (p : List Lexeme) (f : TextFault) (v : List Lexeme) → S1 state p f v → St state p f v)
    (more_text : (state : S) (u : List Lexeme) (next : S) (v : List Lexeme) (b : B) → T1 state u next → T next v b → T state (u ++ v) b)
    (more_stop : (state : S) (u : List Lexeme) (next : S) (p : List Lexeme) (f : TextFault) (v : List Lexeme) → T1 state u next → St next p f v → St state (u ++ p) f v)
    (some : (state : S) (u : List Lexeme) (next : S) → T1 state u next → 0 < length u)
    (stuck : (state : S) → goes s.End ≡ true → (e : Halt) × (turn state [] ≡ Err e) × (close state [] ≡ Err e))
    (stuck' : (state : S) → goes s.End ≡ true → (h : Halt) → turn' state [] ≡ Err h → close' state [] ≡ Err h)
  where
    -- with turns enough
    abbrev pub Looped : S → Others B
    Looped state x q = (k : ℕ) → length x ≤ k → run goes turn' close' k state x ≡ q

    abbrev Turned : S → Others S
    Turned state x q = (goes (front x) ≡ true) × (turn' state x ≡ q) × Shorter x q

    turned : (state : S) (w : List Lexeme) → goes (front w) ≡ true → (r : Read S) → Good Fits (T1 state) (S1 state) (By (turn' state)) w r → Good Fits (T1 state) (S1 state) (Turned state) w r
    turned state w go (Ok r) (u, e, text, l) =
        (u, e, text, λ v al. (ap goes (front_same w u r.1 v e al) ∙ go, l v al, let a : 0 < length u = some state u r.0 text in omega (arith, length-append u v, a)))
    turned state w go (Err h) (p, e, stop, l) = (p, e, stop, λ fits v al. (ap goes (front_same w p h.1 v e al) ∙ go, l fits v al, tt))

    finished : (k : ℕ) (state : S) (w : List Lexeme) → goes (front w) ≡ false → Good Fits (T state) (St state) (Looped state) w (run goes turn close k state w)
    finished k state w e =
        subst (Good Fits (T state) (St state) (Looped state) w) (sym (run_end goes turn close k state w e))
        (at_front Fits (T state) (St state) (By (close' state)) (Looped state) w (close state w)
        (λ x q same h k' len. run_end goes turn' close' k' state x (ap goes same ∙ e) ∙ h) (close_good state w e))

    fail' : (state : S) (x : List Lexeme) (h : Halt) → goes (front x) ≡ true → turn' state x ≡ Err h → Looped state x (Err h)
    fail' state x h go e zero len =
        let none = length_zero x len in
        run_out goes turn' close' state x
        ∙ subst (λ y. close' state y ≡ Err h) (sym none) (stuck' state (subst (λ y. goes (front y) ≡ true) none go) h (subst (λ y. turn' state y ≡ Err h) none e))
    fail' state x h go e (suc k) len = run_more goes turn' close' k state x go ∙ ap (λ r. r >>= λ y. run goes turn' close' k y.0 y.1) e

    join : (state next : S) (x y : List Lexeme) (q : Read B) → Turned state x (Ok (next, y)) → Looped next y q → Looped state x q
    join state next x y q (go, e, short) more zero len = absurd (omega (arith, short, len))
    join state next x y q (go, e, short) more (suc k) len = run_more goes turn' close' k state x go ∙ ap (λ r. r >>= λ z. run goes turn' close' k z.0 z.1) e ∙ more k (omega (arith, short, len))

    at_stuck : (state : S) (w : List Lexeme) → w ≡ [] → goes (front w) ≡ true → Good Fits (T state) (St state) (Looped state) w (run goes turn close zero state w)
    at_stuck state w none go =
        let go_end : goes s.End ≡ true = subst (λ y. goes (front y) ≡ true) none go in
        let (e, failed, closed) = stuck state go_end in
        subst (λ y. Good Fits (T state) (St state) (Looped state) y (run goes turn close zero state y)) (sym none)
        (subst (Good Fits (T state) (St state) (Looped state) []) (sym (run_out goes turn close state [] ∙ closed))
        (failing Fits (T1 state) (T state) (S1 state) (St state) (By (turn' state)) (Looped state) [] e (here state)
        (λ x h same failed'. fail' state x h (ap goes same ∙ go_end) failed')
        (subst (Good Fits (T1 state) (S1 state) (By (turn' state)) []) failed (turn_good state [] go_end))))

    -- at least one turn
    abbrev pub Once : S → Texts B
    Once state u b = (x : List Lexeme) × (next : S) × (y : List Lexeme) × (u ≡ x ++ y) × T1 state x next × T next y b

    once : (k : ℕ) (state : S) (w : List Lexeme) → goes (front w) ≡ true → length w ≤ suc k
        → ((next : S) (v : List Lexeme) → length v ≤ k → Good Fits (T next) (St next) (Looped next) v (run goes turn close k next v))
        → Good Fits (Once state) (St state) (Looped state) w (run goes turn close (suc k) state w)
    once k state w go len others =
        subst (Good Fits (Once state) (St state) (Looped state) w) (sym (run_more goes turn close k state w go))
        (bind Fits (T1 state) (S1 state) (Turned state) Looped (Once state) (St state) (Looped state) w
        (λ next. join state next) (λ x e h. fail' state x e h.0 h.1)
        (turn state w) (λ x. run goes turn close k x.0 x.1) (turned state w go (turn state w) (turn_good state w go)) (here state)
        (λ u next v e text. weaker Fits (T next) (λ x b. Once state (u ++ x) b) (St next) (λ p f z. St state (u ++ p) f z) (Looped next) (Looped next) v _
        (λ x b h. (u, next, x, refl, text, h)) (λ p f z h. more_stop state u next p f z text h) (λ x q h. h)
        (others next v (let a : 0 < length u = some state u next text in omega (arith, ap length e, length-append u v, a, len)))))

    pub loop : (k : ℕ) (state : S) (w : List Lexeme) → length w ≤ k → Good Fits (T state) (St state) (Looped state) w (run goes turn close k state w)
    loop zero state w len = go (goes (front w)) refl where
      go : (b : Bool) → goes (front w) ≡ b → Good Fits (T state) (St state) (Looped state) w (run goes turn close zero state w)
      go true e = at_stuck state w (length_zero w len) e
      go false e = finished zero state w e
    loop (suc k) state w len = go (goes (front w)) refl (loop k) where
      go : (b : Bool) → goes (front w) ≡ b → ((next : S) (v : List Lexeme) → length v ≤ k → Good Fits (T next) (St next) (Looped next) v (run goes turn close k next v)) → Good Fits (T state) (St state) (Looped state) w (run goes turn close (suc k) state w)
      go true e others =
          weaker Fits (Once state) (T state) (St state) (St state) (Looped state) (Looped state) w _
          (λ u b h. subst (λ z. T state z b) (sym h.3) (more_text state h.0 h.1 h.2 b h.4 h.5)) (λ p f v h. h) (λ x q h. h)
          (once k state w e len others)
      go false e others = finished (suc k) state w e

    -- all turns of a list that begins one
    pub loop_once : (w : List Lexeme) (state : S) → goes (front w) ≡ true → goes s.End ≡ false → Good Fits (Once state) (St state) (Looped state) w (run goes turn close (length w) state w)
    loop_once [] state go no_end = absurd (let e : true ≡ false = sym go ∙ no_end in cc)
    loop_once (t ∷ ts) state go no_end =
        let e : length (t ∷ ts) ≡ suc (length ts) = omega arith in
        subst (λ k. Good Fits (Once state) (St state) (Looped state) (t ∷ ts) (run goes turn close k state (t ∷ ts))) (sym e)
        (once (length ts) state (t ∷ ts) go (omega (arith, e)) (λ next v len. loop (length ts) next v len))

-- turns without a value

pub valued_unvalued : (q : Read (Unit {0})) → valued (unvalued q) ≡ q
valued_unvalued (Ok r) = refl
valued_unvalued (Err e) = refl

pub unvalued_valued : (p : Past) → unvalued (valued p) ≡ p
unvalued_valued (Ok w) = refl
unvalued_valued (Err e) = refl

pub by_valued : (p : Past) (q : Read (Unit {0})) → p ≡ unvalued q → valued p ≡ q
by_valued p q e = ap valued e ∙ valued_unvalued q

pub from_valued : (p : Past) (q : Read (Unit {0})) → valued p ≡ q → p ≡ unvalued q
from_valued p q e = sym (unvalued_valued p) ∙ ap unvalued e

module _ (goes : Symbol → Bool) (turn close : List Lexeme → Past) where
  abbrev pub passing : Unit {0} → List Lexeme → Read (Unit {0})
  passing a x = valued (turn x)

  abbrev pub closing_pass : Unit {0} → List Lexeme → Read (Unit {0})
  closing_pass a x = valued (close x)

  pass_err : (k : ℕ) (r : Past) → ((w : List Lexeme) → valued (passes goes turn k w >>= close) ≡ run goes passing closing_pass k tt w) → valued (r >>= passes goes turn k >>= close) ≡ (valued r >>= (λ x. turns goes passing k x.0 x.1) >>= (λ x. closing_pass x.0 x.1))
  pass_err k (Ok w) same = same w
  pass_err k (Err e) same = refl

  pub passes_run : (k : ℕ) (w : List Lexeme) → valued (passes goes turn k w >>= close) ≡ run goes passing closing_pass k tt w
  unfolding passes turns
  passes_run zero w = refl
  passes_run (suc k) w = go (goes (front w)) (pass_err k (turn w) (passes_run k)) where
    go : (b : Bool) → valued (turn w >>= passes goes turn k >>= close) ≡ (valued (turn w) >>= (λ x. turns goes passing k x.0 x.1) >>= (λ x. closing_pass x.0 x.1))
        → valued (cond b (turn w >>= passes goes turn k) (Ok w) >>= close) ≡ (cond b (valued (turn w) >>= (λ x. turns goes passing k x.0 x.1)) (Ok (tt, w)) >>= (λ x. closing_pass x.0 x.1))
    go true e = e
    go false e = refl
