-- Reading from the front, and what it leaves: what is read is a text, where it stops the front begins one, and what stands behind the next token changes nothing.
use Rattle.std.proofs.Common.{◌≡◌, Bool, true, false, cond, List, [], ◌∷◌, ◌++◌, drop, Ok, Err, sym, refl, ap, ◌∙◌, subst, append_assoc}
use Rattle.tlsf_basic.specs.declared.faults.TextFault.{TextFault}
use Rattle.tlsf_basic.specs.declared.symbols.Symbol.{Symbol}
use Rattle.tlsf_basic.specs.declared.symbols.Symbol.TheVariants as s
use Rattle.tlsf_basic.specs.declared.symbols.Lexeme.{Lexeme}
use Rattle.tlsf_basic.specs.Reads.{Halt, Read, Past, ◌>>=◌, front, expected_by, expected, unexpected}

-- the same next token, or none
abbrev pub Alike : List Lexeme → List Lexeme → Type 0
Alike [] [] = Unit {0}
Alike [] (u ∷ us) = ⊥
Alike (t ∷ ts) [] = ⊥
Alike (t ∷ ts) (u ∷ us) = t ≡ u

pub alike-self : (w : List Lexeme) → Alike w w
alike-self [] = tt
alike-self (t ∷ ts) = refl

pub alike_front : (v w : List Lexeme) → Alike v w → front v ≡ front w
alike_front [] [] al = refl
alike_front [] (u ∷ us) al = absurd al
alike_front (t ∷ ts) [] al = absurd al
alike_front (t ∷ ts) (u ∷ us) al = ap (λ x. x.symbol) al

pub alike-append : (u v w : List Lexeme) → Alike v w → Alike (u ++ v) (u ++ w)
alike-append [] v w al = al
alike-append (t ∷ u) v w al = refl

-- the front of a list whose rest is exchanged behind its next token
pub front_same : (w u v v' : List Lexeme) → w ≡ u ++ v → Alike v v' → front (u ++ v') ≡ front w
front_same w u v v' e al = sym (alike_front (u ++ v) (u ++ v') (alike-append u v v' al)) ∙ ap front (sym e)

abbrev pub Texts : Type 0 → Type 1
Texts A = List Lexeme → A → Type 0

abbrev pub Stops : Type 1
Stops = List Lexeme → TextFault → List Lexeme → Type 0

-- what another reading gives of other tokens
abbrev pub Others : Type 0 → Type 1
Others A = List Lexeme → Read A → Type 0

abbrev pub By : {A : Type 0} → (List Lexeme → Read A) → Others A
By other w r = other w ≡ r

abbrev pub valued : Past → Read (Unit {0})
valued (Ok w) = Ok (tt, w)
valued (Err e) = Err e

abbrev pub unvalued : Read (Unit {0}) → Past
unvalued (Ok r) = Ok r.1
unvalued (Err e) = Err e

abbrev pub Passed : (List Lexeme → Past) → Others (Unit {0})
Passed other w r = other w ≡ unvalued r

module _ (Fits : TextFault → Type 0) where
  abbrev pub Good : {A : Type 0} → Texts A → Stops → Others A → List Lexeme → Read A → Type 0
  Good T S O w (Ok r) = (u : List Lexeme) × (w ≡ u ++ r.1) × T u r.0 × ((v : List Lexeme) → Alike r.1 v → O (u ++ v) (Ok (r.0, v)))
  Good T S O w (Err e) = (p : List Lexeme) × (w ≡ p ++ e.1) × S p e.0 e.1 × (Fits e.0 → (v : List Lexeme) → Alike e.1 v → O (p ++ v) (Err (e.0, v)))

  -- the same of larger texts and stops
  pub weaker : {A : Type 0} (T1 T : Texts A) (S1 S : Stops) (O1 O : Others A) (w : List Lexeme) (r : Read A) → ((u : List Lexeme) (a : A) → T1 u a → T u a) → ((p : List Lexeme) (f : TextFault) (v : List Lexeme) → S1 p f v → S p f v) → ((x : List Lexeme) (q : Read A) → O1 x q → O x q) → Good T1 S1 O1 w r → Good T S O w r
  weaker T1 T S1 S O1 O w (Ok r) t st o (u, e, is, l) = (u, e, t u r.0 is, λ v al. o (u ++ v) (Ok (r.0, v)) (l v al))
  weaker T1 T S1 S O1 O w (Err h) t st o (p, e, is, l) = (p, e, st p h.0 h.1 is, λ fits v al. o (p ++ v) (Err (h.0, v)) (l fits v al))

  -- a token before what is read
  pub behind_token : {A : Type 0} (T1 T : Texts A) (S1 S : Stops) (O1 O : Others A) (t : Lexeme) (w : List Lexeme) (r : Read A) → ((u : List Lexeme) (a : A) → T1 u a → T (t ∷ u) a) → ((p : List Lexeme) (f : TextFault) (v : List Lexeme) → S1 p f v → S (t ∷ p) f v) → ((x : List Lexeme) (q : Read A) → O1 x q → O (t ∷ x) q) → Good T1 S1 O1 w r → Good T S O (t ∷ w) r
  behind_token T1 T S1 S O1 O t w (Ok r) is st o (u, e, text, l) = (t ∷ u, ap (λ x. t ∷ x) e, is u r.0 text, λ v al. o (u ++ v) (Ok (r.0, v)) (l v al))
  behind_token T1 T S1 S O1 O t w (Err h) is st o (p, e, stop, l) = (t ∷ p, ap (λ x. t ∷ x) e, st p h.0 h.1 stop, λ fits v al. o (p ++ v) (Err (h.0, v)) (l fits v al))

  bind-go : {A B : Type 0} (O1 : Others A) (O2 : Others B) (T : Texts B) (S : Stops) (O : Others B) (u v w : List Lexeme) (a : A)
      → ((x y : List Lexeme) (q : Read B) → O1 x (Ok (a, y)) → O2 y q → O x q) → w ≡ u ++ v → ((x : List Lexeme) → Alike v x → O1 (u ++ x) (Ok (a, x)))
      → (r : Read B) → Good (λ x b. T (u ++ x) b) (λ p f z. S (u ++ p) f z) O2 v r → Good T S O w r
  bind-go O1 O2 T S O u v w a join e l (Ok q) (x, d, text, m) = (
    u ++ x,
    e ∙ ap (λ y. u ++ y) d ∙ sym (append_assoc u x q.1),
    text,
    λ y al. subst (λ z. O z (Ok (q.0, y))) (sym (append_assoc u x y))
        (join (u ++ (x ++ y)) (x ++ y) (Ok (q.0, y)) (l (x ++ y) (subst (λ z. Alike z (x ++ y)) (sym d) (alike-append x q.1 y al))) (m y al)),
  )
  bind-go O1 O2 T S O u v w a join e l (Err h) (x, d, stop, m) = (
    u ++ x,
    e ∙ ap (λ y. u ++ y) d ∙ sym (append_assoc u x h.1),
    stop,
    λ fits y al. subst (λ z. O z (Err (h.0, y))) (sym (append_assoc u x y))
        (join (u ++ (x ++ y)) (x ++ y) (Err (h.0, y)) (l (x ++ y) (subst (λ z. Alike z (x ++ y)) (sym d) (alike-append x h.1 y al))) (m fits y al)),
  )

  -- one reading, and another of what it leaves
  pub bind : {A B : Type 0} (T1 : Texts A) (S1 : Stops) (O1 : Others A) (O2 : A → Others B) (T : Texts B) (S : Stops) (O : Others B) (w : List Lexeme)
      → ((a : A) (x y : List Lexeme) (q : Read B) → O1 x (Ok (a, y)) → O2 a y q → O x q) → ((x : List Lexeme) (e : Halt) → O1 x (Err e) → O x (Err e))
      → (r : Read A) (g : A × List Lexeme → Read B) → Good T1 S1 O1 w r → ((p : List Lexeme) (f : TextFault) (v : List Lexeme) → S1 p f v → S p f v)
      → ((u : List Lexeme) (a : A) (v : List Lexeme) → w ≡ u ++ v → T1 u a → Good (λ x b. T (u ++ x) b) (λ p f z. S (u ++ p) f z) (O2 a) v (g (a, v)))
      → Good T S O w (r >>= g)
  bind T1 S1 O1 O2 T S O w join fail (Ok r) g (u, e, text, l) up more = bind-go O1 (O2 r.0) T S O u r.1 w r.0 (join r.0) e l (g r) (more u r.0 r.1 e text)
  bind T1 S1 O1 O2 T S O w join fail (Err h) g (p, e, stop, l) up more = (p, e, up p h.0 h.1 stop, λ fits v al. fail (p ++ v) (h.0, v) (l fits v al))

  pub then : {A B : Type 0} (T1 : Texts A) (S1 : Stops) (o1 : List Lexeme → Read A) (o2 : A × List Lexeme → Read B) (T : Texts B) (S : Stops) (w : List Lexeme)
      → (r : Read A) (g : A × List Lexeme → Read B) → Good T1 S1 (By o1) w r → ((p : List Lexeme) (f : TextFault) (v : List Lexeme) → S1 p f v → S p f v)
      → ((u : List Lexeme) (a : A) (v : List Lexeme) → w ≡ u ++ v → T1 u a → Good (λ x b. T (u ++ x) b) (λ p f z. S (u ++ p) f z) (By (λ y. o2 (a, y))) v (g (a, v)))
      → Good T S (By (λ x. o1 x >>= o2)) w (r >>= g)
  then T1 S1 o1 o2 T S w r g good up more =
      bind T1 S1 (By o1) (λ a. By (λ y. o2 (a, y))) T S (By (λ x. o1 x >>= o2)) w
      (λ a x y q h k. ap (λ z. z >>= o2) h ∙ k) (λ x e h. ap (λ z. z >>= o2) h) r g good up more

  pub past-then : {B : Type 0} (T1 : Texts (Unit {0})) (S1 : Stops) (o1 : List Lexeme → Past) (o2 : List Lexeme → Read B) (T : Texts B) (S : Stops) (w : List Lexeme)
      → (r : Past) (g : List Lexeme → Read B) → Good T1 S1 (Passed o1) w (valued r) → ((p : List Lexeme) (f : TextFault) (v : List Lexeme) → S1 p f v → S p f v)
      → ((u v : List Lexeme) → w ≡ u ++ v → T1 u tt → Good (λ x b. T (u ++ x) b) (λ p f z. S (u ++ p) f z) (By o2) v (g v))
      → Good T S (By (λ x. o1 x >>= o2)) w (r >>= g)
  past-then T1 S1 o1 o2 T S w (Ok v) g good up more =
      bind T1 S1 (Passed o1) (λ a. By o2) T S (By (λ x. o1 x >>= o2)) w
      (λ a x y q h k. ap (λ z. z >>= o2) h ∙ k) (λ x e h. ap (λ z. z >>= o2) h) (Ok (tt, v)) (λ x. g x.1) good up (λ u a. more u)
  past-then T1 S1 o1 o2 T S w (Err h) g good up more =
      bind T1 S1 (Passed o1) (λ a. By o2) T S (By (λ x. o1 x >>= o2)) w
      (λ a x y q h k. ap (λ z. z >>= o2) h ∙ k) (λ x e h. ap (λ z. z >>= o2) h) (Err h) (λ x. g x.1) good up (λ u a. more u)

  pub past-past : (T1 : Texts (Unit {0})) (S1 : Stops) (o1 : List Lexeme → Past) (o2 : List Lexeme → Past) (T : Texts (Unit {0})) (S : Stops) (w : List Lexeme)
      → (r : Past) (g : List Lexeme → Past) → Good T1 S1 (Passed o1) w (valued r) → ((p : List Lexeme) (f : TextFault) (v : List Lexeme) → S1 p f v → S p f v)
      → ((u v : List Lexeme) → w ≡ u ++ v → T1 u tt → Good (λ x b. T (u ++ x) b) (λ p f z. S (u ++ p) f z) (Passed o2) v (valued (g v)))
      → Good T S (Passed (λ x. o1 x >>= o2)) w (valued (r >>= g))
  past-past T1 S1 o1 o2 T S w (Ok v) g good up more =
      bind T1 S1 (Passed o1) (λ a. Passed o2) T S (Passed (λ x. o1 x >>= o2)) w
      (λ a x y q h k. ap (λ z. z >>= o2) h ∙ k) (λ x e h. ap (λ z. z >>= o2) h) (Ok (tt, v)) (λ x. valued (g x.1)) good up (λ u a. more u)
  past-past T1 S1 o1 o2 T S w (Err h) g good up more =
      bind T1 S1 (Passed o1) (λ a. Passed o2) T S (Passed (λ x. o1 x >>= o2)) w
      (λ a x y q h k. ap (λ z. z >>= o2) h ∙ k) (λ x e h. ap (λ z. z >>= o2) h) (Err h) (λ x. valued (g x.1)) good up (λ u a. more u)

  -- a value after all
  pub gives : {A : Type 0} (T : Texts A) (S : Stops) (a : A) (w : List Lexeme) → T [] a → Good T S (By (λ x. Ok (a, x))) w (Ok (a, w))
  gives T S a w text = ([], refl, text, λ v al. refl)

  -- other tokens have the same first one
  pub at_front : {A : Type 0} (T : Texts A) (S : Stops) (O1 O : Others A) (w : List Lexeme) (r : Read A) → ((x : List Lexeme) (q : Read A) → front x ≡ front w → O1 x q → O x q) → Good T S O1 w r → Good T S O w r
  at_front T S O1 O w (Ok r) o (u, e, text, l) = (u, e, text, λ v al. o (u ++ v) (Ok (r.0, v)) (front_same w u r.1 v e al) (l v al))
  at_front T S O1 O w (Err h) o (p, e, stop, l) = (p, e, stop, λ fits v al. o (p ++ v) (Err (h.0, v)) (front_same w p h.1 v e al) (l fits v al))

  -- a failure of one reading that is one of another
  pub failing : {A B : Type 0} (T1 : Texts A) (T : Texts B) (S1 S : Stops) (O1 : Others A) (O : Others B) (w : List Lexeme) (h : Halt) → ((p : List Lexeme) (f : TextFault) (v : List Lexeme) → S1 p f v → S p f v) → ((x : List Lexeme) (e : Halt) → front x ≡ front w → O1 x (Err e) → O x (Err e)) → Good T1 S1 O1 w (Err h) → Good T S O w (Err h)
  failing T1 T S1 S O1 O w h st o (p, e, stop, l) = (p, e, st p h.0 h.1 stop, λ fits v al. o (p ++ v) (h.0, v) (front_same w p h.1 v e al) (l fits v al))

  -- the same tokens with another value
  pub map_value : {A B : Type 0} (T1 : Texts A) (T : Texts B) (S1 S : Stops) (other : List Lexeme → Read A) (h : A → B) (w : List Lexeme) (r : Read A) → ((u : List Lexeme) (a : A) → T1 u a → T u (h a)) → ((p : List Lexeme) (f : TextFault) (v : List Lexeme) → S1 p f v → S p f v) → Good T1 S1 (By other) w r → Good T S (By (λ x. other x >>= λ q. Ok (h q.0, q.1))) w (r >>= λ q. Ok (h q.0, q.1))
  map_value T1 T S1 S other h w (Ok r) is st (u, e, text, l) = (u, e, is u r.0 text, λ v al. ap (λ z. z >>= λ q. Ok (h q.0, q.1)) (l v al))
  map_value T1 T S1 S other h w (Err x) is st (p, e, stop, l) = (p, e, st p x.0 x.1 stop, λ fits v al. ap (λ z. z >>= λ q. Ok (h q.0, q.1)) (l fits v al))

  -- a token that can't stand
  pub at_unexpected : {A : Type 0} (T : Texts A) (S : Stops) (w : List Lexeme) → S [] (expected w) w → Good T S (By unexpected) w (unexpected w)
  at_unexpected T S w stop = ([], refl, stop, λ fits v al. ap (λ y. Err (expected_by y, v)) (sym (alike_front w v al)))

  -- a value behind what has none
  pub past_value : {A : Type 0} (T1 : Texts (Unit {0})) (T : Texts A) (S1 S : Stops) (other : List Lexeme → Past) (a : A) (w : List Lexeme) (r : Past) → ((u : List Lexeme) → T1 u tt → T u a) → ((p : List Lexeme) (f : TextFault) (v : List Lexeme) → S1 p f v → S p f v) → Good T1 S1 (Passed other) w (valued r) → Good T S (By (λ x. other x >>= λ v. Ok (a, v))) w (r >>= λ v. Ok (a, v))
  past_value T1 T S1 S other a w (Ok z) is st (u, e, text, l) = (u, e, is u text, λ v al. ap (λ q. q >>= λ v. Ok (a, v)) (l v al))
  past_value T1 T S1 S other a w (Err x) is st (p, e, stop, l) = (p, e, st p x.0 x.1 stop, λ fits v al. ap (λ q. q >>= λ v. Ok (a, v)) (l fits v al))

  -- what may stand once
  pub once_each : {A : Type 0} (T : Texts A) (S : Stops) (b : Bool) (other : List Lexeme → Read A) (w : List Lexeme) → S [] (expected w) w → (b ≡ false → Good T S (By other) w (other w)) → Good T S (By (λ x. cond b (unexpected x) (other x))) w (cond b (unexpected w) (other w))
  once_each T S true other w stop good = at_unexpected T S w stop
  once_each T S false other w stop good = good refl

  -- a choice by the next token
  pub choose : {A : Type 0} (T : Texts A) (S : Stops) (other : Symbol → List Lexeme → Read A) (symbol : Symbol) (w : List Lexeme) (r : Read A) → symbol ≡ front w → Good T S (By (other symbol)) w r → Good T S (By (λ x. other (front x) x)) w r
  choose T S other symbol w r is good =
      at_front T S (By (other symbol)) (By (λ x. other (front x) x)) w r (λ x q same h. ap (λ y. other y x) (same ∙ sym is) ∙ h) good

-- one token of a class
abbrev pub IsOne : (Symbol → Bool) → Texts (Unit {0})
IsOne is u a = (t : Lexeme) × (u ≡ t ∷ []) × (is t.symbol ≡ true)

abbrev pub StopsAt : (Symbol → Bool) → (Symbol → TextFault) → Stops
StopsAt is by p f v = (p ≡ []) × (f ≡ by (front v)) × (is (front v) ≡ false)

abbrev pub token : (Symbol → Bool) → (Symbol → TextFault) → List Lexeme → Past
token is by w = cond (is (front w)) (Ok (drop 1 w)) (Err (by (front w), w))

module _ (Fits : TextFault → Type 0) (is : Symbol → Bool) (by : Symbol → TextFault) (no_end : is s.End ≡ false) where
  token_none : (v : List Lexeme) → Alike [] v → token is by v ≡ Err (by s.End, v)
  token_none [] al = rw no_end refl
  token_none (u ∷ us) al = absurd al

  token_other : (t : Lexeme) (ts v : List Lexeme) → is t.symbol ≡ false → Alike (t ∷ ts) v → token is by v ≡ Err (by t.symbol, v)
  token_other t ts [] e al = absurd al
  token_other t ts (u ∷ us) e al =
      subst (λ (x : Lexeme). token is by (x ∷ us) ≡ Err (by t.symbol, x ∷ us)) al (rw e refl)

  pub at_token : (w : List Lexeme) → Good Fits (IsOne is) (StopsAt is by) (Passed (token is by)) w (valued (token is by w))
  at_token [] = go (is s.End) no_end where
    go : (b : Bool) → b ≡ false → Good Fits (IsOne is) (StopsAt is by) (Passed (token is by)) [] (valued (cond b (Ok []) (Err (by s.End, []))))
    go true e = absurd (cc)
    go false e = ([], refl, (refl, refl, no_end), λ fits v al. token_none v al)
  at_token (t ∷ ts) = go (is t.symbol) refl where
    go : (b : Bool) → is t.symbol ≡ b → Good Fits (IsOne is) (StopsAt is by) (Passed (token is by)) (t ∷ ts) (valued (cond b (Ok ts) (Err (by t.symbol, t ∷ ts))))
    go true e = (t ∷ [], refl, (t, refl, e), λ v al. rw e refl)
    go false e = ([], refl, (refl, refl, e), λ fits v al. token_other t ts v e al)
