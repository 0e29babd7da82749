-- Lists of which no two are equal, and effects that are told by their numbers.
use Rattle.std.proofs.Common.{◌≡◌, ℕ, zero, suc, ◌<◌, ◌≤◌, ◌⊎◌, inl, inr, Bool, true, false, cond, ◌&&◌, List, [], ◌∷◌, length, get_or, max, refl, sym, ap, ◌∙◌, arith}
use Rattle.std.specs.Prelude.{Vec, nat_eq}
use Rattle.std.specs.Bool.{Decides}
use Rattle.std.specs.List.{All, AllPairs, AllByRecursion, IsDistinct}
use Rattle.std.specs.Cmp.Lexicographic.{pointwise}
use Rattle.std.specs.declared.alloc.Global.{Global}
use Rattle.std.proofs.lemmas.Bool.{cases_eq, cases_lt}
use Rattle.std.proofs.lemmas.Bool.Decides.{Decides-eqb}
use Rattle.std.proofs.lemmas.List.Elements.{All-tail}
use Rattle.std.proofs.lemmas.Slice.Eq.{slice_eq-Decides}
use Rattle.action_groups.specs.Lists.{items_at}
use Rattle.action_groups.specs.Numbers.{step_number, steps_number, mark_number, HasSameNumbers}
use Rattle.action_groups.specs.Way.{IsBefore, IsStep}
use Rattle.action_groups.proofs.RowNumbers.{apart}

module _ {X : Type 0} (eq : X → X → Bool) (same : (p q : X) → Decides (eq p q) (p ≡ q)) where
  not_among : (o : List X) (lists : List (Vec X Global)) (d : ℕ) → d < length lists → AllByRecursion (λ (y : Vec X Global). pointwise eq o y.items ≡ false) lists → o ≡ items_at lists d → ⊥
  not_among o [] d lt h e = omega arith
  not_among o (x ∷ lists) zero lt h e =
      let t : pointwise eq o x.items ≡ true = (slice_eq-Decides same o x.items _ refl).1 e in
      let f : pointwise eq o x.items ≡ false = h.0 in
      cc
  not_among o (x ∷ lists) (suc d) lt h e = not_among o lists d (omega arith) h.1 e

  pub lists_apart : (lists : List (Vec X Global)) → IsDistinct (λ (x y : Vec X Global). pointwise eq x.items y.items) lists → (c d : ℕ) → c < length lists → d < length lists → items_at lists c ≡ items_at lists d → c ≡ d
  unfolding IsDistinct
  lists_apart [] h c d lc ld e = absurd (omega arith)
  lists_apart (o ∷ lists) h zero zero lc ld e = refl
  lists_apart (o ∷ lists) h zero (suc d) lc ld e = absurd (not_among o.items lists d (omega arith) h.0 e)
  lists_apart (o ∷ lists) h (suc c) zero lc ld e = absurd (not_among o.items lists c (omega arith) h.0 (sym e))
  lists_apart (o ∷ lists) h (suc c) (suc d) lc ld e = ap suc (lists_apart lists h.1 c d (omega arith) (omega arith) e)

no_number : (s : ℕ × ℕ × Bool) (q p : ℕ) → (s.0 ≡ q → s.1 ≡ p → ⊥) → step_number s q p ≡ 0
no_number s q p ne = go (cases_eq s.0 q) (cases_eq s.1 p)
  where
    none : (b : Bool) → cond (b && false) (mark_number s.2) 0 ≡ 0
    none true = refl
    none false = refl

    go : (s.0 ≡ q) ⊎ (s.0 ≡ q → ⊥) → (s.1 ≡ p) ⊎ (s.1 ≡ p → ⊥) → step_number s q p ≡ 0
    go (inl e) (inl f) = absurd (ne e f)
    go (inr n) c = ap (λ b. cond (b && nat_eq s.1 p) (mark_number s.2) 0) (apart s.0 q n)
    go (inl e) (inr n) = ap (λ b. cond (nat_eq s.0 q && b) (mark_number s.2) 0) (apart s.1 p n) ∙ none (nat_eq s.0 q)

own_number : (s : ℕ × ℕ × Bool) → step_number s s.0 s.1 ≡ mark_number s.2
own_number s =
    ap (λ b. cond (b && nat_eq s.1 s.1) (mark_number s.2) 0) ((Decides-eqb s.0 s.0).1 refl)
    ∙ ap (λ b. cond b (mark_number s.2) 0) ((Decides-eqb s.1 s.1).1 refl)

none_there : (steps : List (ℕ × ℕ × Bool)) (q p : ℕ) → All (λ s. s.0 ≡ q → s.1 ≡ p → ⊥) steps → steps_number steps q p ≡ 0
none_there [] q p h = refl
none_there (s ∷ steps) q p h =
    both (step_number s q p) (steps_number steps q p) (no_number s q p (h 0 s (omega arith))) (none_there steps q p (All-tail (λ t. t.0 ≡ q → t.1 ≡ p → ⊥) s steps h))
  where
    both : (a b : ℕ) → a ≡ 0 → b ≡ 0 → max a b ≡ 0
    both a b e f = omega arith

marks_count : (m : Bool) → 1 ≤ mark_number m
marks_count true = omega arith
marks_count false = omega arith

same_mark : (m n : Bool) → mark_number m ≡ mark_number n → m ≡ n
same_mark true true e = refl
same_mark false false e = refl
same_mark true false e = absurd (omega arith)
same_mark false true e = absurd (omega arith)

after_first : (x : ℕ × ℕ × Bool) (xs : List (ℕ × ℕ × Bool)) → AllPairs IsBefore (x ∷ xs) → All (IsBefore x) xs
after_first x xs up k d lt = up 0 (suc k) d (omega arith) (omega arith)

rest_rises : (x : ℕ × ℕ × Bool) (xs : List (ℕ × ℕ × Bool)) → AllPairs IsBefore (x ∷ xs) → AllPairs IsBefore xs
rest_rises x xs up i j d lt inside = up (suc i) (suc j) d (omega arith) (omega arith)

-- what has a number doesn't stand before the first step
not_before : (y : ℕ × ℕ × Bool) (ys : List (ℕ × ℕ × Bool)) (q p : ℕ) → AllPairs IsBefore (y ∷ ys) → 1 ≤ steps_number (y ∷ ys) q p → (y.0 < q) ⊎ ((y.0 ≡ q) × (y.1 ≤ p))
not_before y ys q p up some = go (cases_lt q y.0) (cases_lt y.0 q) (cases_lt p y.1)
  where
    zero_if : ((z : ℕ × ℕ × Bool) → (y.0 < z.0) ⊎ ((y.0 ≡ z.0) × (y.1 ≤ z.1)) → z.0 ≡ q → z.1 ≡ p → ⊥) → ⊥
    zero_if ne =
        let none : steps_number (y ∷ ys) q p ≡ 0 = none_there (y ∷ ys) q p (each ne) in
        omega arith
      where
        each : ((z : ℕ × ℕ × Bool) → (y.0 < z.0) ⊎ ((y.0 ≡ z.0) × (y.1 ≤ z.1)) → z.0 ≡ q → z.1 ≡ p → ⊥) → All (λ z. z.0 ≡ q → z.1 ≡ p → ⊥) (y ∷ ys)
        each ne zero d lt = ne y (inr (refl, omega arith))
        each ne (suc k) d lt = ne (get_or ys k d) (weaker (get_or ys k d) (after_first y ys up k d (omega arith)))
          where
            weaker : (z : ℕ × ℕ × Bool) → IsBefore y z → (y.0 < z.0) ⊎ ((y.0 ≡ z.0) × (y.1 ≤ z.1))
            weaker z (inl b) = inl b
            weaker z (inr b) = (let l : y.1 < z.1 = b.1 in inr (b.0, omega arith))

    earlier : q < y.0 → (z : ℕ × ℕ × Bool) → (y.0 < z.0) ⊎ ((y.0 ≡ z.0) × (y.1 ≤ z.1)) → z.0 ≡ q → z.1 ≡ p → ⊥
    earlier l z (inl b) e f = omega arith
    earlier l z (inr b) e f = omega (arith, b.0)

    smaller : y.0 ≡ q → p < y.1 → (z : ℕ × ℕ × Bool) → (y.0 < z.0) ⊎ ((y.0 ≡ z.0) × (y.1 ≤ z.1)) → z.0 ≡ q → z.1 ≡ p → ⊥
    smaller s l z (inl b) e f = omega arith
    smaller s l z (inr b) e f = omega (arith, b.1)

    go : (q < y.0) ⊎ (y.0 ≤ q) → (y.0 < q) ⊎ (q ≤ y.0) → (p < y.1) ⊎ (y.1 ≤ p) → (y.0 < q) ⊎ ((y.0 ≡ q) × (y.1 ≤ p))
    go (inl a) b c = absurd (zero_if (earlier a))
    go (inr a) (inl b) c = inl b
    go (inr a) (inr b) (inl c) = (let e : y.0 ≡ q = omega arith in absurd (zero_if (smaller e c)))
    go (inr a) (inr b) (inr c) = inr (omega arith, c)

first_counts : (x : ℕ × ℕ × Bool) (xs : List (ℕ × ℕ × Bool)) → 1 ≤ steps_number (x ∷ xs) x.0 x.1
first_counts x xs = (let e : step_number x x.0 x.1 ≡ mark_number x.2 = own_number x in let m : 1 ≤ mark_number x.2 = marks_count x.2 in over (step_number x x.0 x.1) (steps_number xs x.0 x.1) (omega arith))
  where
    over : (a b : ℕ) → 1 ≤ a → 1 ≤ max a b
    over a b l = omega arith

rest_none : (x : ℕ × ℕ × Bool) (xs : List (ℕ × ℕ × Bool)) → AllPairs IsBefore (x ∷ xs) → steps_number xs x.0 x.1 ≡ 0
rest_none x xs up = none_there xs x.0 x.1 (λ k d lt. strict (get_or xs k d) (after_first x xs up k d lt))
  where
    strict : (z : ℕ × ℕ × Bool) → IsBefore x z → z.0 ≡ x.0 → z.1 ≡ x.1 → ⊥
    strict z (inl b) e f = omega arith
    strict z (inr b) e f = omega (arith, b.1)

same_step : (x y : ℕ × ℕ × Bool) → x.0 ≡ y.0 → x.1 ≡ y.1 → x.2 ≡ y.2 → x ≡ y
same_step x y e f g = ap (λ (n : ℕ). (n, x.1, x.2)) e ∙ ap (λ (n : ℕ). (y.0, n, x.2)) f ∙ ap (λ (b : Bool). (y.0, y.1, b)) g

-- steps in order are told by their numbers
pub same_steps : (xs ys : List (ℕ × ℕ × Bool)) → AllPairs IsBefore xs → AllPairs IsBefore ys → HasSameNumbers xs ys → xs ≡ ys
same_steps [] [] u v h = refl
same_steps [] (y ∷ ys) u v h = (let e : 0 ≡ steps_number (y ∷ ys) y.0 y.1 = h y.0 y.1 in let m : 1 ≤ steps_number (y ∷ ys) y.0 y.1 = first_counts y ys in absurd (omega arith))
same_steps (x ∷ xs) [] u v h = (let e : steps_number (x ∷ xs) x.0 x.1 ≡ 0 = h x.0 x.1 in let m : 1 ≤ steps_number (x ∷ xs) x.0 x.1 = first_counts x xs in absurd (omega arith))
same_steps (x ∷ xs) (y ∷ ys) u v h =
    let equal : x ≡ y = same_step x y keys.0 keys.1 marks in
    ap (λ z. z ∷ xs) equal ∙ ap (λ (l : List (ℕ × ℕ × Bool)). y ∷ l) (same_steps xs ys (rest_rises x xs u) (rest_rises y ys v) rest)
  where
    meet : (x.0 < y.0) ⊎ ((x.0 ≡ y.0) × (x.1 ≤ y.1)) → (y.0 < x.0) ⊎ ((y.0 ≡ x.0) × (y.1 ≤ x.1)) → (x.0 ≡ y.0) × (x.1 ≡ y.1)
    meet (inl a) (inl b) = absurd (omega arith)
    meet (inl a) (inr b) = absurd (omega (arith, b.0))
    meet (inr a) (inl b) = absurd (omega (arith, a.0))
    meet (inr a) (inr b) = (a.0, omega (arith, a.1, b.1))

    keys : (x.0 ≡ y.0) × (x.1 ≡ y.1)
    keys =
        meet
        (not_before x xs y.0 y.1 u (let e : steps_number (x ∷ xs) y.0 y.1 ≡ steps_number (y ∷ ys) y.0 y.1 = h y.0 y.1 in let m : 1 ≤ steps_number (y ∷ ys) y.0 y.1 = first_counts y ys in omega arith))
        (not_before y ys x.0 x.1 v (let e : steps_number (x ∷ xs) x.0 x.1 ≡ steps_number (y ∷ ys) x.0 x.1 = h x.0 x.1 in let m : 1 ≤ steps_number (x ∷ xs) x.0 x.1 = first_counts x xs in omega arith))

    alone : (a b c d : ℕ) → b ≡ 0 → d ≡ 0 → max a b ≡ max c d → a ≡ c
    alone a b c d e f g = omega arith

    there : steps_number ys x.0 x.1 ≡ 0
    there = ap (λ n. steps_number ys n x.1) keys.0 ∙ ap (λ n. steps_number ys y.0 n) keys.1 ∙ rest_none y ys v

    marks : x.2 ≡ y.2
    marks =
        same_mark x.2 y.2
        (sym (own_number x)
        ∙ alone (step_number x x.0 x.1) (steps_number xs x.0 x.1) (step_number y x.0 x.1) (steps_number ys x.0 x.1) (rest_none x xs u) there (h x.0 x.1)
        ∙ ap (λ n. step_number y n x.1) keys.0 ∙ ap (λ n. step_number y y.0 n) keys.1
        ∙ own_number y)

    less : (a b c d : ℕ) → a ≡ 0 → c ≡ 0 → max a b ≡ max c d → b ≡ d
    less a b c d e f g = omega arith

    rest : HasSameNumbers xs ys
    rest q p = go (cases_eq x.0 q) (cases_eq x.1 p)
      where
        other : (x.0 ≡ q → x.1 ≡ p → ⊥) → steps_number xs q p ≡ steps_number ys q p
        other ne =
            less (step_number x q p) (steps_number xs q p) (step_number y q p) (steps_number ys q p)
            (no_number x q p ne) (no_number y q p (λ e f. ne (keys.0 ∙ e) (keys.1 ∙ f))) (h q p)

        go : (x.0 ≡ q) ⊎ (x.0 ≡ q → ⊥) → (x.1 ≡ p) ⊎ (x.1 ≡ p → ⊥) → steps_number xs q p ≡ steps_number ys q p
        go (inr n) c = other (λ e f. n e)
        go (inl e) (inr n) = other (λ a b. n b)
        go (inl e) (inl f) =
            ap (λ n. steps_number xs n p) (sym e) ∙ ap (λ n. steps_number xs x.0 n) (sym f) ∙ rest_none x xs u
            ∙ sym (ap (λ n. steps_number ys n p) (sym e) ∙ ap (λ n. steps_number ys x.0 n) (sym f) ∙ there)

-- steps between the states have no numbers at others
pub steps_within : (count : ℕ) (steps : List (ℕ × ℕ × Bool)) (q p : ℕ) → All (IsStep count) steps → count ≤ q → steps_number steps q p ≡ 0
steps_within count steps q p h le = none_there steps q p (λ k d lt e f. (let s = (h k d lt).0 in omega (arith, s, e)))
