-- A cube holds a letter exactly where the literals of its set hold.
use Rattle.std.proofs.Common.{◌≡◌, ℕ, zero, suc, ◌+◌, ◌*◌, ◌^◌, ◌<◌, ◌≤◌, ◌⊎◌, inl, inr, Bool, true, false, not, cond, nat_eq, eqb, List, [], ◌∷◌, ◌++◌, length, refl, sym, ap, ◌∙◌, subst, arith}
use Rattle.std.specs.Prelude.{bit_and, bit_or, fold}
use Rattle.std.specs.Int.{bit_at}
use Rattle.std.specs.List.{flat_map, range_with_len}
use Rattle.std.proofs.lemmas.Bool.{eq-eqb, ne_eqb, not-true, eqb-true, eqb-false}
use Rattle.std.proofs.lemmas.Nat.Bits.{bit_at_and, bit_at_or, bit_at-lt, bit_at-zero, bit_at-pow_same, bit_at-pow_other, and_pow, same_from_bits}
use Rattle.ltl_form.specs.declared.normals.Node.{Node}
use Rattle.ltl_form.specs.declared.normals.Node.TheVariants.{True, False, Lit, And, Or, Next, Until, Release}
use Rattle.word_core.specs.Cube.{holds}
use Rattle.word_core.specs.declared.cubes.Cube.{Cube}
use Rattle.cover_sets.specs.Covers.{node_at}
use Rattle.cover_sets.specs.Numbers.{has}
use Rattle.tableau_nba.specs.declared.cubes.Literal.{Literal}
use Rattle.tableau_nba.specs.Walks.{cube_in, literal_at, literals_in, with_literal}
use Rattle.tableau_nba.proofs.Found.{Is}

-- whether a letter meets a literal
abbrev pub meets_literal : ℕ → Literal → Bool
meets_literal x l = cond l.positive (nat_eq (bit_at x l.signal) 1) (not (nat_eq (bit_at x l.signal) 1))

one_from : (x s : ℕ) → nat_eq (bit_at x s) 1 ≡ true → bit_at x s ≡ 1
one_from x s h = eqb-true (bit_at x s) 1 h

zero_from : (x s : ℕ) → nat_eq (bit_at x s) 1 ≡ false → bit_at x s ≡ 0
zero_from x s h = let l = bit_at-lt x s in let n = eqb-false (bit_at x s) 1 h in omega arith

and_distrib : (x a p : ℕ) → bit_and x (bit_or a p) ≡ bit_or (bit_and x a) (bit_and x p)
and_distrib x a p =
    same_from_bits _ _ (λ i.
    let u = bit_at_and x (bit_or a p) i in
    let v = bit_at_or a p i in
    let y = bit_at_or (bit_and x a) (bit_and x p) i in
    let z = bit_at_and x a i in
    let q = bit_at_and x p i in
    omega arith)

or_nothing : (a : ℕ) → bit_or a 0 ≡ a
or_nothing a = same_from_bits _ _ (λ i. let u = bit_at_or a 0 i in let v = bit_at-zero i in omega arith)

abbrev cube_by : ℕ → ℕ → Cube
cube_by care want = record { care = care; want = want }

abbrev pub literal_by : ℕ → ℕ → Bool → Literal
literal_by n x p = record { number = n; signal = x; positive = p }

is_right : {X : Type 0} (xs ys : List X) (x : X) → Is x ys → Is x (xs ++ ys)
is_right [] ys x m = m
is_right (z ∷ zs) ys x m = inr (is_right zs ys x m)

is_split : {X : Type 0} (xs ys : List X) (x : X) → Is x (xs ++ ys) → Is x xs ⊎ Is x ys
is_split [] ys x m = inr m
is_split (z ∷ zs) ys x (inl e) = inl (inl e)
is_split (z ∷ zs) ys x (inr m) = go (is_split zs ys x m)
  where
    go : Is x zs ⊎ Is x ys → Is x (z ∷ zs) ⊎ Is x ys
    go (inl k) = inl (inr k)
    go (inr k) = inr k

abbrev step_on : ℕ → Cube → Literal → Cube
step_on set cube l = cond (has set l.number) (with_literal cube l) cube

-- ---- met literals

with_met : (cube : Cube) (l : Literal) (x : ℕ) → bit_and x cube.care ≡ cube.want → meets_literal x l ≡ true → bit_and x (with_literal cube l).care ≡ (with_literal cube l).want
with_met cube l x h m = go l.positive refl m
  where
    whole : bit_and x (bit_or cube.care (2 ^ l.signal)) ≡ bit_or cube.want (bit_at x l.signal * 2 ^ l.signal)
    whole = and_distrib x cube.care (2 ^ l.signal) ∙ ap (λ a. bit_or a (bit_and x (2 ^ l.signal))) h ∙ ap (bit_or cube.want) (and_pow x l.signal)

    go : (b : Bool) → l.positive ≡ b → cond b (nat_eq (bit_at x l.signal) 1) (not (nat_eq (bit_at x l.signal) 1)) ≡ true
        → bit_and x (bit_or cube.care (2 ^ l.signal)) ≡ cond l.positive (bit_or cube.want (2 ^ l.signal)) cube.want
    go true e k =
        let o : bit_at x l.signal * 2 ^ l.signal ≡ 2 ^ l.signal = ap (λ b. b * 2 ^ l.signal) (one_from x l.signal k) ∙ omega arith in
        whole ∙ ap (bit_or cube.want) o ∙ sym (ap (λ b. cond b (bit_or cube.want (2 ^ l.signal)) cube.want) e)
    go false e k =
        let z : bit_at x l.signal * 2 ^ l.signal ≡ 0 = ap (λ b. b * 2 ^ l.signal) (zero_from x l.signal (not-true _ k)) ∙ omega arith in
        whole ∙ ap (bit_or cube.want) z ∙ or_nothing cube.want ∙ sym (ap (λ b. cond b (bit_or cube.want (2 ^ l.signal)) cube.want) e)

fold_met : (set x : ℕ) (literals : List Literal) (cube : Cube) → bit_and x cube.care ≡ cube.want → ((l : Literal) → Is l literals → has set l.number ≡ true → meets_literal x l ≡ true)
    → bit_and x (fold (step_on set) cube literals).care ≡ (fold (step_on set) cube literals).want
fold_met set x [] cube h a = h
fold_met set x (l ∷ ls) cube h a = fold_met set x ls (step_on set cube l) (go (has set l.number) refl) (λ k m. a k (inr m))
  where
    go : (b : Bool) → has set l.number ≡ b → bit_and x (cond b (with_literal cube l) cube).care ≡ (cond b (with_literal cube l) cube).want
    go true e = with_met cube l x h (a l (inl refl) e)
    go false e = h

pub cube_met : (literals : List Literal) (set x : ℕ) → ((l : Literal) → Is l literals → has set l.number ≡ true → meets_literal x l ≡ true) → holds (cube_in literals set) x ≡ true
cube_met literals set x a = eq-eqb _ _ (fold_met set x literals (record { care = 0; want = 0 }) and_zero a)
  where
    and_zero : bit_and x 0 ≡ 0
    and_zero = same_from_bits _ _ (λ i. let u = bit_at_and x 0 i in let v = bit_at-zero i in omega arith)

-- ---- literals of a cube that holds

care_keeps : (set s : ℕ) (literals : List Literal) (cube : Cube) → bit_at cube.care s ≡ 1 → bit_at (fold (step_on set) cube literals).care s ≡ 1
care_keeps set s [] cube h = h
care_keeps set s (l ∷ ls) cube h = care_keeps set s ls (step_on set cube l) (go (has set l.number))
  where
    go : (b : Bool) → bit_at (cond b (with_literal cube l) cube).care s ≡ 1
    go true = let u = bit_at_or cube.care (2 ^ l.signal) s in let v = bit_at-lt (2 ^ l.signal) s in omega arith
    go false = h

want_keeps : (set s : ℕ) (literals : List Literal) (cube : Cube) → bit_at cube.want s ≡ 1 → bit_at (fold (step_on set) cube literals).want s ≡ 1
want_keeps set s [] cube h = h
want_keeps set s (l ∷ ls) cube h = want_keeps set s ls (step_on set cube l) (go (has set l.number) l.positive)
  where
    go : (b c : Bool) → bit_at (cond b (cube_by (bit_or cube.care (2 ^ l.signal)) (cond c (bit_or cube.want (2 ^ l.signal)) cube.want)) cube).want s ≡ 1
    go true true = let u = bit_at_or cube.want (2 ^ l.signal) s in let v = bit_at-lt (2 ^ l.signal) s in omega arith
    go true false = h
    go false c = h

cares : (set : ℕ) (literals : List Literal) (cube : Cube) (l : Literal) → Is l literals → has set l.number ≡ true → bit_at (fold (step_on set) cube literals).care l.signal ≡ 1
cares set [] cube l m t = absurd m
cares set (k ∷ ks) cube l (inl e) t =
    care_keeps set l.signal ks (step_on set cube k)
    (subst (λ (j : Literal). bit_at (step_on set cube j).care l.signal ≡ 1) (sym e)
    (ap (λ b. bit_at (cond b (with_literal cube l) cube).care l.signal) t ∙ (let u = bit_at_or cube.care (2 ^ l.signal) l.signal in let v = bit_at-pow_same l.signal in let y = bit_at-lt cube.care l.signal in omega arith)))
cares set (k ∷ ks) cube l (inr m) t = cares set ks (step_on set cube k) l m t

wants : (set : ℕ) (literals : List Literal) (cube : Cube) (l : Literal) → Is l literals → has set l.number ≡ true → l.positive ≡ true → bit_at (fold (step_on set) cube literals).want l.signal ≡ 1
wants set [] cube l m t p = absurd m
wants set (k ∷ ks) cube l (inl e) t p =
    want_keeps set l.signal ks (step_on set cube k)
    (subst (λ (j : Literal). bit_at (step_on set cube j).want l.signal ≡ 1) (sym e)
    (ap (λ b. bit_at (cond b (with_literal cube l) cube).want l.signal) t
    ∙ ap (λ b. bit_at (cond b (bit_or cube.want (2 ^ l.signal)) cube.want) l.signal) p
    ∙ (let u = bit_at_or cube.want (2 ^ l.signal) l.signal in let v = bit_at-pow_same l.signal in let y = bit_at-lt cube.want l.signal in omega arith)))
wants set (k ∷ ks) cube l (inr m) t p = wants set ks (step_on set cube k) l m t p

-- a wanted signal is that of a literal
wanted : (set s : ℕ) (literals : List Literal) (cube : Cube) → bit_at (fold (step_on set) cube literals).want s ≡ 1
    → (bit_at cube.want s ≡ 1) ⊎ ((l : Literal) × Is l literals × (has set l.number ≡ true) × (l.positive ≡ true) × (l.signal ≡ s))
wanted set s [] cube h = inl h
wanted set s (l ∷ ls) cube h = later (wanted set s ls (step_on set cube l) h)
  where
    here : (b : Bool) → has set l.number ≡ b → (c : Bool) → l.positive ≡ c → (t : Bool) → eqb s l.signal ≡ t
        → bit_at (cond b (cube_by (bit_or cube.care (2 ^ l.signal)) (cond c (bit_or cube.want (2 ^ l.signal)) cube.want)) cube).want s ≡ 1
        → (bit_at cube.want s ≡ 1) ⊎ ((k : Literal) × Is k (l ∷ ls) × (has set k.number ≡ true) × (k.positive ≡ true) × (k.signal ≡ s))
    here true e true f true g k = inr (l, inl refl, e, f, sym (eqb-true s l.signal g))
    here true e true f false g k = let u = bit_at_or cube.want (2 ^ l.signal) s in let v = bit_at-pow_other l.signal s (eqb-false s l.signal g) in inl (omega arith)
    here true e false f t g k = inl k
    here false e c f t g k = inl k

    later : (bit_at (step_on set cube l).want s ≡ 1) ⊎ ((k : Literal) × Is k ls × (has set k.number ≡ true) × (k.positive ≡ true) × (k.signal ≡ s))
        → (bit_at cube.want s ≡ 1) ⊎ ((k : Literal) × Is k (l ∷ ls) × (has set k.number ≡ true) × (k.positive ≡ true) × (k.signal ≡ s))
    later (inl k) = here (has set l.number) refl l.positive refl (eqb s l.signal) refl k
    later (inr r) = inr (r.0, inr r.1, r.2, r.3, r.4)

-- a cube that holds a letter has its literals met, where no signal is in its set with its negation
pub cube_meets : (literals : List Literal) (set x : ℕ) → holds (cube_in literals set) x ≡ true
    → ((l k : Literal) → Is l literals → Is k literals → has set l.number ≡ true → has set k.number ≡ true → l.positive ≡ true → k.positive ≡ false → l.signal ≡ k.signal → ⊥)
    → (l : Literal) → Is l literals → has set l.number ≡ true → meets_literal x l ≡ true
cube_meets literals set x h apart l m t = go l.positive refl
  where
    start : Cube
    start = record { care = 0; want = 0 }

    same : bit_and x (cube_in literals set).care ≡ (cube_in literals set).want
    same = eqb-true _ _ h

    bits : bit_at x l.signal ≡ bit_at (cube_in literals set).want l.signal
    bits =
        let a : bit_at (cube_in literals set).care l.signal ≡ 1 = cares set literals (record { care = 0; want = 0 }) l m t in
        let b = bit_at_and x (cube_in literals set).care l.signal in
        let c : bit_at (bit_and x (cube_in literals set).care) l.signal ≡ bit_at (cube_in literals set).want l.signal = ap (λ y. bit_at y l.signal) same in
        let d = bit_at-lt x l.signal in
        omega arith

    never : l.positive ≡ false → bit_at (cube_in literals set).want l.signal ≡ 1 → ⊥
    never e k = clash (wanted set l.signal literals (record { care = 0; want = 0 }) k)
      where
        clash : (bit_at 0 l.signal ≡ 1) ⊎ ((j : Literal) × Is j literals × (has set j.number ≡ true) × (j.positive ≡ true) × (j.signal ≡ l.signal)) → ⊥
        clash (inl z) = let y = bit_at-zero l.signal in omega arith
        clash (inr r) = apart r.0 l r.1 m r.2 t r.3 e r.4

    go : (b : Bool) → l.positive ≡ b → cond l.positive (nat_eq (bit_at x l.signal) 1) (not (nat_eq (bit_at x l.signal) 1)) ≡ true
    go true e =
        let a : bit_at (cube_in literals set).want l.signal ≡ 1 = wants set literals (record { care = 0; want = 0 }) l m t e in
        ap (λ b. cond b (nat_eq (bit_at x l.signal) 1) (not (nat_eq (bit_at x l.signal) 1))) e ∙ eq-eqb (bit_at x l.signal) 1 (bits ∙ a)
    go false e =
        ap (λ b. cond b (nat_eq (bit_at x l.signal) 1) (not (nat_eq (bit_at x l.signal) 1))) e
        ∙ ap not (ne_eqb (bit_at x l.signal) 1 (λ (k : bit_at x l.signal ≡ 1). never e (sym bits ∙ k)))

-- ---- the literals of the formulas

literal_in : (nodes : List Node) (s m n x : ℕ) (p : Bool) → s ≤ n → n < s + m → node_at nodes n ≡ Lit x p → Is (literal_by n x p) (flat_map (λ n. literal_at n (node_at nodes n)) (range_with_len s m))
literal_in nodes s zero n x p l k e = absurd (omega arith)
literal_in nodes s (suc m) n x p l k e = go (eqb n s) refl (λ a b. literal_in nodes (s + 1) m n x p a b e)
  where
    go : (b : Bool) → eqb n s ≡ b → (s + 1 ≤ n → n < s + 1 + m → Is (literal_by n x p) (flat_map (λ n. literal_at n (node_at nodes n)) (range_with_len (s + 1) m)))
        → Is (literal_by n x p) (literal_at s (node_at nodes s) ++ flat_map (λ n. literal_at n (node_at nodes n)) (range_with_len (s + 1) m))
    go true t rec =
        let i : n ≡ s = eqb-true n s t in
        let f : literal_at s (node_at nodes s) ≡ literal_by n x p ∷ [] = ap (λ j. literal_at j (node_at nodes j)) (sym i) ∙ ap (literal_at n) e in
        subst (λ ls. Is (literal_by n x p) (ls ++ flat_map (λ n. literal_at n (node_at nodes n)) (range_with_len (s + 1) m))) (sym f) (inl refl)
    go false t rec = let ne = eqb-false n s t in is_right (literal_at s (node_at nodes s)) _ (literal_by n x p) (rec (omega arith) (omega arith))

pub literal_of_node : (nodes : List Node) (n x : ℕ) (p : Bool) → n < length nodes → node_at nodes n ≡ Lit x p → Is (literal_by n x p) (literals_in nodes)
literal_of_node nodes n x p l e = literal_in nodes 0 (length nodes) n x p (omega arith) (omega arith) e

one_literal : (n : ℕ) (node : Node) (l : Literal) → Is l (literal_at n node) → (l.number ≡ n) × (node ≡ Lit l.signal l.positive)
one_literal n (Lit x p) l (inl e) = (sym (ap (λ (k : Literal). k.number) e), ap (λ (k : Literal). Lit k.signal k.positive) e)
one_literal n (Lit x p) l (inr m) = absurd m
one_literal n True l m = absurd m
one_literal n False l m = absurd m
one_literal n (And f g) l m = absurd m
one_literal n (Or f g) l m = absurd m
one_literal n (Next f) l m = absurd m
one_literal n (Until f g) l m = absurd m
one_literal n (Release f g) l m = absurd m

node_of_one : (nodes : List Node) (s m : ℕ) (l : Literal) → Is l (flat_map (λ n. literal_at n (node_at nodes n)) (range_with_len s m)) → node_at nodes l.number ≡ Lit l.signal l.positive
node_of_one nodes s zero l m = absurd m
node_of_one nodes s (suc k) l m = go (is_split (literal_at s (node_at nodes s)) _ l m) (λ q. node_of_one nodes (s + 1) k l q)
  where
    go : Is l (literal_at s (node_at nodes s)) ⊎ Is l (flat_map (λ n. literal_at n (node_at nodes n)) (range_with_len (s + 1) k))
        → (Is l (flat_map (λ n. literal_at n (node_at nodes n)) (range_with_len (s + 1) k)) → node_at nodes l.number ≡ Lit l.signal l.positive) → node_at nodes l.number ≡ Lit l.signal l.positive
    go (inl q) rec = let r = one_literal s (node_at nodes s) l q in ap (node_at nodes) r.0 ∙ r.1
    go (inr q) rec = rec q

pub node_of_literal : (nodes : List Node) (l : Literal) → Is l (literals_in nodes) → node_at nodes l.number ≡ Lit l.signal l.positive
node_of_literal nodes l m = node_of_one nodes 0 (length nodes) l m
