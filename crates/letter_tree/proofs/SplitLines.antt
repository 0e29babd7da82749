-- The lines of a splitting: their cubes, and the label of the first one that holds a valuation.
use Rattle.std.proofs.Common.{Bool, true, false, cond, ◌&&◌, ◌≡◌, ℕ, zero, suc, ◌+◌, ◌-◌, ◌*◌, ◌/◌, ◌%◌, ◌^◌, ◌==◌, ◌<◌, ◌≤◌, eqb, List, [], ◌∷◌, ◌++◌, length, Option, Some, None, refl, sym, ap, ◌∙◌, subst, arith, inl, inr, ◌⊎◌, bit_and, append_assoc, append-nil}
use Rattle.std.proofs.lemmas.Bool.{cases_eq}
use Rattle.std.proofs.lemmas.Bool.Decides.{Decides-eqb, nat_tests}
use Rattle.std.proofs.lemmas.Nat.{mod_below, shr_split, and_block, and_le_r, and_mask, same_from_place, pow_pos, pow-add}
use Rattle.std.proofs.lemmas.List.Elements.{All-cons, All-append}
use Rattle.std.proofs.lemmas.Option.{slice_get-get_or}
use Rattle.std.proofs.Math.Nat.{pow-le-pow_right}
use Rattle.std.specs.List.{slice_get, All}
use Rattle.word_core.specs.declared.branches.Branch.{Branch}
use Rattle.word_core.specs.declared.branches.Branch.TheVariants.{Leaf, Split}
use Rattle.word_core.specs.declared.cubes.Cube.{Cube}
use Rattle.word_core.specs.Cube.{IsCube, holds}
use Rattle.word_core.specs.Tree.{label_at, label_of}
use Rattle.letter_tree.specs.Diagram.{top, IsFork, IsNode, IsDiagram, IsRooted}
use Rattle.letter_tree.specs.Splitting.{all_cube, fixed, next_lines, lines_from, lines_at, pattern_of, splitting}
use Rattle.letter_tree.proofs.CubeBits.{bit_cases}
use Rattle.letter_tree.proofs.Diagrams.{label_at-leaf, label_at-split}
use Rattle.letter_tree.proofs.Joints.{fork_at}

-- a cube within a width is one within a greater width
pub IsCube-wider : (a b : ℕ) (c : Cube) → a ≤ b → IsCube a c → IsCube b c
IsCube-wider a b c h k =
    let p : 2 ^ a ≤ 2 ^ b = pow-le-pow_right (omega arith) h in
    (omega (arith, k.0, p), k.1)

want_below : (s : ℕ) (c : Cube) → IsCube s c → c.want < 2 ^ s
want_below s c k = omega (arith, k.0, k.1, and_le_r c.want c.care)

one_bit : (n : ℕ) → bit_and n 1 ≡ n % 2
one_bit n = and_mask n 1

-- the cube with one more signal
pub IsCube-fixed : (s : ℕ) (c : Cube) (v : Bool) → IsCube s c → IsCube (s + 1) (fixed c s v)
IsCube-fixed s c v k = (omega (arith, k.0, pow-add 2 s 1), want v)
  where
    want : (v : Bool) → bit_and (cond v (c.want + 2 ^ s) c.want) (c.care + 2 ^ s) ≡ cond v (c.want + 2 ^ s) c.want
    want true =
        let a : c.want + 2 ^ s ≡ 1 * 2 ^ s + c.want = omega arith in
        let b : c.care + 2 ^ s ≡ 1 * 2 ^ s + c.care = omega arith in
        ap (λ n. bit_and n (c.care + 2 ^ s)) a ∙ ap (λ n. bit_and (1 * 2 ^ s + c.want) n) b
        ∙ and_block s 1 1 c.want c.care (want_below s c k) k.0 ∙ ap (λ n. 1 * 2 ^ s + n) k.1 ∙ sym a
    want false =
        let a : c.want ≡ 0 * 2 ^ s + c.want = omega arith in
        let b : c.care + 2 ^ s ≡ 1 * 2 ^ s + c.care = omega arith in
        ap (λ n. bit_and n (c.care + 2 ^ s)) a ∙ ap (λ n. bit_and (0 * 2 ^ s + c.want) n) b
        ∙ and_block s 0 1 c.want c.care (want_below s c k) k.0 ∙ ap (λ n. 0 * 2 ^ s + n) k.1 ∙ sym a

eqb_blocks : (p a b x y : ℕ) → x < p → y < p → eqb (a * p + x) (b * p + y) ≡ (eqb x y && eqb a b)
eqb_blocks p a b x y hx hy = go (cases_eq x y) (cases_eq a b)
  where
    differ : ((a ≡ b) × (x ≡ y) → ⊥) → eqb (a * p + x) (b * p + y) ≡ false
    differ ne = not_true (eqb (a * p + x) (b * p + y)) (λ t. ne (same_from_place a x b y p hx hy ((Decides-eqb (a * p + x) (b * p + y)).0 t)))
      where
        not_true : (v : Bool) → (v ≡ true → ⊥) → v ≡ false
        not_true true h = absurd (h refl)
        not_true false h = refl

    is_false : (m n : ℕ) → (m ≡ n → ⊥) → eqb m n ≡ false
    is_false m n ne = grind (arith, nat_tests)

    go : (x ≡ y) ⊎ (x ≡ y → ⊥) → (a ≡ b) ⊎ (a ≡ b → ⊥) → eqb (a * p + x) (b * p + y) ≡ (eqb x y && eqb a b)
    go (inl e) (inl f) =
        (Decides-eqb (a * p + x) (b * p + y)).1 (ap (λ n. n * p + x) f ∙ ap (λ n. b * p + n) e)
        ∙ sym (ap (λ v. v && eqb a b) ((Decides-eqb x y).1 e) ∙ ap (λ v. true && v) ((Decides-eqb a b).1 f))
    go (inl e) (inr ne) =
        differ (λ h. ne h.0) ∙ sym (ap (λ v. v && eqb a b) ((Decides-eqb x y).1 e) ∙ ap (λ v. true && v) (is_false a b ne))
    go (inr ne) f = differ (λ h. ne h.1) ∙ sym (ap (λ v. v && eqb a b) (is_false x y ne))

-- it holds a valuation that the cube holds and that has the value there
pub holds_fixed : (s : ℕ) (c : Cube) (v : Bool) (bits : ℕ) → IsCube s c → holds (fixed c s v) bits ≡ (holds c bits && eqb (bits / 2 ^ s % 2) (cond v 1 0))
holds_fixed s c v bits k =
    ap (λ n. eqb n (cond v (c.want + 2 ^ s) c.want)) upper
    ∙ ap (λ n. eqb (bits / 2 ^ s % 2 * 2 ^ s + bit_and (bits % 2 ^ s) c.care) n) (wanted v)
    ∙ eqb_blocks (2 ^ s) (bits / 2 ^ s % 2) (cond v 1 0) (bit_and (bits % 2 ^ s) c.care) c.want
    (omega (arith, and_le_r (bits % 2 ^ s) c.care, k.0)) (want_below s c k)
    ∙ ap (λ n. eqb n c.want && eqb (bits / 2 ^ s % 2) (cond v 1 0)) (sym lower)
  where
    split : bits ≡ bits / 2 ^ s * 2 ^ s + bits % 2 ^ s
    split = sym (shr_split bits s)

    small : bits % 2 ^ s < 2 ^ s
    small = mod_below bits (2 ^ s) (pow_pos s)

    upper : bit_and bits (c.care + 2 ^ s) ≡ bits / 2 ^ s % 2 * 2 ^ s + bit_and (bits % 2 ^ s) c.care
    upper =
        let b : c.care + 2 ^ s ≡ 1 * 2 ^ s + c.care = omega arith in
        ap (λ n. bit_and n (c.care + 2 ^ s)) split ∙ ap (λ n. bit_and (bits / 2 ^ s * 2 ^ s + bits % 2 ^ s) n) b
        ∙ and_block s (bits / 2 ^ s) 1 (bits % 2 ^ s) c.care small k.0 ∙ ap (λ n. n * 2 ^ s + bit_and (bits % 2 ^ s) c.care) (one_bit (bits / 2 ^ s))

    lower : bit_and bits c.care ≡ bit_and (bits % 2 ^ s) c.care
    lower =
        let b : c.care ≡ 0 * 2 ^ s + c.care = omega arith in
        let z : bit_and (bits / 2 ^ s) 0 ≡ 0 = omega (arith, and_le_r (bits / 2 ^ s) 0) in
        ap (λ n. bit_and n c.care) split ∙ ap (λ n. bit_and (bits / 2 ^ s * 2 ^ s + bits % 2 ^ s) n) b
        ∙ and_block s (bits / 2 ^ s) 0 (bits % 2 ^ s) c.care small k.0 ∙ ap (λ n. n * 2 ^ s + bit_and (bits % 2 ^ s) c.care) z ∙ omega arith

    wanted : (v : Bool) → cond v (c.want + 2 ^ s) c.want ≡ cond v 1 0 * 2 ^ s + c.want
    wanted true = omega arith
    wanted false = omega arith

-- enough steps give the same lines
next_same : (w : ℕ) (nodes : List Branch) (place : ℕ) (c : Cube) (f g : ℕ → Cube → List (Cube × ℕ)) → ((p : ℕ) (c : Cube) → p < place → f p c ≡ g p c) → (o : Option Branch) → IsNode w nodes place o → next_lines f c o ≡ next_lines g c o
next_same w nodes place c f g h None k = refl
next_same w nodes place c f g h (Some (Leaf l)) k = refl
next_same w nodes place c f g h (Some (Split s lo hi)) k =
    ap (λ t. t ++ f hi (fixed c s true)) (h lo (fixed c s false) k.low_earlier) ∙ ap (λ t. g lo (fixed c s false) ++ t) (h hi (fixed c s true) k.high_earlier)

lines_from-more : (w : ℕ) (nodes : List Branch) → IsDiagram w nodes → (n m place : ℕ) (c : Cube) → place < n → place < m → lines_from n nodes place c ≡ lines_from m nodes place c
lines_from-more w nodes d zero m place c a b = absurd (omega (arith, a))
lines_from-more w nodes d (suc n) zero place c a b = absurd (omega (arith, b))
lines_from-more w nodes d (suc n) (suc m) place c a b =
    next_same w nodes place c (lines_from n nodes) (lines_from m nodes) (λ p c' h. lines_from-more w nodes d n m p c' (omega arith) (omega arith)) (slice_get nodes place) (d.node place)

pub lines_at-leaf : (nodes : List Branch) (place l : ℕ) (c : Cube) → slice_get nodes place ≡ Some (Leaf l) → lines_at nodes place c ≡ (c, l) ∷ []
unfolding lines_at
lines_at-leaf nodes place l c e = rw e refl

pub lines_at-split : (w : ℕ) (nodes : List Branch) (place s lo hi : ℕ) (c : Cube) → IsDiagram w nodes → slice_get nodes place ≡ Some (Split s lo hi) → lines_at nodes place c ≡ lines_at nodes lo (fixed c s false) ++ lines_at nodes hi (fixed c s true)
unfolding lines_at
lines_at-split w nodes place s lo hi c d e =
    ap (next_lines (lines_from place nodes) c) e
    ∙ ap (λ t. t ++ lines_from place nodes hi (fixed c s true)) (lines_from-more w nodes d place (suc lo) lo (fixed c s false) k.low_earlier (omega arith))
    ∙ ap (λ t. lines_from (suc lo) nodes lo (fixed c s false) ++ t) (lines_from-more w nodes d place (suc hi) hi (fixed c s true) k.high_earlier (omega arith))
  where
    k : IsFork w nodes place s lo hi
    k = fork_at w nodes place s lo hi d e

bit_test : (n : ℕ) (v : Bool) → (n ≡ 0) ⊎ (n ≡ 1) → eqb n (cond v 1 0) ≡ cond v (n == 1) (cond (n == 1) false true)
bit_test n true h = refl
bit_test n false (inl z) = ap (λ m. eqb m 0) z ∙ sym (ap (λ m. cond (m == 1) false true) z)
bit_test n false (inr o) = ap (λ m. eqb m 0) o ∙ sym (ap (λ m. cond (m == 1) false true) o)

-- the first line that holds a valuation, where lines of a node's function stand in front of others
abbrev Decide : ℕ → List Branch → (ℕ → Cube → List (Cube × ℕ)) → ℕ → Type 0
Decide w nodes lines place =
    (c : Cube) → IsCube (top w (slice_get nodes place)) c → (rest : List (Cube × ℕ)) (bits : ℕ)
    → pattern_of (lines place c ++ rest) bits ≡ cond (holds c bits) (Some (label_at nodes place bits)) (pattern_of rest bits)

decide_split : (w : ℕ) (nodes : List Branch) (lines : ℕ → Cube → List (Cube × ℕ)) (place s lo hi : ℕ) → IsDiagram w nodes → slice_get nodes place ≡ Some (Split s lo hi)
    → Decide w nodes lines lo → Decide w nodes lines hi → (c : Cube) → IsCube s c → (rest : List (Cube × ℕ)) (bits : ℕ)
    → pattern_of ((lines lo (fixed c s false) ++ lines hi (fixed c s true)) ++ rest) bits ≡ cond (holds c bits) (Some (label_at nodes place bits)) (pattern_of rest bits)
decide_split w nodes lines place s lo hi d e low high c k rest bits =
    ap (λ t. pattern_of t bits) (append_assoc (lines lo (fixed c s false)) (lines hi (fixed c s true)) rest)
    ∙ low (fixed c s false) (IsCube-wider (s + 1) (top w (slice_get nodes lo)) (fixed c s false) (omega (arith, f.low_later)) (IsCube-fixed s c false k)) (lines hi (fixed c s true) ++ rest) bits
    ∙ ap (λ o. cond (holds (fixed c s false) bits) (Some (label_at nodes lo bits)) o)
    (high (fixed c s true) (IsCube-wider (s + 1) (top w (slice_get nodes hi)) (fixed c s true) (omega (arith, f.high_later)) (IsCube-fixed s c true k)) rest bits)
    ∙ ap (λ v. cond v (Some (label_at nodes lo bits)) (cond (holds (fixed c s true) bits) (Some (label_at nodes hi bits)) (pattern_of rest bits))) (holds_fixed s c false bits k ∙ ap (λ v. holds c bits && v) (bit_test bit false (bit_cases (bits / 2 ^ s))))
    ∙ ap (λ v. cond (holds c bits && cond (bit == 1) false true) (Some (label_at nodes lo bits)) (cond v (Some (label_at nodes hi bits)) (pattern_of rest bits))) (holds_fixed s c true bits k ∙ ap (λ v. holds c bits && v) (bit_test bit true (bit_cases (bits / 2 ^ s))))
    ∙ decide (holds c bits) (bit == 1)
    ∙ ap (λ l. cond (holds c bits) (Some l) (pattern_of rest bits)) (sym (label_at-split w nodes d place s lo hi bits e))
  where
    f : IsFork w nodes place s lo hi
    f = fork_at w nodes place s lo hi d e

    bit : ℕ
    bit = bits / 2 ^ s % 2

    decide : (u v : Bool) → cond (u && cond v false true) (Some (label_at nodes lo bits)) (cond (u && v) (Some (label_at nodes hi bits)) (pattern_of rest bits)) ≡ cond u (Some (label_at nodes (cond v hi lo) bits)) (pattern_of rest bits)
    decide true true = refl
    decide true false = refl
    decide false v = refl

pub pattern_of-lines : (w : ℕ) (nodes : List Branch) → IsDiagram w nodes → (n place : ℕ) → place < n → place < length nodes → Decide w nodes (lines_from n nodes) place
pattern_of-lines w nodes d zero place h in_ c k rest bits = absurd (omega (arith, h))
pattern_of-lines w nodes d (suc n) place h in_ c k rest bits =
    go (slice_get nodes place) refl (λ p less. pattern_of-lines w nodes d n p (omega arith) (omega arith))
  where
    go : (o : Option Branch) → slice_get nodes place ≡ o → ((p : ℕ) → p < place → Decide w nodes (lines_from n nodes) p)
        → pattern_of (next_lines (lines_from n nodes) c (slice_get nodes place) ++ rest) bits ≡ cond (holds c bits) (Some (label_at nodes place bits)) (pattern_of rest bits)
    go None e ih = absurd (past place in_ e)
      where
        past : (i : ℕ) → i < length nodes → slice_get nodes i ≡ None → ⊥
        past i h' e' = let g = slice_get-get_or nodes i (Leaf 0) h' in cc
    go (Some (Leaf l)) e ih =
        ap (λ o. pattern_of (next_lines (lines_from n nodes) c o ++ rest) bits) e
        ∙ ap (λ m. cond (holds c bits) (Some m) (pattern_of rest bits)) (sym (label_at-leaf nodes place l bits e))
    go (Some (Split s lo hi)) e ih =
        ap (λ o. pattern_of (next_lines (lines_from n nodes) c o ++ rest) bits) e
        ∙ decide_split w nodes (lines_from n nodes) place s lo hi d e (ih lo k'.low_earlier) (ih hi k'.high_earlier) c (subst (λ o. IsCube (top w o) c) e k) rest bits
      where
        k' : IsFork w nodes place s lo hi
        k' = fork_at w nodes place s lo hi d e

-- each line's cube is within the width
abbrev Fits : ℕ → Cube × ℕ → Type 0
Fits w p = IsCube w p.0

none_fit : (w : ℕ) → All (Fits w) []
none_fit w k d h = absurd (omega (arith, h))

pub cubes_of-lines : (w : ℕ) (nodes : List Branch) → IsDiagram w nodes → (n place : ℕ) (c : Cube) → IsCube (top w (slice_get nodes place)) c → All (Fits w) (lines_from n nodes place c)
cubes_of-lines w nodes d zero place c k = none_fit w
cubes_of-lines w nodes d (suc n) place c k =
    go (slice_get nodes place) (d.node place) k (λ p c' k'. cubes_of-lines w nodes d n p c' k')
  where
    go : (o : Option Branch) → IsNode w nodes place o → IsCube (top w o) c → ((p : ℕ) (c' : Cube) → IsCube (top w (slice_get nodes p)) c' → All (Fits w) (lines_from n nodes p c'))
        → All (Fits w) (next_lines (lines_from n nodes) c o)
    go None f k' ih = none_fit w
    go (Some (Leaf l)) f k' ih = All-cons (Fits w) (c, l) [] k' (none_fit w)
    go (Some (Split s lo hi)) f k' ih =
        All-append (Fits w) (lines_from n nodes lo (fixed c s false)) (lines_from n nodes hi (fixed c s true))
        (ih lo (fixed c s false) (IsCube-wider (s + 1) (top w (slice_get nodes lo)) (fixed c s false) (omega (arith, f.low_later)) (IsCube-fixed s c false k')))
        (ih hi (fixed c s true) (IsCube-wider (s + 1) (top w (slice_get nodes hi)) (fixed c s true) (omega (arith, f.high_later)) (IsCube-fixed s c true k')))

all_holds : (bits : ℕ) → holds all_cube bits ≡ true
all_holds bits = ap (λ n. eqb n 0) nothing
  where
    nothing : bit_and bits 0 ≡ 0
    nothing = omega (arith, and_le_r bits 0)

all_fits : (w : ℕ) → IsCube w all_cube
all_fits w = (pow_pos w, refl)

pub splitting_cubes : (w : ℕ) (nodes : List Branch) → IsRooted w nodes → All (Fits w) (splitting nodes)
unfolding lines_at
splitting_cubes w nodes r = cubes_of-lines w nodes r.diagram (suc (length nodes - 1)) (length nodes - 1) all_cube (all_fits (top w (slice_get nodes (length nodes - 1))))

pub splitting_label : (w : ℕ) (nodes : List Branch) → IsRooted w nodes → (bits : ℕ) → pattern_of (splitting nodes) bits ≡ Some (label_of nodes bits)
unfolding lines_at
splitting_label w nodes r bits =
    ap (λ t. pattern_of t bits) (sym (append-nil (splitting nodes)))
    ∙ pattern_of-lines w nodes r.diagram (suc (length nodes - 1)) (length nodes - 1) (omega arith) (omega (arith, r.some)) all_cube (all_fits (top w (slice_get nodes (length nodes - 1)))) [] bits
    ∙ ap (λ v. cond v (Some (label_of nodes bits)) None) (all_holds bits)

-- what the code puts behind a list
pub put_split : (w : ℕ) (nodes : List Branch) (at s lo hi : ℕ) (c c0 c1 : Cube) (out o1 o2 : List (Cube × ℕ)) → IsDiagram w nodes → slice_get nodes at ≡ Some (Split s lo hi)
    → c0 ≡ fixed c s false → c1 ≡ fixed c s true → o1 ≡ out ++ lines_at nodes lo c0 → o2 ≡ o1 ++ lines_at nodes hi c1 → o2 ≡ out ++ lines_at nodes at c
put_split w nodes at s lo hi c c0 c1 out o1 o2 d e e0 e1 f g =
    g ∙ ap (λ t. t ++ lines_at nodes hi c1) f ∙ append_assoc out (lines_at nodes lo c0) (lines_at nodes hi c1)
    ∙ ap (λ k. out ++ (lines_at nodes lo k ++ lines_at nodes hi c1)) e0 ∙ ap (λ k. out ++ (lines_at nodes lo (fixed c s false) ++ lines_at nodes hi k)) e1
    ∙ ap (λ t. out ++ t) (sym (lines_at-split w nodes at s lo hi c d e))

pub whole_splitting : (out o1 : List (Cube × ℕ)) (read nodes : List Branch) → out ≡ [] → read ≡ nodes → o1 ≡ out ++ lines_at read (length read - 1) all_cube → o1 ≡ splitting nodes
whole_splitting out o1 read nodes e f g = g ∙ ap (λ t. t ++ splitting read) e ∙ ap splitting f
