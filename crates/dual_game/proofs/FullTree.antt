-- The tree that leads each valuation to itself.
use Rattle.std.proofs.Common.{◌≡◌, ℕ, zero, suc, ◌+◌, ◌-◌, ◌*◌, ◌/◌, ◌%◌, ◌^◌, ◌==◌, ◌<◌, ◌≤◌, Bool, true, false, cond, List, [], ◌∷◌, ◌++◌, length, Option, Some, None, refl, sym, ◌∙◌, ap, subst, arith, length-append}
use Rattle.std.specs.Prelude.{slice_get}
use Rattle.std.proofs.lemmas.Bool.{eqb-true, eqb-false}
use Rattle.std.proofs.lemmas.Nat.{pow-add, mod-pow-add, mod_low, shr-shr}
use Rattle.std.proofs.lemmas.Option.{same_Some}
use Rattle.word_core.specs.declared.branches.Branch.{Branch}
use Rattle.word_core.specs.declared.branches.Branch.TheVariants.{Leaf, Split}
use Rattle.word_core.specs.Tree.{IsTree, IsNodeAt, label_at, label_of, LabelHas, TestsBelow}
use Rattle.word_core.proofs.TreeLabels.{label_leaf, label_split}
use Rattle.game_form.specs.Tree.{IsTreeOver}

abbrev pub size : ℕ → ℕ
size zero = 1
size (suc n) = size n + (size n + 1)

-- the nodes over so many signals from one on, behind so many others, with the labels from one on
abbrev pub full : ℕ → ℕ → ℕ → ℕ → List Branch
full zero signal label from = Leaf label ∷ []
full (suc n) signal label from =
    full n (signal + 1) label from ++ (full n (signal + 1) (label + 2 ^ signal) (from + size n) ++ Split signal (from + size n - 1) (from + size n + size n - 1) ∷ [])

size_some : (n : ℕ) → 0 < size n
size_some zero = omega arith
size_some (suc n) = omega arith

length_full : (n s l o : ℕ) → length (full n s l o) ≡ size n
length_full zero s l o = refl
length_full (suc n) s l o =
    length-append (full n (s + 1) l o) (full n (s + 1) (l + 2 ^ s) (o + size n) ++ Split s (o + size n - 1) (o + size n + size n - 1) ∷ [])
    ∙ ap (λ k. k + length (full n (s + 1) (l + 2 ^ s) (o + size n) ++ Split s (o + size n - 1) (o + size n + size n - 1) ∷ [])) (length_full n (s + 1) l o)
    ∙ ap (λ k. size n + k) (length-append (full n (s + 1) (l + 2 ^ s) (o + size n)) (Split s (o + size n - 1) (o + size n + size n - 1) ∷ [])
    ∙ ap (λ k. k + 1) (length_full n (s + 1) (l + 2 ^ s) (o + size n)))

get_front : {X : Type 0} (xs ys : List X) (i : ℕ) → i < length xs → slice_get (xs ++ ys) i ≡ slice_get xs i
get_front [] ys i l = absurd (omega arith)
get_front (x ∷ xs) ys zero l = refl
get_front (x ∷ xs) ys (suc i) l = get_front xs ys i (omega arith)

get_behind : {X : Type 0} (xs ys : List X) (i : ℕ) → slice_get (xs ++ ys) (length xs + i) ≡ slice_get ys i
get_behind [] ys i = let e : 0 + i ≡ i = omega arith in ap (slice_get ys) e
get_behind (x ∷ xs) ys i = let e : suc (length xs) + i ≡ suc (length xs + i) = omega arith in ap (slice_get (x ∷ (xs ++ ys))) e ∙ get_behind xs ys i

-- what holds of each node at its place
abbrev Each : (ℕ → Branch → Type 0) → ℕ → List Branch → Type 0
Each P from [] = Unit {0}
Each P from (b ∷ bs) = P from b × Each P (from + 1) bs

each_append : (P : ℕ → Branch → Type 0) (from : ℕ) (xs ys : List Branch) → Each P from xs → Each P (from + length xs) ys → Each P from (xs ++ ys)
each_append P from [] ys a b = let e : from + 0 ≡ from = omega arith in subst (λ k. Each P k ys) e b
each_append P from (x ∷ xs) ys a b = let e : from + suc (length xs) ≡ from + 1 + length xs = omega arith in (a.0, each_append P (from + 1) xs ys a.1 (subst (λ k. Each P k ys) e b))

each_at : (P : ℕ → Branch → Type 0) (from : ℕ) (xs : List Branch) (i : ℕ) (b : Branch) → Each P from xs → slice_get xs i ≡ Some b → P (from + i) b
each_at P from [] i b all e = absurd (cc)
each_at P from (x ∷ xs) zero b all e =
    let at : from + 0 ≡ from = omega arith in
    let same : x ≡ b = same_Some x b e in
    subst (λ k. P k b) (sym at) (subst (P from) same all.0)
each_at P from (x ∷ xs) (suc i) b all e = let at : from + 1 + i ≡ from + suc i = omega arith in subst (λ k. P k b) at (each_at P (from + 1) xs i b all.1 e)

abbrev Fits : ℕ → ℕ → Branch → Type 0
Fits width place (Leaf label) = label < 2 ^ width
Fits width place (Split signal low high) = (signal < width) × (low < place) × (high < place)

twice : (s : ℕ) → 2 ^ (s + 1) ≡ 2 ^ s + 2 ^ s
twice s = let e : 2 ^ s * 2 ≡ 2 ^ s + 2 ^ s = omega arith in pow-add 2 s 1 ∙ e

full_fits : (width n s l o : ℕ) → n + s ≡ width → l < 2 ^ s → Each (Fits width) o (full n s l o)
full_fits width zero s l o in_width low = let e : s ≡ width = omega arith in (subst (λ w. l < 2 ^ w) e low, tt)
full_fits width (suc n) s l o in_width low =
    let first : Each (Fits width) o (full n (s + 1) l o) = full_fits width n (s + 1) l o (omega arith) (omega (arith, low, twice s)) in
    let second : Each (Fits width) (o + size n) (full n (s + 1) (l + 2 ^ s) (o + size n)) = full_fits width n (s + 1) (l + 2 ^ s) (o + size n) (omega arith) (omega (arith, low, twice s)) in
    let some = size_some n in
    let last : Each (Fits width) (o + size n + size n) (Split s (o + size n - 1) (o + size n + size n - 1) ∷ []) = ((omega arith, omega arith, omega arith), tt) in
    each_append (Fits width) o (full n (s + 1) l o) (full n (s + 1) (l + 2 ^ s) (o + size n) ++ Split s (o + size n - 1) (o + size n + size n - 1) ∷ []) first
    (subst (λ k. Each (Fits width) (o + k) (full n (s + 1) (l + 2 ^ s) (o + size n) ++ Split s (o + size n - 1) (o + size n + size n - 1) ∷ [])) (sym (length_full n (s + 1) l o))
    (each_append (Fits width) (o + size n) (full n (s + 1) (l + 2 ^ s) (o + size n)) (Split s (o + size n - 1) (o + size n + size n - 1) ∷ []) second
    (subst (λ k. Each (Fits width) (o + size n + k) (Split s (o + size n - 1) (o + size n + size n - 1) ∷ [])) (sym (length_full n (s + 1) (l + 2 ^ s) (o + size n))) last)))

-- the nodes of a list from a place on
abbrev StandsAt : List Branch → ℕ → List Branch → Type 0
StandsAt nodes from block = (i : ℕ) → i < length block → slice_get nodes (from + i) ≡ slice_get block i

stands_left : (nodes : List Branch) (from : ℕ) (xs ys : List Branch) → StandsAt nodes from (xs ++ ys) → StandsAt nodes from xs
stands_left nodes from xs ys at i l = at i (omega (arith, l, length-append xs ys)) ∙ get_front xs ys i l

stands_right : (nodes : List Branch) (from n : ℕ) (xs ys : List Branch) → length xs ≡ n → StandsAt nodes from (xs ++ ys) → StandsAt nodes (from + n) ys
stands_right nodes from n xs ys size at i l =
    let e : from + n + i ≡ from + (length xs + i) = omega (arith, size) in
    ap (slice_get nodes) e ∙ at (length xs + i) (omega (arith, l, length-append xs ys)) ∙ get_behind xs ys i

halved : (s bits : ℕ) → bits / 2 ^ (s + 1) ≡ bits / 2 ^ s / 2
halved s bits = sym (shr-shr bits s 1)

lower_half : (s n l bits : ℕ) → bits / 2 ^ s % 2 ≡ 0 → l + bits / 2 ^ (s + 1) % 2 ^ n * 2 ^ (s + 1) ≡ l + bits / 2 ^ s % 2 ^ (n + 1) * 2 ^ s
lower_half s n l bits b =
    let q = bits / 2 ^ s in
    let m : bits / 2 ^ s % 2 ^ (n + 1) ≡ (bits / 2 ^ s / 2 % 2 ^ n) * 2 + bits / 2 ^ s % 2 = mod-pow-add (bits / 2 ^ s) n 1 in
    ap (λ k. l + k % 2 ^ n * 2 ^ (s + 1)) (halved s bits) ∙ ap (λ k. l + bits / 2 ^ s / 2 % 2 ^ n * k) (twice s) ∙ sums (bits / 2 ^ s / 2 % 2 ^ n) (2 ^ s) ∙ ap (λ k. l + ((bits / 2 ^ s / 2 % 2 ^ n) * 2 + k) * 2 ^ s) (sym b) ∙ ap (λ k. l + k * 2 ^ s) (sym m)
  where
    sums : (k p : ℕ) → l + k * (p + p) ≡ l + (k * 2 + 0) * p
    sums k p = omega arith

upper_half : (s n l bits : ℕ) → bits / 2 ^ s % 2 ≡ 1 → l + 2 ^ s + bits / 2 ^ (s + 1) % 2 ^ n * 2 ^ (s + 1) ≡ l + bits / 2 ^ s % 2 ^ (n + 1) * 2 ^ s
upper_half s n l bits b =
    let m : bits / 2 ^ s % 2 ^ (n + 1) ≡ (bits / 2 ^ s / 2 % 2 ^ n) * 2 + bits / 2 ^ s % 2 = mod-pow-add (bits / 2 ^ s) n 1 in
    ap (λ k. l + 2 ^ s + k % 2 ^ n * 2 ^ (s + 1)) (halved s bits) ∙ ap (λ k. l + 2 ^ s + bits / 2 ^ s / 2 % 2 ^ n * k) (twice s) ∙ sums (bits / 2 ^ s / 2 % 2 ^ n) (2 ^ s) ∙ ap (λ k. l + ((bits / 2 ^ s / 2 % 2 ^ n) * 2 + k) * 2 ^ s) (sym b) ∙ ap (λ k. l + k * 2 ^ s) (sym m)
  where
    sums : (k p : ℕ) → l + p + k * (p + p) ≡ l + (k * 2 + 1) * p
    sums k p = omega arith

not_one : (q : ℕ) → (q % 2 ≡ 1 → ⊥) → q % 2 ≡ 0
not_one q ne = omega arith

label_full : (nodes : List Branch) → IsTree nodes → (bits n s l o : ℕ) → StandsAt nodes o (full n s l o) → label_at nodes (o + size n - 1) bits ≡ l + bits / 2 ^ s % 2 ^ n * 2 ^ s
label_full nodes tree bits zero s l o at =
    let here : o + 1 - 1 ≡ o + 0 = omega arith in
    let one : bits / 2 ^ s % 1 ≡ 0 = omega arith in
    let none : l ≡ l + 0 * 2 ^ s = omega arith in
    ap (λ p. label_at nodes p bits) here ∙ label_leaf nodes (o + 0) bits l (at 0 (omega arith)) ∙ none ∙ ap (λ k. l + k * 2 ^ s) (sym one)
label_full nodes tree bits (suc n) s l o at =
    ap (λ p. label_at nodes p bits) place ∙ label_split nodes tree (o + size n + size n) bits s (o + size n - 1) (o + size n + size n - 1) top
    ∙ part (λ stands. label_full nodes tree bits n (s + 1) (l + 2 ^ s) (o + size n) stands) (λ stands. label_full nodes tree bits n (s + 1) l o stands) (bits / 2 ^ s % 2 == 1) refl
    ∙ ap (λ k. l + bits / 2 ^ s % 2 ^ k * 2 ^ s) next
  where
    next : n + 1 ≡ suc n
    next = omega arith

    place : o + size (suc n) - 1 ≡ o + size n + size n
    place = omega arith

    behind : StandsAt nodes (o + size n) (full n (s + 1) (l + 2 ^ s) (o + size n) ++ Split s (o + size n - 1) (o + size n + size n - 1) ∷ [])
    behind = stands_right nodes o (size n) (full n (s + 1) l o) (full n (s + 1) (l + 2 ^ s) (o + size n) ++ Split s (o + size n - 1) (o + size n + size n - 1) ∷ []) (length_full n (s + 1) l o) at

    top : slice_get nodes (o + size n + size n) ≡ Some (Split s (o + size n - 1) (o + size n + size n - 1))
    top =
        let e : o + size n + size n ≡ o + size n + size n + 0 = omega arith in
        ap (slice_get nodes) e
        ∙ stands_right nodes (o + size n) (size n) (full n (s + 1) (l + 2 ^ s) (o + size n)) (Split s (o + size n - 1) (o + size n + size n - 1) ∷ []) (length_full n (s + 1) (l + 2 ^ s) (o + size n)) behind 0 (omega arith)

    part : (StandsAt nodes (o + size n) (full n (s + 1) (l + 2 ^ s) (o + size n)) → label_at nodes (o + size n + size n - 1) bits ≡ l + 2 ^ s + bits / 2 ^ (s + 1) % 2 ^ n * 2 ^ (s + 1))
        → (StandsAt nodes o (full n (s + 1) l o) → label_at nodes (o + size n - 1) bits ≡ l + bits / 2 ^ (s + 1) % 2 ^ n * 2 ^ (s + 1))
        → (b : Bool) → (bits / 2 ^ s % 2 == 1) ≡ b → label_at nodes (cond b (o + size n + size n - 1) (o + size n - 1)) bits ≡ l + bits / 2 ^ s % 2 ^ (n + 1) * 2 ^ s
    part high low true e =
        high (stands_left nodes (o + size n) (full n (s + 1) (l + 2 ^ s) (o + size n)) (Split s (o + size n - 1) (o + size n + size n - 1) ∷ []) behind)
        ∙ upper_half s n l bits (eqb-true (bits / 2 ^ s % 2) 1 e)
    part high low false e =
        low (stands_left nodes o (full n (s + 1) l o) (full n (s + 1) (l + 2 ^ s) (o + size n) ++ Split s (o + size n - 1) (o + size n + size n - 1) ∷ []) at)
        ∙ lower_half s n l bits (not_one (bits / 2 ^ s) (eqb-false (bits / 2 ^ s % 2) 1 e))

-- the tree over so many signals
module _ (width : ℕ) (narrow : width ≤ 64) where
  abbrev nodes : List Branch
  nodes = full width 0 0 0

  fits : Each (Fits width) 0 (full width 0 0 0)
  fits = full_fits width width 0 0 0 (omega arith) (omega arith)

  is_tree : IsTree (full width 0 0 0)
  is_tree = record { some = omega (arith, length_full width 0 0 0, size_some width); placed = λ place. by place (slice_get nodes place) refl }
    where
      by : (place : ℕ) (o : Option Branch) → slice_get (full width 0 0 0) place ≡ o → IsNodeAt place o
      by place None e = tt
      by place (Some (Leaf l)) e = tt
      by place (Some (Split s lo hi)) e = let f : Fits width (0 + place) (Split s lo hi) = each_at (Fits width) 0 (full width 0 0 0) place (Split s lo hi) fits e in (omega (arith, f.0), omega (arith, f.1), omega (arith, f.2))

  pub full_over : IsTreeOver width (2 ^ width) (full width 0 0 0)
  full_over = record { tree = is_tree; signals = λ place. tests place (slice_get nodes place) refl; labels = λ place. labels place (slice_get nodes place) refl }
    where
      tests : (place : ℕ) (o : Option Branch) → slice_get (full width 0 0 0) place ≡ o → TestsBelow width o
      tests place None e = tt
      tests place (Some (Leaf l)) e = tt
      tests place (Some (Split s lo hi)) e = let f : Fits width (0 + place) (Split s lo hi) = each_at (Fits width) 0 (full width 0 0 0) place (Split s lo hi) fits e in f.0

      labels : (place : ℕ) (o : Option Branch) → slice_get (full width 0 0 0) place ≡ o → LabelHas (λ l. l < 2 ^ width) o
      labels place None e = tt
      labels place (Some (Leaf l)) e = each_at (Fits width) 0 (full width 0 0 0) place (Leaf l) fits e
      labels place (Some (Split s lo hi)) e = tt

  pub full_label : (bits : ℕ) → bits < 2 ^ width → label_of (full width 0 0 0) bits ≡ bits
  full_label bits l =
      let at : length (full width 0 0 0) - 1 ≡ 0 + size width - 1 = omega (arith, length_full width 0 0 0) in
      let whole : bits / 2 ^ 0 ≡ bits = omega arith in
      let sum : 0 + bits * 1 ≡ bits = omega arith in
      let none : bits ≡ 0 * 2 ^ width + bits = omega arith in
      ap (λ p. label_at (full width 0 0 0) p bits) at ∙ label_full (full width 0 0 0) is_tree bits width 0 0 0 (λ i k. let e : 0 + i ≡ i = omega arith in ap (slice_get (full width 0 0 0)) e)
      ∙ ap (λ k. 0 + k % 2 ^ width * 1) whole ∙ ap (λ k. 0 + k * 1) (ap (λ k. k % 2 ^ width) none ∙ mod_low 0 width bits l) ∙ sum
