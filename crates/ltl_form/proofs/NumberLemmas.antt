-- What numbering the formulas inside a tree does to the trees by number.
use Rattle.std.proofs.Common.{◌≡◌, ℕ, suc, ◌<◌, ◌≤◌, Bool, true, false, ◌&&◌, max, if◌then◌else◌, List, [], ◌∷◌, ◌++◌, length, get_or, All, nat_lt, refl, ap, sym, ◌∙◌, subst, arith}
use native.Mathlib.Decide.{ℕ_discrete}
use mathlib.Core.Bool.{Bool-discrete}
use Rattle.std.specs.List.{Contains}
use Rattle.std.proofs.lemmas.Bool.{and_parts}
use borrow.Author.Tests.{ltb-true, ltb-false}
use Rattle.std.proofs.lemmas.List.{get_or_append_left, get_or_push, get_or_default, length_push}
use Rattle.std.proofs.lemmas.List.Elements.{Contains-append_left, Contains-push, All-push, All-contains}
use Rattle.std.proofs.lemmas.List.Folds.{Any-from_list_any, list_any_at}
use Rattle.ltl_form.specs.Tree.{Tree, truth, falsity, literal, conjoined, disjoined, following, until, release, Tree-discrete, tree_below}
use Rattle.ltl_form.specs.Numbering.{operands_numbered}
use Rattle.ltl_form.specs.Numbered.{is_yes, same_tree, has_tree, with_tree, numbered, AreDistinct, height}

pub same_tree_is : (f g : Tree) → same_tree f g ≡ true → f ≡ g
unfolding same_tree
same_tree_is f g h = go (Tree-discrete ℕ_discrete Bool-discrete f g) h
  where
    go : (d : Dec (f ≡ g)) → is_yes d ≡ true → f ≡ g
    go (yes e) h = e
    go (no n) h = absurd (cc)

pub same_tree_self : (f : Tree) → same_tree f f ≡ true
unfolding same_tree
same_tree_self f = go (Tree-discrete ℕ_discrete Bool-discrete f f)
  where
    go : (d : Dec (f ≡ f)) → is_yes d ≡ true
    go (yes e) = refl
    go (no n) = absurd (n refl)

pub has_contains : (ts : List Tree) (t : Tree) → has_tree ts t ≡ true → Contains ts t
has_contains ts t h =
    let a = Any-from_list_any (same_tree t) ts h in
    subst (Contains ts) (sym (same_tree_is t a.1 a.4)) (a.0, a.2, a.3)

pub contains_has : (ts : List Tree) (t : Tree) → Contains ts t → has_tree ts t ≡ true
contains_has ts t h = list_any_at (same_tree t) ts h.0 t h.1 (subst (λ u. same_tree t u ≡ true) (sym h.2) (same_tree_self t))

pub with_again : (ts : List Tree) (t : Tree) → has_tree ts t ≡ true → with_tree ts t ≡ ts
with_again ts t h = ap (λ b. if b then ts else ts ++ t ∷ []) h

pub with_new : (ts : List Tree) (t : Tree) → has_tree ts t ≡ false → with_tree ts t ≡ ts ++ t ∷ []
with_new ts t h = ap (λ b. if b then ts else ts ++ t ∷ []) h

-- each tree of a list is nested at most as deep as the list is long
abbrev Fits : List Tree → Type 0
Fits ts = All (λ u. height u ≤ length ts) ts

fits_more : (ts : List Tree) (t : Tree) → Fits ts → height t ≤ suc (length ts) → Fits (ts ++ t ∷ [])
fits_more ts t fits low =
    let long : length (ts ++ t ∷ []) ≡ suc (length ts) = omega (arith, length_push ts t) in
    subst (λ n. All (λ u. height u ≤ n) (ts ++ t ∷ [])) (sym long)
    (All-push (λ u. height u ≤ suc (length ts)) ts t (λ k d l. let h : height (get_or ts k d) ≤ length ts = fits k d l in omega (arith, h)) low)

-- the list us is ts with further trees, and a tree whose operands it has
record Inside (t : Tree) (ts us : List Tree) : Type 0 where
  longer : length ts ≤ length us
  same : (k : ℕ) (d : Tree) → k < length ts → get_or us k d ≡ get_or ts k d
  keeps : (u : Tree) → Contains ts u → Contains us u
  fits : Fits ts → Fits us × (height t ≤ suc (length us))
  lower : (n : ℕ) → All (λ u. height u < n) ts → height t ≤ n → All (λ u. height u < n) us
  below : (n : ℕ) → All (λ u. tree_below n u ≡ true) ts → tree_below n t ≡ true → All (λ u. tree_below n u ≡ true) us

-- the list us is ts with further trees, among them the tree
pub record Grown (t : Tree) (ts us : List Tree) : Type 0 where
  pub has : Contains us t
  pub longer : length ts ≤ length us
  pub same : (k : ℕ) (d : Tree) → k < length ts → get_or us k d ≡ get_or ts k d
  pub keeps : (u : Tree) → Contains ts u → Contains us u
  pub fits : Fits ts → Fits us
  pub lower : (n : ℕ) → All (λ u. height u < n) ts → height t < n → All (λ u. height u < n) us
  pub below : (n : ℕ) → All (λ u. tree_below n u ≡ true) ts → tree_below n t ≡ true → All (λ u. tree_below n u ≡ true) us

grown_from : (t : Tree) (ts us : List Tree) → Inside t ts us → Grown t ts (with_tree us t)
grown_from t ts us h = go (has_tree us t) refl
  where
    go : (b : Bool) → has_tree us t ≡ b → Grown t ts (if b then us else us ++ t ∷ [])
    go true e = record {
      has = has_contains us t e;
      longer = h.longer;
      same = h.same;
      keeps = h.keeps;
      fits = λ f. (h.fits f).0;
      lower = λ n a l. h.lower n a (omega arith);
      below = h.below;
    }
    go false e = record {
      has = Contains-push us t;
      longer = omega (arith, h.longer, length_push us t);
      same = λ k d l. get_or_append_left us (t ∷ []) d k (omega (arith, h.longer)) ∙ h.same k d l;
      keeps = λ u c. Contains-append_left us (t ∷ []) u (h.keeps u c);
      fits = λ f. let g = h.fits f in fits_more us t g.0 g.1;
      lower = λ n a l. All-push (λ u. height u < n) us t (h.lower n a (omega arith)) l;
      below = λ n a l. All-push (λ u. tree_below n u ≡ true) us t (h.below n a l) l;
    }

inside_none : (t : Tree) (ts : List Tree) → height t ≡ 1 → Inside t ts ts
inside_none t ts one = record {
  longer = omega arith;
  same = λ k d l. refl;
  keeps = λ u c. c;
  fits = λ f. (f, omega arith);
  lower = λ n a l. a;
  below = λ n a l. a;
}

contained_low : (ts : List Tree) (t : Tree) → Fits ts → Contains ts t → height t ≤ length ts
contained_low ts t fits h = All-contains (λ u. height u ≤ length ts) ts t fits h

inside_one : (t f : Tree) (ts us : List Tree) → height t ≡ suc (height f) → ((n : ℕ) → tree_below n t ≡ true → tree_below n f ≡ true) → Grown f ts us → Inside t ts us
inside_one t f ts us one low h = record {
  longer = h.longer;
  same = h.same;
  keeps = h.keeps;
  fits = λ k. let g = h.fits k in let c : height f ≤ length us = contained_low us f g h.has in (g, omega arith);
  lower = λ n a l. h.lower n a (omega arith);
  below = λ n a l. h.below n a (low n l);
}

inside_two : (t f g : Tree) (ts us vs : List Tree) → height t ≡ suc (max (height f) (height g))
    → ((n : ℕ) → tree_below n t ≡ true → (tree_below n f ≡ true) × (tree_below n g ≡ true)) → Grown f ts us → Grown g us vs → Inside t ts vs
inside_two t f g ts us vs two low h k = record {
  longer = omega (arith, h.longer, k.longer);
  same = λ i d l. let m : i < length us = omega (arith, h.longer) in k.same i d m ∙ h.same i d l;
  keeps = λ u c. k.keeps u (h.keeps u c);
  fits = λ e.
      let a = k.fits (h.fits e) in
      let left : height f ≤ length vs = contained_low vs f a (k.keeps f h.has) in
      let right : height g ≤ length vs = contained_low vs g a k.has in
      (a, omega arith);
  lower = λ n a l. k.lower n (h.lower n a (omega arith)) (omega arith);
  below = λ n a l. k.below n (h.below n a (low n l).0) (low n l).1;
}

both_parts : (n : ℕ) (f g : Tree) → (tree_below n f && tree_below n g) ≡ true → (tree_below n f ≡ true) × (tree_below n g ≡ true)
both_parts n f g h = and_parts (tree_below n f) (tree_below n g) h

pub numbered_is : (t : Tree) (ts : List Tree) → numbered t ts ≡ with_tree (operands_numbered t ts) t
unfolding numbered
numbered_is truth ts = refl
numbered_is falsity ts = refl
numbered_is (literal x b) ts = refl
numbered_is (conjoined f g) ts = refl
numbered_is (disjoined f g) ts = refl
numbered_is (following f) ts = refl
numbered_is (until f g) ts = refl
numbered_is (release f g) ts = refl

pub grown : (t : Tree) (ts : List Tree) → Grown t ts (numbered t ts)
unfolding numbered
grown truth ts = grown_from truth ts ts (inside_none truth ts refl)
grown falsity ts = grown_from falsity ts ts (inside_none falsity ts refl)
grown (literal x b) ts = grown_from (literal x b) ts ts (inside_none (literal x b) ts refl)
grown (conjoined f g) ts = grown_from (conjoined f g) ts _ (inside_two (conjoined f g) f g ts _ _ refl (λ n. both_parts n f g) (grown f ts) (grown g (numbered f ts)))
grown (disjoined f g) ts = grown_from (disjoined f g) ts _ (inside_two (disjoined f g) f g ts _ _ refl (λ n. both_parts n f g) (grown f ts) (grown g (numbered f ts)))
grown (following f) ts = grown_from (following f) ts _ (inside_one (following f) f ts _ refl (λ n h. h) (grown f ts))
grown (until f g) ts = grown_from (until f g) ts _ (inside_two (until f g) f g ts _ _ refl (λ n. both_parts n f g) (grown f ts) (grown g (numbered f ts)))
grown (release f g) ts = grown_from (release f g) ts _ (inside_two (release f g) f g ts _ _ refl (λ n. both_parts n f g) (grown f ts) (grown g (numbered f ts)))

inside : (t : Tree) (ts : List Tree) → Inside t ts (operands_numbered t ts)
inside truth ts = inside_none truth ts refl
inside falsity ts = inside_none falsity ts refl
inside (literal x b) ts = inside_none (literal x b) ts refl
inside (conjoined f g) ts = inside_two (conjoined f g) f g ts _ _ refl (λ n. both_parts n f g) (grown f ts) (grown g (numbered f ts))
inside (disjoined f g) ts = inside_two (disjoined f g) f g ts _ _ refl (λ n. both_parts n f g) (grown f ts) (grown g (numbered f ts))
inside (following f) ts = inside_one (following f) f ts _ refl (λ n h. h) (grown f ts)
inside (until f g) ts = inside_two (until f g) f g ts _ _ refl (λ n. both_parts n f g) (grown f ts) (grown g (numbered f ts))
inside (release f g) ts = inside_two (release f g) f g ts _ _ refl (λ n. both_parts n f g) (grown f ts) (grown g (numbered f ts))

-- the tree itself is the last one
pub numbered_last : (t : Tree) → numbered t [] ≡ operands_numbered t [] ++ t ∷ []
numbered_last t = numbered_is t [] ∙ with_new (operands_numbered t []) t (go (has_tree (operands_numbered t []) t) refl)
  where
    go : (b : Bool) → has_tree (operands_numbered t []) t ≡ b → has_tree (operands_numbered t []) t ≡ false
    go false e = e
    go true e =
        let low : height t < height t = All-contains (λ u. height u < height t) (operands_numbered t []) t
        ((inside t []).lower (height t) (λ k d l. absurd (omega arith)) (omega arith)) (has_contains (operands_numbered t []) t e) in
        absurd (omega arith)

-- there are at least as many trees as are nested
pub height_within : (t : Tree) → height t ≤ length (numbered t [])
height_within t = let g = grown t [] in contained_low (numbered t []) t (g.fits (λ k d l. absurd (omega arith))) g.has

pub all_below : (n : ℕ) (t : Tree) → tree_below n t ≡ true → All (λ u. tree_below n u ≡ true) (numbered t [])
all_below n t h = (grown t []).below n (λ k d l. absurd (omega arith)) h

pub with_distinct : (ts : List Tree) (t : Tree) → AreDistinct ts → AreDistinct (with_tree ts t)
with_distinct ts t h = go (has_tree ts t) refl
  where
    other : has_tree ts t ≡ false → (m n : ℕ) (d : Tree) → m < n → n < length (ts ++ t ∷ []) → get_or (ts ++ t ∷ []) m d ≡ get_or (ts ++ t ∷ []) n d → ⊥
    other e m n d l in_n same = by (nat_lt n (length ts)) refl
      where
        first : m < length ts
        first = omega (arith, length_push ts t)

        by : (b : Bool) → nat_lt n (length ts) ≡ b → ⊥
        by true f =
            let in_n : n < length ts = ltb-true n (length ts) f in
            h m n d l in_n (sym (get_or_append_left ts (t ∷ []) d m first) ∙ same ∙ get_or_append_left ts (t ∷ []) d n in_n)
        by false f =
            let out : length ts ≤ n = ltb-false n (length ts) f in
            let last : length ts ≡ n = omega (arith, length_push ts t) in
            let is : get_or ts m t ≡ t = get_or_default ts m t d first ∙ sym (get_or_append_left ts (t ∷ []) d m first) ∙ same ∙ get_or_push ts t d n last in
            let c : has_tree ts t ≡ true = contains_has ts t (m, first, is) in
            absurd (cc)

    go : (b : Bool) → has_tree ts t ≡ b → AreDistinct (if b then ts else ts ++ t ∷ [])
    go true e = h
    go false e = other e

pub with_longer : (ts : List Tree) (t : Tree) → length ts ≤ length (with_tree ts t)
with_longer ts t = go (has_tree ts t)
  where
    go : (b : Bool) → length ts ≤ length (if b then ts else ts ++ t ∷ [])
    go true = omega arith
    go false = omega (arith, length_push ts t)

pub with_same : (ts : List Tree) (t : Tree) (k : ℕ) (d : Tree) → k < length ts → get_or (with_tree ts t) k d ≡ get_or ts k d
with_same ts t k d l = go (has_tree ts t)
  where
    go : (b : Bool) → get_or (if b then ts else ts ++ t ∷ []) k d ≡ get_or ts k d
    go true = refl
    go false = get_or_append_left ts (t ∷ []) d k l

pub operands_longer : (t : Tree) (ts : List Tree) → length (operands_numbered t ts) ≤ length (numbered t ts)
operands_longer t ts = subst (λ us. length (operands_numbered t ts) ≤ length us) (sym (numbered_is t ts)) (with_longer (operands_numbered t ts) t)

pub height_some : (t : Tree) → 0 < height t
height_some truth = omega arith
height_some falsity = omega arith
height_some (literal x b) = omega arith
height_some (conjoined f g) = omega arith
height_some (disjoined f g) = omega arith
height_some (following f) = omega arith
height_some (until f g) = omega arith
height_some (release f g) = omega arith
