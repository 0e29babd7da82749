-- Trees and their pairs, split by a signal.
use Rattle.std.proofs.Common.{◌≡◌, ℕ, zero, suc, ◌+◌, ◌*◌, ◌/◌, ◌%◌, ◌<◌, ◌≤◌, ◌^◌, ◌⊎◌, inl, inr, Bool, true, false, cond, eqb, List, [], ◌∷◌, ◌++◌, length, get_or, refl, sym, ap, ◌∙◌, subst, arith}
use Rattle.std.specs.Prelude.{Vec}
use Rattle.std.specs.List.{All, Contains}
use Rattle.std.specs.declared.alloc.Global.{Global}
use Rattle.std.proofs.lemmas.Bool.{cases_lt}
use Rattle.std.proofs.lemmas.List.{get_or_append_left, get_or-append-add, length-append, length-map}
use Rattle.std.proofs.lemmas.List.Elements.{All-append, All-contains, All-map, All-weaker, All-nil, All-cons}
use Rattle.std.proofs.lemmas.Nat.{shr-shr, div-mul-add}
use Rattle.std.proofs.lemmas.Nat.Bits.{bit_at_cat_low}
use Rattle.std.proofs.lemmas.Bool.Decides.{Decides-eqb}
use Rattle.action_groups.specs.Labels.{IsSplitOf, IsLabelled, HasAtMost, pair_at, shifted}
use Rattle.action_groups.specs.Lists.{items_at, KeepsLists}
use Rattle.action_groups.specs.Options.{IsOnce, AreOptionsOf, HasOptions}
use Rattle.action_groups.proofs.Grown.{side_by}

pub most_left : (xs ys : List (ℕ × ℕ)) (n most : ℕ) → HasAtMost xs n most → HasAtMost (xs ++ ys) n most
most_left xs ys n most h =
    let long : length (xs ++ ys) ≡ length xs + length ys = length-append xs ys in
    let lt : h.0 < length xs = h.1 in
    let same : pair_at (xs ++ ys) h.0 ≡ pair_at xs h.0 = get_or_append_left xs ys (0, 0) h.0 lt in
    (h.0, omega arith, ap (λ (p : ℕ × ℕ). p.1) same ∙ h.2, subst (λ (p : ℕ × ℕ). p.0 ≤ most) (sym same) h.3)

pub most_right : (xs ys : List (ℕ × ℕ)) (n most : ℕ) → HasAtMost ys n most → HasAtMost (xs ++ ys) n most
most_right xs ys n most h =
    let long : length (xs ++ ys) ≡ length xs + length ys = length-append xs ys in
    let lt : h.0 < length ys = h.1 in
    let same : pair_at (xs ++ ys) (length xs + h.0) ≡ pair_at ys h.0 = get_or-append-add xs ys h.0 (0, 0) in
    (length xs + h.0, omega arith, ap (λ (p : ℕ × ℕ). p.1) same ∙ h.2, subst (λ (p : ℕ × ℕ). p.0 ≤ most) (sym same) h.3)

pub most_weaker : (xs : List (ℕ × ℕ)) (n m most more : ℕ) → n ≡ m → most ≤ more → HasAtMost xs n most → HasAtMost xs m more
most_weaker xs n m most more e le h = (let below : (pair_at xs h.0).0 ≤ most = h.3 in (h.0, h.1, h.2 ∙ e, omega arith))

shifted_at : (bit : ℕ) (xs : List (ℕ × ℕ)) (i : ℕ) → i < length xs → pair_at (shifted bit xs) i ≡ (2 * (pair_at xs i).0 + bit, (pair_at xs i).1)
shifted_at bit [] i lt = absurd (omega arith)
shifted_at bit (x ∷ xs) zero lt = refl
shifted_at bit (x ∷ xs) (suc i) lt = shifted_at bit xs i (omega arith)

most_shifted : (bit : ℕ) (xs : List (ℕ × ℕ)) (n most : ℕ) → HasAtMost xs n most → HasAtMost (shifted bit xs) n (2 * most + bit)
most_shifted bit xs n most h =
    let f : ℕ × ℕ → ℕ × ℕ = λ p. (2 * p.0 + bit, p.1) in
    let long : length (shifted bit xs) ≡ length xs = length-map xs f in
    let lt : h.0 < length xs = h.1 in
    let below : (pair_at xs h.0).0 ≤ most = h.3 in
    let same : pair_at (shifted bit xs) h.0 ≡ (2 * (pair_at xs h.0).0 + bit, (pair_at xs h.0).1) = shifted_at bit xs h.0 lt in
    (h.0, omega arith, ap (λ (p : ℕ × ℕ). p.1) same ∙ h.2, subst (λ (p : ℕ × ℕ). p.0 ≤ 2 * most + bit) (sym same) (omega arith))

half_of : (bits place next : ℕ) → next ≡ place + 1 → bits / 2 ^ next ≡ bits / 2 ^ place / 2
half_of bits place next e = ap (λ n. bits / 2 ^ n) e ∙ sym (shr-shr bits place 1)

half_at : (bits place v bit : ℕ) → bit ≤ 1 → bits / 2 ^ place ≡ 2 * v + bit → (bits / 2 ^ (place + 1) ≡ v) × (bits / 2 ^ place % 2 ≡ bit)
half_at bits place v bit le e =
    let s : bits / 2 ^ place / 2 ^ 1 ≡ bits / 2 ^ (place + 1) = shr-shr bits place 1 in
    let q : ℕ = bits / 2 ^ place in
    let h : (2 * v + bit) / 2 ≡ v = omega arith in
    let m : (2 * v + bit) % 2 ≡ bit = omega arith in
    (sym s ∙ ap (λ n. n / 2) e ∙ h, ap (λ n. n % 2) e ∙ m)

-- a signal that no edge cares for
pub rest_labelled : (place next : ℕ) (labels : ℕ → ℕ) (rest pairs : List (ℕ × ℕ)) → next ≡ place + 1 → pairs ≡ shifted 0 rest → IsLabelled next labels rest → IsLabelled place labels pairs
rest_labelled place next labels rest pairs e is h =
    let P : ℕ × ℕ → Type 0 = λ p. (bits : ℕ) → bits / 2 ^ place ≡ p.0 → labels bits ≡ p.1 in
    let Q : ℕ × ℕ → Type 0 = λ p. (bits : ℕ) → bits / 2 ^ next ≡ p.0 → labels bits ≡ p.1 in
    let f : ℕ × ℕ → ℕ × ℕ = λ p. (2 * p.0 + 0, p.1) in
    let R : ℕ × ℕ → Type 0 = λ p. P (f p) in
    let step : (p : ℕ × ℕ) → Q p → R p = λ p q bits k. q bits (ap (λ n. bits / 2 ^ n) e ∙ (half_at bits place p.0 0 (omega arith) k).0) in
    record {
      each = subst (All P) (sym is) (All-map P f rest (All-weaker Q R step rest h.each));
      all = λ bits. (
          let q : ℕ = bits / 2 ^ place in
          let half : bits / 2 ^ next ≡ q / 2 = half_of bits place next e in
          let le : 2 * (bits / 2 ^ next) + 0 ≤ q = omega arith in
          subst (λ ps. HasAtMost ps (labels bits) q) (sym is)
          (most_weaker (shifted 0 rest) (labels bits) (labels bits) (2 * (bits / 2 ^ next) + 0) q refl le (most_shifted 0 rest (labels bits) (bits / 2 ^ next) (h.all bits))));
    }

bit_true : (b : ℕ) → b ≡ 1 → eqb b 1 ≡ true
bit_true b e = (Decides-eqb b 1).1 e

bit_false : (b : ℕ) → b ≡ 0 → eqb b 1 ≡ false
bit_false b e = ap (λ n. eqb n 1) e

-- a signal with its two parts
pub split_labelled : (place next : ℕ) (low high now : ℕ → ℕ) (ls hs pairs : List (ℕ × ℕ)) → next ≡ place + 1 → IsSplitOf place low high now → pairs ≡ shifted 0 ls ++ shifted 1 hs → IsLabelled next low ls → IsLabelled next high hs → IsLabelled place now pairs
split_labelled place next low high now ls hs pairs e s is h k =
    let P : ℕ × ℕ → Type 0 = λ p. (bits : ℕ) → bits / 2 ^ place ≡ p.0 → now bits ≡ p.1 in
    let L : ℕ × ℕ → Type 0 = λ p. (bits : ℕ) → bits / 2 ^ next ≡ p.0 → low bits ≡ p.1 in
    let H : ℕ × ℕ → Type 0 = λ p. (bits : ℕ) → bits / 2 ^ next ≡ p.0 → high bits ≡ p.1 in
    let f : ℕ × ℕ → ℕ × ℕ = λ p. (2 * p.0 + 0, p.1) in
    let g : ℕ × ℕ → ℕ × ℕ = λ p. (2 * p.0 + 1, p.1) in
    let F : ℕ × ℕ → Type 0 = λ p. P (f p) in
    let G : ℕ × ℕ → Type 0 = λ p. P (g p) in
    let low_step : (p : ℕ × ℕ) → L p → F p = λ p q bits v. (
    let half = half_at bits place p.0 0 (omega arith) v in
    s bits ∙ side_by place (low bits) (high bits) bits false (bit_false _ half.1) ∙ q bits (ap (λ n. bits / 2 ^ n) e ∙ half.0)) in
    let high_step : (p : ℕ × ℕ) → H p → G p = λ p q bits v. (
    let half = half_at bits place p.0 1 (omega arith) v in
    s bits ∙ side_by place (low bits) (high bits) bits true (bit_true _ half.1) ∙ q bits (ap (λ n. bits / 2 ^ n) e ∙ half.0)) in
    record {
      each = subst (All P) (sym is)
          (All-append P (shifted 0 ls) (shifted 1 hs)
          (All-map P f ls (All-weaker L F low_step ls h.each))
          (All-map P g hs (All-weaker H G high_step hs k.each)));
      all = λ bits. subst (λ ps. HasAtMost ps (now bits) (bits / 2 ^ place)) (sym is) (most bits (eqb (bits / 2 ^ place % 2) 1) refl);
    }
  where
    bit_of : (n : ℕ) → eqb (n % 2) 1 ≡ true → n % 2 ≡ 1
    bit_of n t = (Decides-eqb (n % 2) 1).0 t

    most : (bits : ℕ) (b : Bool) → eqb (bits / 2 ^ place % 2) 1 ≡ b → HasAtMost (shifted 0 ls ++ shifted 1 hs) (now bits) (bits / 2 ^ place)
    most bits true t =
        let q : ℕ = bits / 2 ^ place in
        let half : bits / 2 ^ next ≡ q / 2 = half_of bits place next e in
        let odd : q % 2 ≡ 1 = bit_of q t in
        let le : 2 * (bits / 2 ^ next) + 1 ≤ q = omega arith in
        most_right (shifted 0 ls) (shifted 1 hs) (now bits) q
        (most_weaker (shifted 1 hs) (high bits) (now bits) (2 * (bits / 2 ^ next) + 1) q (sym (s bits ∙ side_by place (low bits) (high bits) bits true t)) le
        (most_shifted 1 hs (high bits) (bits / 2 ^ next) (k.all bits)))
    most bits false t =
        let q : ℕ = bits / 2 ^ place in
        let half : bits / 2 ^ next ≡ q / 2 = half_of bits place next e in
        let le : 2 * (bits / 2 ^ next) + 0 ≤ q = omega arith in
        most_left (shifted 0 ls) (shifted 1 hs) (now bits) q
        (most_weaker (shifted 0 ls) (low bits) (now bits) (2 * (bits / 2 ^ next) + 0) q (sym (s bits ∙ side_by place (low bits) (high bits) bits false t)) le
        (most_shifted 0 ls (low bits) (bits / 2 ^ next) (h.all bits)))

-- the least pairs of a tree are pairs of it
pub once_labelled : (place : ℕ) (labels : ℕ → ℕ) (pairs kept : List (ℕ × ℕ)) → IsOnce pairs kept → IsLabelled place labels pairs → IsLabelled place labels kept
once_labelled place labels pairs kept once h =
    let P : ℕ × ℕ → Type 0 = λ p. (bits : ℕ) → bits / 2 ^ place ≡ p.0 → labels bits ≡ p.1 in
    record {
      each = All-weaker (Contains pairs) P (λ p w. All-contains P pairs p h.each w) kept once.each;
      all = λ bits. (
          let w = h.all bits in
          most_weaker kept (pair_at pairs w.0).1 (labels bits) (pair_at pairs w.0).0 (bits / 2 ^ place) w.2 w.3 (once.all w.0 (0, 0) w.1));
    }

-- one label for all valuations
pub leaf_labelled : (place label : ℕ) (labels : ℕ → ℕ) (pairs : List (ℕ × ℕ)) → ((bits : ℕ) → labels bits ≡ label) → pairs ≡ (0, label) ∷ [] → IsLabelled place labels pairs
leaf_labelled place label labels pairs h is =
    let P : ℕ × ℕ → Type 0 = λ p. (bits : ℕ) → bits / 2 ^ place ≡ p.0 → labels bits ≡ p.1 in
    let here : P (0, label) = λ bits k. h bits in
    record {
      each = subst (All P) (sym is) (All-cons P (0, label) [] here (All-nil P));
      all = λ bits. subst (λ ps. HasAtMost ps (labels bits) (bits / 2 ^ place)) (sym is) (0, omega arith, sym (h bits), omega arith);
    }

-- the lists of options
pub lists_self : {X : Type 0} (lists : List (Vec X Global)) → KeepsLists lists lists
lists_self lists c lt = refl

pub lists_trans : {X : Type 0} (a b c : List (Vec X Global)) → length a ≤ length b → KeepsLists a b → KeepsLists b c → KeepsLists a c
lists_trans a b c le h k at lt = k at (omega arith) ∙ h at lt

pub lists_append : {X : Type 0} (lists more : List (Vec X Global)) → KeepsLists lists (lists ++ more)
lists_append [] more c lt = absurd (omega arith)
lists_append (o ∷ lists) more zero lt = refl
lists_append (o ∷ lists) more (suc c) lt = lists_append lists more c (omega arith)

-- a first valuation at a leaf
pub leaf_options : (width label : ℕ) (letters firsts : ℕ → ℕ) (lists : List (Vec (ℕ × ℕ) Global)) (pairs : List (ℕ × ℕ)) → IsLabelled width letters pairs → IsOnce pairs (items_at lists label) → ((bits : ℕ) → firsts bits ≡ label) → HasOptions width letters firsts lists
leaf_options width label letters firsts lists pairs h once leaf first lt =
    let kept : List (ℕ × ℕ) = items_at lists label in
    let each : All P kept = All-weaker (Contains pairs) P step kept once.each in
    subst (AreOptionsOf width first letters) (ap (items_at lists) (sym (leaf first)))
    (record {
      each = each;
      all = λ second.
          let bits : ℕ = first + second * 2 ^ width in
          let w = h.all bits in
          let below : (pair_at pairs w.0).0 ≤ bits / 2 ^ width = w.3 in
          let le : (pair_at pairs w.0).0 ≤ second = subst (λ n. (pair_at pairs w.0).0 ≤ n) (upper second) below in
          most_weaker kept (pair_at pairs w.0).1 (letters bits) (pair_at pairs w.0).0 second w.2 le (once.all w.0 (0, 0) w.1);
      rising = λ i j d l inside. (
          let front = once.rising i j d l inside in
          (strict (get_or kept i d) (get_or kept j d) (each i d (omega arith)) (each j d inside) front.0 front.1, front.1));
    })
  where
    P : ℕ × ℕ → Type 0
    P p = letters (first + p.0 * 2 ^ width) ≡ p.1

    Q : ℕ × ℕ → Type 0
    Q p = (bits : ℕ) → bits / 2 ^ width ≡ p.0 → letters bits ≡ p.1

    upper : (v : ℕ) → (first + v * 2 ^ width) / 2 ^ width ≡ v
    upper v = (let e : first + v * 2 ^ width ≡ v * 2 ^ width + first = omega arith in ap (λ n. n / 2 ^ width) e ∙ div-mul-add v (2 ^ width) first lt)

    step : (p : ℕ × ℕ) → Contains pairs p → P p
    step p w = subst Q w.2 (h.each w.0 p w.1) (first + p.0 * 2 ^ width) (upper p.0)

    strict : (p q : ℕ × ℕ) → P p → P q → p.0 ≤ q.0 → (p.1 ≡ q.1 → ⊥) → p.0 < q.0
    strict p q hp hq le apart = go (cases_lt p.0 q.0)
      where
        go : (p.0 < q.0) ⊎ (q.0 ≤ p.0) → p.0 < q.0
        go (inl lt) = lt
        go (inr ge) =
            let e : p.0 ≡ q.0 = omega arith in
            absurd (apart (sym hp ∙ ap (λ v. letters (first + v * 2 ^ width)) e ∙ hq))

same_options : (width first : ℕ) (letters now : ℕ → ℕ) (options kept : List (ℕ × ℕ)) → ((v : ℕ) → now (first + v * 2 ^ width) ≡ letters (first + v * 2 ^ width)) → kept ≡ options → AreOptionsOf width first letters options → AreOptionsOf width first now kept
same_options width first letters now options kept same e h =
    let P : ℕ × ℕ → Type 0 = λ p. letters (first + p.0 * 2 ^ width) ≡ p.1 in
    let Q : ℕ × ℕ → Type 0 = λ p. now (first + p.0 * 2 ^ width) ≡ p.1 in
    subst (AreOptionsOf width first now) (sym e)
    (record {
      each = All-weaker P Q (λ p w. same p.0 ∙ w) options h.each;
      all = λ v. subst (λ n. HasAtMost options n v) (sym (same v)) (h.all v);
      rising = h.rising;
    })

-- a first valuation at a split of both trees
pub split_options : (width place : ℕ) (letters_low letters_high letters firsts_low firsts_high firsts : ℕ → ℕ) (lists_low lists : List (Vec (ℕ × ℕ) Global)) → place < width → IsSplitOf place letters_low letters_high letters → IsSplitOf place firsts_low firsts_high firsts → ((bits : ℕ) → firsts_low bits < length lists_low) → KeepsLists lists_low lists → HasOptions width letters_low firsts_low lists_low → HasOptions width letters_high firsts_high lists → HasOptions width letters firsts lists
split_options width place letters_low letters_high letters firsts_low firsts_high firsts lists_low lists within s t below keeps h k first lt = go (eqb (first / 2 ^ place % 2) 1) refl
  where
    same_bit : (v : ℕ) → (first + v * 2 ^ width) / 2 ^ place % 2 ≡ first / 2 ^ place % 2
    same_bit v = (let e : first + v * 2 ^ width ≡ v * 2 ^ width + first = omega arith in ap (λ n. n / 2 ^ place % 2) e ∙ bit_at_cat_low v width first place within)

    letter : (v : ℕ) (b : Bool) → eqb (first / 2 ^ place % 2) 1 ≡ b → letters (first + v * 2 ^ width) ≡ cond b (letters_high (first + v * 2 ^ width)) (letters_low (first + v * 2 ^ width))
    letter v b e =
        let bits : ℕ = first + v * 2 ^ width in
        s bits ∙ side_by place (letters_low bits) (letters_high bits) bits b (ap (λ n. eqb n 1) (same_bit v) ∙ e)

    go : (b : Bool) → eqb (first / 2 ^ place % 2) 1 ≡ b → AreOptionsOf width first letters (items_at lists (firsts first))
    go true e =
        same_options width first letters_high letters (items_at lists (firsts_high first)) (items_at lists (firsts first))
        (λ v. letter v true e)
        (ap (items_at lists) (t first ∙ side_by place (firsts_low first) (firsts_high first) first true e))
        (k first lt)
    go false e =
        same_options width first letters_low letters (items_at lists_low (firsts_low first)) (items_at lists (firsts first))
        (λ v. letter v false e)
        (ap (items_at lists) (t first ∙ side_by place (firsts_low first) (firsts_high first) first false e) ∙ keeps (firsts_low first) (below first))
        (h first lt)
