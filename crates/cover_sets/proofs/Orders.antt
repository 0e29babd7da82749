-- The order of sets by their ascending lists.
use Rattle.std.proofs.Common.{◌≡◌, ℕ, zero, suc, ◌+◌, ◌*◌, ◌/◌, ◌%◌, ◌-◌, ◌^◌, ◌<◌, ◌≤◌, ◌≢◌, Bool, true, false, cond, nat_eq, nat_lt, nat_le, eqb, List, [], ◌∷◌, ◌++◌, length, get_or, drop, refl, sym, ap, ◌∙◌, subst, arith}
use Rattle.std.specs.Prelude.{bit_and}
use Rattle.std.specs.Int.{bit_at, w64}
use Rattle.std.specs.Int.RustNames.{bit_xor}
use Rattle.std.specs.List.{filter, range_with_len}
use Rattle.std.specs.Cmp.{IsTotalOrder}
use Rattle.std.specs.Cmp.Lexicographic.{slice_cmp}
use Rattle.std.specs.Ordering.{nat_cmp, ordering_then, ordering_reverse}
use Rattle.std.specs.declared.cmp.Ordering.{Ordering}
use Rattle.std.specs.declared.cmp.Ordering.TheVariants.{Less, Equal, Greater}
use lib.Count.{count_trailing_zeros}
use Rattle.std.proofs.lemmas.Cmp.{nat_cmp_total, nat_list_cmp_total, on_total, tied_itself, ranked}
use Rattle.std.proofs.lemmas.Nat.{shr_split, shr-shr, pow-add, pow_pos, mul-le, mod_below, div_below, xor_lt, pow_below}
use Rattle.std.proofs.lemmas.Nat.Bits.{bit_at_above, bit_at-lt, bit_at_xor, bit_at-trailing_zeros, bit_at-zero, same_from_bits, shr_and_one}
use Rattle.std.proofs.lemmas.List.{get_or-drop, get_or_past, ext_get_or, append-nil}
use Rattle.std.proofs.lemmas.List.Elements.{All-drop, filter-append}
use Rattle.cover_sets.specs.Numbers.{has, joined, numbers_of, set_cmp}
use Rattle.cover_sets.proofs.Words.{IsFit, bit_joined, bit_in_word, at_words, no_words}

-- ---- the numbers of a range that are in a set

pub lt_true : (n k : ℕ) → nat_lt n k ≡ true → n < k
lt_true n k e = grind arith

pub lt_false : (n k : ℕ) → nat_lt n k ≡ false → k ≤ n
lt_false n k e = grind arith

pub pow_le : (i j : ℕ) → i ≤ j → 2 ^ i ≤ 2 ^ j
pow_le i j h = go (nat_lt i j) refl
  where
    go : (b : Bool) → nat_lt i j ≡ b → 2 ^ i ≤ 2 ^ j
    go true e = let p = pow_below i j (grind arith) in omega arith
    go false e =
        let q : j ≤ i = grind arith in
        let p : i ≡ j = omega arith in
        let r : 2 ^ i ≡ 2 ^ j = ap (λ n. 2 ^ n) p in
        omega arith

pub first_found : (a s m e : ℕ) (es : List ℕ) → filter (has a) (range_with_len s m) ≡ e ∷ es → (s ≤ e) × (has a e ≡ true)
first_found a s zero e es h = absurd cc
first_found a s (suc m) e es h = go (λ k. first_found a (s + 1) m e es k) (has a s) refl h
  where
    go : (filter (has a) (range_with_len (s + 1) m) ≡ e ∷ es → (s + 1 ≤ e) × (has a e ≡ true)) → (b : Bool) → has a s ≡ b → cond b (s ∷ filter (has a) (range_with_len (s + 1) m)) (filter (has a) (range_with_len (s + 1) m)) ≡ e ∷ es → (s ≤ e) × (has a e ≡ true)
    go rec true t k = let i : s ≡ e = cc in (omega arith, subst (λ n. has a n ≡ true) i t)
    go rec false t k = let i = rec k in (omega (arith, i.0), i.1)

pub no_bit : (a s : ℕ) → has a s ≡ false → bit_at a s ≡ 0
no_bit a s h = let l = bit_at-lt a s in grind arith

pub one_bit : (a s : ℕ) → has a s ≡ true → bit_at a s ≡ 1
one_bit a s h = grind arith

-- without bit s a number below 2 ^ (s + 1) is below 2 ^ s
below_top : (a s : ℕ) → a < 2 ^ (s + 1) → bit_at a s ≡ 0 → a < 2 ^ s
below_top a s l z =
    let p : 2 ^ (s + 1) ≡ 2 ^ s * 2 ^ 1 = pow-add 2 s 1 in
    let q : a / 2 ^ s < 2 = div_below a (2 ^ s) 2 (pow_pos s) (omega arith) in
    let e : a / 2 ^ s ≡ 0 = omega arith in
    let f : a / 2 ^ s * 2 ^ s + a % 2 ^ s ≡ a = shr_split a s in
    let g : 0 * 2 ^ s + a % 2 ^ s ≡ a = subst (λ v. v * 2 ^ s + a % 2 ^ s ≡ a) e f in
    let m = mod_below a (2 ^ s) (pow_pos s) in
    omega arith

pub none_found : (a s m : ℕ) → a < 2 ^ (s + m) → filter (has a) (range_with_len s m) ≡ [] → a < 2 ^ s
none_found a s zero l h = let e : s + 0 ≡ s = omega arith in subst (λ n. a < 2 ^ n) e l
none_found a s (suc m) l h = go (λ i k. none_found a (s + 1) m i k) (has a s) refl h
  where
    go : (a < 2 ^ (s + 1 + m) → filter (has a) (range_with_len (s + 1) m) ≡ [] → a < 2 ^ (s + 1)) → (b : Bool) → has a s ≡ b → cond b (s ∷ filter (has a) (range_with_len (s + 1) m)) (filter (has a) (range_with_len (s + 1) m)) ≡ [] → a < 2 ^ s
    go rec true t k = absurd cc
    go rec false t k =
        let e : s + suc m ≡ s + 1 + m = omega arith in
        below_top a s (rec (subst (λ n. a < 2 ^ n) e l) k) (no_bit a s t)

pub bit_least : (a n : ℕ) → has a n ≡ true → 2 ^ n ≤ a
bit_least a n h = go (nat_le (2 ^ n) a) refl
  where
    go : (b : Bool) → nat_le (2 ^ n) a ≡ b → 2 ^ n ≤ a
    go true e = grind arith
    go false e =
        let l : a < 2 ^ n = grind arith in
        let z : bit_at a n ≡ 0 = bit_at_above a n n l (omega arith) in
        let o : bit_at a n ≡ 1 = one_bit a n h in
        absurd (omega arith)

pub range_split : (s d m : ℕ) → range_with_len s (d + m) ≡ range_with_len s d ++ range_with_len (s + d) m
range_split s zero m =
    let e : 0 + m ≡ m = omega arith in
    let f : s ≡ s + 0 = omega arith in
    ap (range_with_len s) e ∙ ap (λ n. range_with_len n m) f
range_split s (suc d) m =
    let e : suc d + m ≡ suc (d + m) = omega arith in
    let f : s + 1 + d ≡ s + suc d = omega arith in
    ap (range_with_len s) e ∙ ap (λ xs. s ∷ xs) (range_split (s + 1) d m ∙ ap (λ n. range_with_len (s + 1) d ++ range_with_len n m) f)

same_range : (a b s m : ℕ) → ((n : ℕ) → s ≤ n → n < s + m → has a n ≡ has b n) → filter (has a) (range_with_len s m) ≡ filter (has b) (range_with_len s m)
same_range a b s zero h = refl
same_range a b s (suc m) h =
    ap (λ t. cond t (s ∷ filter (has a) (range_with_len (s + 1) m)) (filter (has a) (range_with_len (s + 1) m))) (h s (omega arith) (omega arith))
    ∙ ap (λ xs. cond (has b s) (s ∷ xs) xs) (same_range a b (s + 1) m (λ n l k. h n (omega arith) (omega arith)))

same_has : (a b s m : ℕ) → filter (has a) (range_with_len s m) ≡ filter (has b) (range_with_len s m) → (n : ℕ) → s ≤ n → n < s + m → has a n ≡ has b n
same_has a b s zero h n l k = absurd (omega arith)
same_has a b s (suc m) h n l k = go (λ e i j. same_has a b (s + 1) m e n i j) (has a s) (has b s) refl refl h
  where
    here : (filter (has a) (range_with_len (s + 1) m) ≡ filter (has b) (range_with_len (s + 1) m) → s + 1 ≤ n → n < s + 1 + m → has a n ≡ has b n) → (c : Bool) → has a s ≡ c → has b s ≡ c → filter (has a) (range_with_len (s + 1) m) ≡ filter (has b) (range_with_len (s + 1) m)
        → (t : Bool) → eqb n s ≡ t → has a n ≡ has b n
    here rec c p q e true t = let i : n ≡ s = grind arith in ap (has a) i ∙ p ∙ sym q ∙ ap (has b) (sym i)
    here rec c p q e false t = let i : n ≢ s = λ (i : n ≡ s). absurd (grind arith) in rec e (omega arith) (omega arith)

    go : (filter (has a) (range_with_len (s + 1) m) ≡ filter (has b) (range_with_len (s + 1) m) → s + 1 ≤ n → n < s + 1 + m → has a n ≡ has b n) → (c d : Bool) → has a s ≡ c → has b s ≡ d
        → cond c (s ∷ filter (has a) (range_with_len (s + 1) m)) (filter (has a) (range_with_len (s + 1) m))
        ≡ cond d (s ∷ filter (has b) (range_with_len (s + 1) m)) (filter (has b) (range_with_len (s + 1) m))
        → has a n ≡ has b n
    go rec true true p q e = here rec true p q (cc) (eqb n s) refl
    go rec false false p q e = here rec false p q e (eqb n s) refl
    go rec true false p q e = let f = first_found b (s + 1) m s _ (sym e) in absurd (omega (arith, f.0))
    go rec false true p q e = let f = first_found a (s + 1) m s _ e in absurd (omega (arith, f.0))

-- ---- the order

pub set_cmp_total : IsTotalOrder set_cmp
set_cmp_total = on_total numbers_of nat_list_cmp_total

tied_lists : (xs ys : List ℕ) → slice_cmp nat_cmp xs ys ≡ Equal → xs ≡ ys
tied_lists [] [] h = refl
tied_lists [] (y ∷ ys) h = absurd cc
tied_lists (x ∷ xs) [] h = absurd cc
tied_lists (x ∷ xs) (y ∷ ys) h = go (λ k. tied_lists xs ys k) (nat_cmp x y) refl h
  where
    go : (slice_cmp nat_cmp xs ys ≡ Equal → xs ≡ ys) → (o : Ordering) → nat_cmp x y ≡ o → ordering_then o (slice_cmp nat_cmp xs ys) ≡ Equal → x ∷ xs ≡ y ∷ ys
    go rec Less e k = absurd cc
    go rec Greater e k = absurd cc
    go rec Equal e k =
        let i : x ≡ y = ranked x y Equal (sym e) in
        let j : xs ≡ ys = rec k in
        cc

zero_le : (n : ℕ) → 0 ≤ n
zero_le n = omega arith

pub tied_sets : (a b : ℕ) → a < 2 ^ 512 → b < 2 ^ 512 → set_cmp a b ≡ Equal → a ≡ b
unfolding numbers_of
tied_sets a b l k h = same_from_bits a b (λ n. go n (nat_lt n 512) refl)
  where
    same : (n : ℕ) → n < 512 → has a n ≡ has b n
    same n m = same_has a b 0 512 (tied_lists _ _ h) n (zero_le n) m

    bits : (n : ℕ) (c : Bool) → has a n ≡ c → has b n ≡ c → bit_at a n ≡ bit_at b n
    bits n true p q = one_bit a n p ∙ sym (one_bit b n q)
    bits n false p q = no_bit a n p ∙ sym (no_bit b n q)

    go : (n : ℕ) (c : Bool) → nat_lt n 512 ≡ c → bit_at a n ≡ bit_at b n
    go n true e = bits n (has b n) (same n (lt_true n 512 e)) refl
    go n false e = bit_at_above a 512 n l (lt_false n 512 e) ∙ sym (bit_at_above b 512 n k (lt_false n 512 e))

same_front : (p xs ys : List ℕ) → slice_cmp nat_cmp (p ++ xs) (p ++ ys) ≡ slice_cmp nat_cmp xs ys
same_front [] xs ys = refl
same_front (n ∷ p) xs ys = ap (λ o. ordering_then o (slice_cmp nat_cmp (p ++ xs) (p ++ ys))) (tied_itself nat_cmp_total n) ∙ same_front p xs ys

less_cmp : (x y : ℕ) → x < y → nat_cmp x y ≡ Less
less_cmp x y l = let t : nat_lt x y ≡ true = grind arith in ap (λ b. cond b Less (cond (nat_eq x y) Equal Greater)) t

-- where d is the first number that only one of two sets has, that one is before the other where the other goes on
pub cmp_at : (a b d : ℕ) → d < 512 → b < 2 ^ 512 → ((n : ℕ) → n < d → has a n ≡ has b n) → has a d ≡ true → has b d ≡ false
    → set_cmp a b ≡ cond (nat_le (2 ^ (d + 1)) b) Less Greater
unfolding numbers_of
cmp_at a b d l w same ha hb =
    ap (slice_cmp nat_cmp (numbers_of a)) parts_b
    ∙ ap (λ xs. slice_cmp nat_cmp xs (filter (has b) (range_with_len 0 d) ++ rest b)) parts_a
    ∙ same_front (filter (has b) (range_with_len 0 d)) (d ∷ rest a) (rest b)
    ∙ go (rest b) refl (nat_le (2 ^ (d + 1)) b) refl
  where
    m : ℕ
    m = 511 - d

    rest : ℕ → List ℕ
    rest x = filter (has x) (range_with_len (d + 1) m)

    -- the numbers up to d, and those behind it
    parts : (x : ℕ) (c : Bool) → has x d ≡ c → filter (has x) (range_with_len 0 512) ≡ filter (has x) (range_with_len 0 d) ++ cond c (d ∷ filter (has x) (range_with_len (d + 1) m)) (filter (has x) (range_with_len (d + 1) m))
    parts x c h =
        let e : 512 ≡ d + suc m = omega arith in
        let f : 0 + d ≡ d = omega arith in
        ap (λ n. filter (has x) (range_with_len 0 n)) e
        ∙ ap (filter (has x)) (range_split 0 d (suc m))
        ∙ filter-append (has x) (range_with_len 0 d) (range_with_len (0 + d) (suc m))
        ∙ ap (λ n. filter (has x) (range_with_len 0 d) ++ filter (has x) (range_with_len n (suc m))) f
        ∙ ap (λ t. filter (has x) (range_with_len 0 d) ++ cond t (d ∷ filter (has x) (range_with_len (d + 1) m)) (filter (has x) (range_with_len (d + 1) m))) h

    parts_a : filter (has a) (range_with_len 0 512) ≡ filter (has b) (range_with_len 0 d) ++ d ∷ rest a
    parts_a = parts a true ha ∙ ap (λ xs. xs ++ d ∷ filter (has a) (range_with_len (d + 1) m)) (same_range a b 0 d (λ n _ k. same n (omega arith)))

    parts_b : filter (has b) (range_with_len 0 512) ≡ filter (has b) (range_with_len 0 d) ++ rest b
    parts_b = parts b false hb

    go : (xs : List ℕ) → filter (has b) (range_with_len (d + 1) m) ≡ xs → (c : Bool) → nat_le (2 ^ (d + 1)) b ≡ c → slice_cmp nat_cmp (d ∷ rest a) xs ≡ cond c Less Greater
    go [] e true t =
        let f : d + 1 + m ≡ 512 = omega arith in
        let g : b < 2 ^ (d + 1) = none_found b (d + 1) m (subst (λ n. b < 2 ^ n) (sym f) w) e in
        absurd (grind arith)
    go [] e false t = refl
    go (x ∷ xs) e true t =
        let f = first_found b (d + 1) m x xs e in
        ap (λ o. ordering_then o (slice_cmp nat_cmp (rest a) xs)) (less_cmp d x (omega (arith, f.0)))
    go (x ∷ xs) e false t =
        let f = first_found b (d + 1) m x xs e in
        let g : 2 ^ x ≤ b = bit_least b x f.1 in
        let h : 2 ^ (d + 1) ≤ 2 ^ x = pow_le (d + 1) x f.0 in
        absurd (grind arith)

pub cmp_at_other : (a b d : ℕ) → d < 512 → a < 2 ^ 512 → ((n : ℕ) → n < d → has a n ≡ has b n) → has a d ≡ false → has b d ≡ true
    → set_cmp a b ≡ cond (nat_le (2 ^ (d + 1)) a) Greater Less
cmp_at_other a b d l w same ha hb =
    set_cmp_total.antisymm a b
    ∙ ap ordering_reverse (cmp_at b a d l w (λ n k. sym (same n k)) hb ha)
    ∙ turned (nat_le (2 ^ (d + 1)) a)
  where
    turned : (c : Bool) → ordering_reverse (cond c Less Greater) ≡ cond c Greater Less
    turned true = refl
    turned false = refl

-- ---- numbers and words

pub drop_joined : (ws : List ℕ) (i : ℕ) → IsFit ws → joined (drop i ws) ≡ joined ws / 2 ^ (i * 64)
drop_joined ws i f =
    same_from_bits _ _ (λ n.
    bit_in_word (drop i ws) n (All-drop (λ w. w < 2 ^ 64) i ws f)
    ∙ ap (λ w. bit_at w (n % 64)) (get_or-drop i ws (n / 64) 0)
    ∙ sym (bit_joined ws (i + n / 64) (n % 64) f (mod_below n 64 (omega arith)))
    ∙ ap (bit_at (joined ws)) (place n)
    ∙ ap (λ x. x % 2) (sym (shr-shr (joined ws) (i * 64) n)))
  where
    place : (n : ℕ) → (i + n / 64) * 64 + n % 64 ≡ i * 64 + n
    place n = omega arith

unshift : (m k n : ℕ) → m ≤ n / 2 ^ k → m * 2 ^ k ≤ n
unshift m k n h =
    let p : m * 2 ^ k ≤ n / 2 ^ k * 2 ^ k = mul-le m (2 ^ k) (n / 2 ^ k) (2 ^ k) h (omega arith) in
    let q : n / 2 ^ k * 2 ^ k + n % 2 ^ k ≡ n = shr_split n k in
    omega arith

-- the bits above bit t of word i
above_place : (i t : ℕ) → 2 ^ (i * 64 + t + 1) ≡ 2 ^ (t + 1) * 2 ^ (i * 64)
above_place i t = let e : i * 64 + t + 1 ≡ t + 1 + i * 64 = omega arith in ap (λ n. 2 ^ n) e ∙ pow-add 2 (t + 1) (i * 64)

yes_le : (a b : ℕ) → a ≤ b → true ≡ nat_le a b
yes_le a b h = grind arith

no_le : (a b : ℕ) → b < a → false ≡ nat_le a b
no_le a b h = grind arith

high_part : (w t : ℕ) → (w / 2 ^ t / 2 ≡ 0 → ⊥) → 2 ^ (t + 1) ≤ w
high_part w t h =
    let p : 2 ≤ w / 2 ^ t = omega arith in
    let q : 2 * 2 ^ t ≤ w = unshift 2 t w p in
    let r : 2 ^ (t + 1) ≡ 2 ^ t * 2 ^ 1 = pow-add 2 t 1 in
    omega arith

low_part : (w t : ℕ) → w / 2 ^ t / 2 ≡ 0 → w < 2 ^ (t + 1)
low_part w t h =
    let p : w / 2 ^ t < 2 = omega arith in
    let q : w / 2 ^ t * 2 ^ t + w % 2 ^ t ≡ w = shr_split w t in
    let m = mod_below w (2 ^ t) (pow_pos t) in
    let r : 2 ^ (t + 1) ≡ 2 ^ t * 2 ^ 1 = pow-add 2 t 1 in
    let s : w / 2 ^ t * 2 ^ t ≤ 1 * 2 ^ t = mul-le (w / 2 ^ t) (2 ^ t) 1 (2 ^ t) (omega arith) (omega arith) in
    omega arith

pub goes_here : (ws : List ℕ) (i t : ℕ) → (length ws ≡ 8) × IsFit ws → i < 8 → (get_or ws i 0 / 2 ^ t / 2 ≡ 0 → ⊥)
    → true ≡ nat_le (2 ^ (i * 64 + t + 1)) (joined ws)
goes_here ws i t f l h =
    let a : joined ws / 2 ^ (i * 64) ≡ joined (drop (i + 1) ws) * 2 ^ 64 + get_or ws i 0 = sym (drop_joined ws i f.1) ∙ at_words ws i f.0 l in
    let b : 2 ^ (t + 1) ≤ get_or ws i 0 = high_part (get_or ws i 0) t h in
    let c : 2 ^ (t + 1) * 2 ^ (i * 64) ≤ joined ws = unshift (2 ^ (t + 1)) (i * 64) (joined ws) (omega arith) in
    yes_le _ _ (omega (arith, above_place i t))

pub goes_later : (ws : List ℕ) (i t k : ℕ) → (length ws ≡ 8) × IsFit ws → i < k → k < 8 → t < 64 → (get_or ws k 0 ≡ 0 → ⊥)
    → true ≡ nat_le (2 ^ (i * 64 + t + 1)) (joined ws)
goes_later ws i t k f g l u h =
    let a : joined ws / 2 ^ (k * 64) ≡ joined (drop (k + 1) ws) * 2 ^ 64 + get_or ws k 0 = sym (drop_joined ws k f.1) ∙ at_words ws k f.0 l in
    let b : 1 * 2 ^ (k * 64) ≤ joined ws = unshift 1 (k * 64) (joined ws) (omega arith) in
    let c : 2 ^ (i * 64 + t + 1) ≤ 2 ^ (k * 64) = pow_le (i * 64 + t + 1) (k * 64) (omega arith) in
    yes_le _ _ (omega arith)

zero_words : (ws : List ℕ) → ((j : ℕ) → get_or ws j 0 ≡ 0) → joined ws ≡ 0
zero_words [] h = refl
zero_words (w ∷ ws) h = let a = zero_words ws (λ j. h (suc j)) in let b : w ≡ 0 = h 0 in omega arith

pub goes_nowhere : (ws : List ℕ) (i t k : ℕ) → (length ws ≡ 8) × IsFit ws → i < 8 → 8 ≤ k → t < 64 → get_or ws i 0 / 2 ^ t / 2 ≡ 0
    → ((j : ℕ) → i < j → j < k → get_or ws j 0 ≡ 0) → false ≡ nat_le (2 ^ (i * 64 + t + 1)) (joined ws)
goes_nowhere ws i t k f l m u h z =
    let a : joined ws / 2 ^ (i * 64) ≡ joined (drop (i + 1) ws) * 2 ^ 64 + get_or ws i 0 = sym (drop_joined ws i f.1) ∙ at_words ws i f.0 l in
    let b : joined (drop (i + 1) ws) ≡ 0 = zero_words (drop (i + 1) ws) (λ j. get_or-drop (i + 1) ws j 0 ∙ later j (nat_lt (i + 1 + j) k) refl) in
    let c : get_or ws i 0 < 2 ^ (t + 1) = low_part (get_or ws i 0) t h in
    let d : joined ws / 2 ^ (i * 64) * 2 ^ (i * 64) + joined ws % 2 ^ (i * 64) ≡ joined ws = shr_split (joined ws) (i * 64) in
    let e = mod_below (joined ws) (2 ^ (i * 64)) (pow_pos (i * 64)) in
    let g : (joined ws / 2 ^ (i * 64) + 1) * 2 ^ (i * 64) ≤ 2 ^ (t + 1) * 2 ^ (i * 64) = mul-le _ _ _ _ (omega arith) (omega arith) in
    let p : (joined ws / 2 ^ (i * 64) + 1) * 2 ^ (i * 64) ≡ joined ws / 2 ^ (i * 64) * 2 ^ (i * 64) + 2 ^ (i * 64) = one_more (joined ws / 2 ^ (i * 64)) (2 ^ (i * 64)) in
    no_le _ _ (omega (arith, above_place i t))
  where
    one_more : (x y : ℕ) → (x + 1) * y ≡ x * y + y
    one_more x y = omega arith

    later : (j : ℕ) (c : Bool) → nat_lt (i + 1 + j) k ≡ c → get_or ws (i + 1 + j) 0 ≡ 0
    later j true e = z (i + 1 + j) (omega arith) (grind arith)
    later j false e = let o : k ≤ i + 1 + j = grind arith in get_or_past ws (i + 1 + j) 0 (omega (arith, f.0))

-- ---- the first word that differs

pub some_bit : (x y : ℕ) → x < 2 ^ 64 → y < 2 ^ 64 → (x ≡ y → ⊥) → 0 < bit_xor x y
some_bit x y f g ne = go (nat_lt 0 (bit_xor x y)) refl
  where
    go : (b : Bool) → nat_lt 0 (bit_xor x y) ≡ b → 0 < bit_xor x y
    go true e = grind arith
    go false e =
        let z : bit_xor x y ≡ 0 = grind arith in
        absurd (ne (same_from_bits x y (λ n.
        let a : bit_at (bit_xor x y) n ≡ (bit_at x n + bit_at y n) % 2 = bit_at_xor x y n in
        let b : bit_at (bit_xor x y) n ≡ bit_at 0 n = ap (λ v. bit_at v n) z in
        let c : bit_at 0 n ≡ 0 = bit_at-zero n in
        let d = bit_at-lt x n in
        let e = bit_at-lt y n in
        omega arith)))

pub first_bit : (x y : ℕ) → x < 2 ^ 64 → y < 2 ^ 64 → (x ≡ y → ⊥)
    → (count_trailing_zeros 64 (bit_xor x y) < 64)
    × (bit_at (bit_xor x y) (count_trailing_zeros 64 (bit_xor x y)) ≡ 1)
    × ((n : ℕ) → n < count_trailing_zeros 64 (bit_xor x y) → bit_at (bit_xor x y) n ≡ 0)
first_bit x y f g ne = bit_at-trailing_zeros w64 (bit_xor x y) (some_bit x y f g ne) (xor_lt 64 x y f g)

-- both sets up to the first bit that differs
pub record Differ (xs ys : List ℕ) (i t : ℕ) : Type 0 where
  pub left : (length xs ≡ 8) × IsFit xs
  pub right : (length ys ≡ 8) × IsFit ys
  pub place : i < 8
  pub bit : t < 64
  pub before : (n : ℕ) → n < i * 64 + t → has (joined xs) n ≡ has (joined ys) n
  pub differs : (bit_at (get_or xs i 0) t + bit_at (get_or ys i 0) t) % 2 ≡ 1

pub differ_at : (xs ys : List ℕ) (i : ℕ) → (length xs ≡ 8) × IsFit xs → (length ys ≡ 8) × IsFit ys → i < 8
    → ((k : ℕ) → k < i → get_or xs k 0 ≡ get_or ys k 0) → (get_or xs i 0 ≡ get_or ys i 0 → ⊥)
    → Differ xs ys i (count_trailing_zeros 64 (bit_xor (get_or xs i 0) (get_or ys i 0)))
differ_at xs ys i f g l same ne = record {
  left = f;
  right = g;
  place = l;
  bit = first.0;
  before = λ n k. ap (λ b. nat_eq b 1) (bit_in_word xs n f.1 ∙ word n k (nat_lt (n / 64) i) refl ∙ sym (bit_in_word ys n g.1));
  differs = sym (bit_at_xor (get_or xs i 0) (get_or ys i 0) t) ∙ first.1;
}
  where
    t : ℕ
    t = count_trailing_zeros 64 (bit_xor (get_or xs i 0) (get_or ys i 0))

    first : (t < 64) × (bit_at (bit_xor (get_or xs i 0) (get_or ys i 0)) t ≡ 1) × ((n : ℕ) → n < t → bit_at (bit_xor (get_or xs i 0) (get_or ys i 0)) n ≡ 0)
    first = first_bit _ _ (f.1 i 0 (omega (arith, f.0))) (g.1 i 0 (omega (arith, g.0))) ne

    word : (n : ℕ) → n < i * 64 + t → (b : Bool) → nat_lt (n / 64) i ≡ b → bit_at (get_or xs (n / 64) 0) (n % 64) ≡ bit_at (get_or ys (n / 64) 0) (n % 64)
    word n k true e = ap (λ w. bit_at w (n % 64)) (same (n / 64) (grind arith))
    word n k false e =
        let o : i ≤ n / 64 = grind arith in
        let p : n / 64 ≡ i = omega (arith, first.0) in
        let q : n % 64 < t = omega (arith, first.0) in
        let a : bit_at (bit_xor (get_or xs i 0) (get_or ys i 0)) (n % 64) ≡ (bit_at (get_or xs i 0) (n % 64) + bit_at (get_or ys i 0) (n % 64)) % 2 = bit_at_xor _ _ (n % 64) in
        let z : bit_at (bit_xor (get_or xs i 0) (get_or ys i 0)) (n % 64) ≡ 0 = first.2 (n % 64) q in
        let c = bit_at-lt (get_or xs i 0) (n % 64) in
        let d = bit_at-lt (get_or ys i 0) (n % 64) in
        let r : bit_at (get_or xs i 0) (n % 64) ≡ bit_at (get_or ys i 0) (n % 64) = omega arith in
        ap (λ q. bit_at (get_or xs q 0) (n % 64)) p ∙ r ∙ ap (λ q. bit_at (get_or ys q 0) (n % 64)) (sym p)

pub joined_below : (ws : List ℕ) → (length ws ≡ 8) × IsFit ws → joined ws < 2 ^ 512
joined_below ws f =
    let a : joined (drop 8 ws) ≡ joined ws / 2 ^ (8 * 64) = drop_joined ws 8 f.1 in
    let b : joined (drop 8 ws) ≡ 0 = no_words ws 8 f.0 (omega arith) in
    let c : joined ws / 2 ^ 512 ≡ 0 = sym a ∙ b in
    let d : joined ws / 2 ^ 512 * 2 ^ 512 + joined ws % 2 ^ 512 ≡ joined ws = shr_split (joined ws) 512 in
    let e = mod_below (joined ws) (2 ^ 512) (pow_pos 512) in
    let g : 0 * 2 ^ 512 + joined ws % 2 ^ 512 ≡ joined ws = subst (λ v. v * 2 ^ 512 + joined ws % 2 ^ 512 ≡ joined ws) c d in
    omega arith

place_bound : (i t : ℕ) → i < 8 → t < 64 → i * 64 + t < 512
place_bound i t h k = omega arith

-- the bit in the word decides which of the two has the number
has_place : (ws : List ℕ) (i t : ℕ) → IsFit ws → t < 64 → has (joined ws) (i * 64 + t) ≡ nat_eq (bit_at (get_or ws i 0) t) 1
has_place ws i t f l = ap (λ b. nat_eq b 1) (bit_joined ws i t f l)

pub first_has : (xs ys : List ℕ) (i t : ℕ) → Differ xs ys i t → bit_and (get_or xs i 0 / 2 ^ t) 1 ≡ 1
    → set_cmp (joined xs) (joined ys) ≡ cond (nat_le (2 ^ (i * 64 + t + 1)) (joined ys)) Less Greater
first_has xs ys i t d h =
    let a : bit_at (get_or xs i 0) t ≡ 1 = sym (shr_and_one (get_or xs i 0) t) ∙ h in
    let b : bit_at (get_or ys i 0) t ≡ 0 = omega (arith, d.differs, bit_at-lt (get_or ys i 0) t) in
    cmp_at (joined xs) (joined ys) (i * 64 + t) (place_bound i t d.place d.bit) (joined_below ys d.right) d.before
    (has_place xs i t d.left.1 d.bit ∙ ap (λ n. nat_eq n 1) a) (has_place ys i t d.right.1 d.bit ∙ ap (λ n. nat_eq n 1) b)

pub second_has : (xs ys : List ℕ) (i t : ℕ) → Differ xs ys i t → (bit_and (get_or xs i 0 / 2 ^ t) 1 ≡ 1 → ⊥)
    → set_cmp (joined xs) (joined ys) ≡ cond (nat_le (2 ^ (i * 64 + t + 1)) (joined xs)) Greater Less
second_has xs ys i t d h =
    let l = bit_at-lt (get_or xs i 0) t in
    let e : bit_and (get_or xs i 0 / 2 ^ t) 1 ≡ bit_at (get_or xs i 0) t = shr_and_one (get_or xs i 0) t in
    let n : bit_at (get_or xs i 0) t ≡ 1 → ⊥ = λ (k : bit_at (get_or xs i 0) t ≡ 1). h (e ∙ k) in
    let a : bit_at (get_or xs i 0) t ≡ 0 = omega arith in
    let b : bit_at (get_or ys i 0) t ≡ 1 = omega (arith, d.differs, bit_at-lt (get_or ys i 0) t) in
    cmp_at_other (joined xs) (joined ys) (i * 64 + t) (place_bound i t d.place d.bit) (joined_below xs d.left) d.before
    (has_place xs i t d.left.1 d.bit ∙ ap (λ n. nat_eq n 1) a) (has_place ys i t d.right.1 d.bit ∙ ap (λ n. nat_eq n 1) b)

-- equal words are equal sets
pub no_difference : (xs ys : List ℕ) (i : ℕ) → length xs ≡ 8 → length ys ≡ 8 → 8 ≤ i → ((k : ℕ) → k < i → get_or xs k 0 ≡ get_or ys k 0)
    → Equal ≡ set_cmp (joined xs) (joined ys)
no_difference xs ys i f g l same =
    let e : xs ≡ ys = ext_get_or 0 xs ys (f ∙ sym g) (λ k h. same k (omega arith)) in
    sym (ap (λ zs. set_cmp (joined xs) (joined zs)) (sym e) ∙ tied_itself set_cmp_total (joined xs))

-- ---- the list of the numbers

pub numbers_more : (a n : ℕ) (b : Bool) → b ≡ has a n → filter (has a) (range_with_len 0 (n + 1)) ≡ filter (has a) (range_with_len 0 n) ++ cond b (n ∷ []) []
numbers_more a n b e =
    let f : 0 + n ≡ n = omega arith in
    ap (filter (has a)) (range_split 0 n 1)
    ∙ filter-append (has a) (range_with_len 0 n) (range_with_len (0 + n) 1)
    ∙ ap (λ k. filter (has a) (range_with_len 0 n) ++ filter (has a) (range_with_len k 1)) f
    ∙ ap (λ t. filter (has a) (range_with_len 0 n) ++ cond t (n ∷ []) []) (sym e)

pub numbers_yes : (a n : ℕ) (xs : List ℕ) → xs ≡ filter (has a) (range_with_len 0 n) → has a n ≡ true → xs ++ n ∷ [] ≡ filter (has a) (range_with_len 0 (n + 1))
numbers_yes a n xs e h = ap (λ ys. ys ++ n ∷ []) e ∙ sym (numbers_more a n true (sym h))

pub numbers_no : (a n : ℕ) (xs : List ℕ) → xs ≡ filter (has a) (range_with_len 0 n) → has a n ≡ false → xs ≡ filter (has a) (range_with_len 0 (n + 1))
numbers_no a n xs e h = e ∙ sym (numbers_more a n false (sym h) ∙ append-nil _)

pub numbers_push : (a n : ℕ) (xs ys : List ℕ) (r : Bool) → xs ≡ filter (has a) (range_with_len 0 n) → r ≡ has a n → r ≡ true → ys ≡ xs ++ n ∷ []
    → ys ≡ filter (has a) (range_with_len 0 (n + 1))
numbers_push a n xs ys r e h t p = p ∙ numbers_yes a n xs e (sym h ∙ t)

pub numbers_are : (a n : ℕ) → n ≡ 512 → filter (has a) (range_with_len 0 n) ≡ numbers_of a
unfolding numbers_of
numbers_are a n e = ap (λ k. filter (has a) (range_with_len 0 k)) e
