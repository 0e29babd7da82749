-- Sets in words of 64 bits.
use Rattle.std.proofs.Common.{◌≡◌, ℕ, zero, suc, ◌+◌, ◌*◌, ◌/◌, ◌%◌, ◌-◌, ◌^◌, ◌<◌, ◌≤◌, ◌≢◌, Bool, true, false, not, cond, nat_eq, nat_lt, eqb, List, [], ◌∷◌, length, get_or, set, drop, max, refl, sym, ap, ◌∙◌, arith}
use Rattle.std.specs.Prelude.{bit_and, bit_or, All}
use Rattle.std.specs.Int.{bit_at}
use Rattle.std.specs.Int.RustNames.{count_ones}
use Rattle.std.proofs.lemmas.Bool.{eqb-false, eqb-true, ne_eqb}
use Rattle.std.proofs.lemmas.Nat.{and_block, or_block, ones_cat, div-add-mod', mod_below, or_lt, same_from_place, or_comm, and_le_l, one_shl, ones_le_self, le_or_l, le_or_r}
use Rattle.std.proofs.lemmas.Nat.Bits.{shr_and_one, bit_at-zero, bit_at_cat_low, bit_at_cat_high, bit_at_or, same_from_bits, bit_at-pow_same, bit_at-pow_other}
use Rattle.std.proofs.lemmas.List.{get_or-set_same, get_or-set_other, get_or_past, length-set, drop_more, drop_all}
use Rattle.std.proofs.lemmas.List.Elements.{All-head, All-tail, All-set}
use Rattle.cover_sets.specs.Numbers.{has, is_part, joined, or_all}

abbrev pub IsFit : List ℕ → Type 0
IsFit ws = All (λ w. w < 2 ^ 64) ws

-- bit r of word q
pub bit_joined : (ws : List ℕ) (q r : ℕ) → IsFit ws → r < 64 → bit_at (joined ws) (q * 64 + r) ≡ bit_at (get_or ws q 0) r
bit_joined [] q r f l = bit_at-zero (q * 64 + r) ∙ sym (bit_at-zero r)
bit_joined (w ∷ ws) zero r f l =
    let e : 0 * 64 + r ≡ r = omega arith in
    ap (bit_at (joined (w ∷ ws))) e ∙ bit_at_cat_low (joined ws) 64 w r l
bit_joined (w ∷ ws) (suc q) r f l =
    let e : suc q * 64 + r - 64 ≡ q * 64 + r = omega arith in
    bit_at_cat_high (joined ws) 64 w (suc q * 64 + r) (All-head (λ x. x < 2 ^ 64) w ws f) (omega arith)
    ∙ ap (bit_at (joined ws)) e
    ∙ bit_joined ws q r (All-tail (λ x. x < 2 ^ 64) w ws f) l

-- a number is in a set where its bit in its word is 1
pub bit_in_word : (ws : List ℕ) (n : ℕ) → IsFit ws → bit_at (joined ws) n ≡ bit_at (get_or ws (n / 64) 0) (n % 64)
bit_in_word ws n f = ap (bit_at (joined ws)) (sym (div-add-mod' n 64)) ∙ bit_joined ws (n / 64) (n % 64) f (mod_below n 64 (omega arith))

-- the union word by word
pub joined_or : (xs ys zs : List ℕ) → IsFit xs → IsFit ys → IsFit zs
    → ((k : ℕ) → get_or zs k 0 ≡ bit_or (get_or xs k 0) (get_or ys k 0)) → joined zs ≡ bit_or (joined xs) (joined ys)
joined_or xs ys zs fx fy fz each =
    same_from_bits _ _ (λ n.
    bit_in_word zs n fz
    ∙ ap (λ w. bit_at w (n % 64)) (each (n / 64))
    ∙ bit_at_or _ _ (n % 64)
    ∙ ap (max (bit_at (get_or xs (n / 64) 0) (n % 64))) (sym (bit_in_word ys n fy))
    ∙ ap (λ b. max b (bit_at (joined ys) n)) (sym (bit_in_word xs n fx))
    ∙ sym (bit_at_or (joined xs) (joined ys) n))

-- one number more
pub joined_with : (xs zs : List ℕ) (n : ℕ) → IsFit xs → IsFit zs
    → get_or zs (n / 64) 0 ≡ bit_or (get_or xs (n / 64) 0) (2 ^ (n % 64))
    → ((k : ℕ) → k ≢ n / 64 → get_or zs k 0 ≡ get_or xs k 0)
    → joined zs ≡ bit_or (joined xs) (2 ^ n)
joined_with xs zs n fx fz here other = same_from_bits _ _ (λ m. bit_in_word zs m fz ∙ go m (eqb (m / 64) (n / 64)) refl)
  where
    same_word : (m : ℕ) → m / 64 ≡ n / 64 → (b : Bool) → eqb (m % 64) (n % 64) ≡ b → bit_at (2 ^ (n % 64)) (m % 64) ≡ bit_at (2 ^ n) m
    same_word m e true h =
        let r : m % 64 ≡ n % 64 = grind arith in
        let s : m ≡ n = omega (arith, div-add-mod' n 64, div-add-mod' m 64) in
        ap (bit_at (2 ^ (n % 64))) r ∙ bit_at-pow_same (n % 64) ∙ sym (ap (bit_at (2 ^ n)) s ∙ bit_at-pow_same n)
    same_word m e false h =
        let r : m % 64 ≢ n % 64 = λ (e : m % 64 ≡ n % 64). absurd (grind arith) in
        let s : m ≢ n = λ (e : m ≡ n). r (ap (λ k. k % 64) e) in
        bit_at-pow_other (n % 64) (m % 64) r ∙ sym (bit_at-pow_other n m s)

    go : (m : ℕ) (b : Bool) → eqb (m / 64) (n / 64) ≡ b → bit_at (get_or zs (m / 64) 0) (m % 64) ≡ bit_at (bit_or (joined xs) (2 ^ n)) m
    go m true h =
        let e : m / 64 ≡ n / 64 = grind arith in
        ap (λ q. bit_at (get_or zs q 0) (m % 64)) e
        ∙ ap (λ w. bit_at w (m % 64)) here
        ∙ bit_at_or _ _ (m % 64)
        ∙ ap (max (bit_at (get_or xs (n / 64) 0) (m % 64))) (same_word m e (eqb (m % 64) (n % 64)) refl)
        ∙ ap (λ q. max (bit_at (get_or xs q 0) (m % 64)) (bit_at (2 ^ n) m)) (sym e)
        ∙ ap (λ b. max b (bit_at (2 ^ n) m)) (sym (bit_in_word xs m fx))
        ∙ sym (bit_at_or (joined xs) (2 ^ n) m)
    go m false h =
        let e : m / 64 ≢ n / 64 = λ (e : m / 64 ≡ n / 64). absurd (grind arith) in
        let s : m ≢ n = λ (k : m ≡ n). e (ap (λ j. j / 64) k) in
        let z : bit_at (2 ^ n) m ≡ 0 = bit_at-pow_other n m s in
        let d : bit_at (bit_or (joined xs) (2 ^ n)) m ≡ max (bit_at (joined xs) m) (bit_at (2 ^ n) m) = bit_at_or (joined xs) (2 ^ n) m in
        ap (λ w. bit_at w (m % 64)) (other (m / 64) e) ∙ sym (bit_in_word xs m fx) ∙ omega arith

-- one word at a time
pub or_step : (a b w v : ℕ) → w < 2 ^ 64 → v < 2 ^ 64 → count_ones (bit_or (a * 2 ^ 64 + w) (b * 2 ^ 64 + v)) ≡ count_ones (bit_or a b) + count_ones (bit_or w v)
or_step a b w v f g = ap count_ones (or_block 64 a b w v f g) ∙ ones_cat 64 (bit_or a b) (bit_or w v) (or_lt 64 w v f g)

and_lt : (w v : ℕ) → w < 2 ^ 64 → bit_and w v < 2 ^ 64
and_lt w v f = omega (arith, and_le_l w v)

both_parts : (p q r s : ℕ) → r < 2 ^ 64 → s < 2 ^ 64 → nat_eq (p * 2 ^ 64 + r) (q * 2 ^ 64 + s) ≡ cond (nat_eq r s) (nat_eq p q) false
both_parts p q r s f g = go (nat_eq r s) (nat_eq p q) refl refl (nat_eq (p * 2 ^ 64 + r) (q * 2 ^ 64 + s)) refl
  where
    go : (b c : Bool) → nat_eq r s ≡ b → nat_eq p q ≡ c → (d : Bool) → nat_eq (p * 2 ^ 64 + r) (q * 2 ^ 64 + s) ≡ d → d ≡ cond b c false
    go true c h k true e = let i = same_from_place p r q s (2 ^ 64) f g (grind arith) in grind arith
    go true c h k false e = grind arith
    go false c h k true e = let i = same_from_place p r q s (2 ^ 64) f g (grind arith) in grind arith
    go false c h k false e = refl

pub part_step : (a b w v : ℕ) → w < 2 ^ 64 → v < 2 ^ 64
    → is_part (a * 2 ^ 64 + w) (b * 2 ^ 64 + v) ≡ cond (nat_eq (bit_and w v) w) (is_part a b) false
part_step a b w v f g =
    ap (λ x. nat_eq x (a * 2 ^ 64 + w)) (and_block 64 a b w v f g) ∙ both_parts (bit_and a b) a (bit_and w v) w (and_lt w v f) f

pub meet_step : (a b w v : ℕ) → w < 2 ^ 64 → v < 2 ^ 64
    → nat_eq (bit_and (a * 2 ^ 64 + w) (b * 2 ^ 64 + v)) 0 ≡ cond (nat_eq (bit_and w v) 0) (nat_eq (bit_and a b) 0) false
meet_step a b w v f g =
    ap (λ x. nat_eq x 0) (and_block 64 a b w v f g) ∙ both_parts (bit_and a b) 0 (bit_and w v) 0 (and_lt w v f) (omega arith)

-- the first i words are those of the union, the others still those of the first set
pub record Joining (xs ys zs : List ℕ) (i : ℕ) : Type 0 where
  pub left : (length xs ≡ 8) × IsFit xs
  pub right : (length ys ≡ 8) × IsFit ys
  pub fit : (length zs ≡ 8) × IsFit zs
  pub done : (k : ℕ) → k < i → get_or zs k 0 ≡ bit_or (get_or xs k 0) (get_or ys k 0)
  pub rest : (k : ℕ) → i ≤ k → get_or zs k 0 ≡ get_or xs k 0

pub joining_none : (xs ys : List ℕ) → (length xs ≡ 8) × IsFit xs → (length ys ≡ 8) × IsFit ys → Joining xs ys xs 0
joining_none xs ys f g = record {
  left = f;
  right = g;
  fit = f;
  done = λ k l. absurd (omega arith);
  rest = λ k l. refl;
}

pub joining_more : (xs ys zs : List ℕ) (i : ℕ) → Joining xs ys zs i → i < 8
    → Joining xs ys (set zs i (bit_or (get_or zs i 0) (get_or ys i 0))) (i + 1)
joining_more xs ys zs i j l = record {
  left = j.left;
  right = j.right;
  fit = (
    length-set zs i new ∙ j.fit.0,
    All-set (λ w. w < 2 ^ 64) zs i new (or_lt 64 _ _ (j.fit.1 i 0 (omega (arith, j.fit.0))) (j.right.1 i 0 (omega (arith, j.right.0)))) j.fit.1,
  );
  done = λ k h. more k h (eqb k i) refl;
  rest = λ k h. get_or-set_other zs i k new 0 (λ (e : k ≡ i). absurd (omega arith)) ∙ j.rest k (omega arith);
}
  where
    new : ℕ
    new = bit_or (get_or zs i 0) (get_or ys i 0)

    more : (k : ℕ) → k < i + 1 → (b : Bool) → eqb k i ≡ b → get_or (set zs i new) k 0 ≡ bit_or (get_or xs k 0) (get_or ys k 0)
    more k h true e =
        let s : k ≡ i = grind arith in
        ap (λ n. get_or (set zs i new) n 0) s
        ∙ get_or-set_same zs i new 0 (omega (arith, j.fit.0))
        ∙ ap (λ w. bit_or w (get_or ys i 0)) (j.rest i (omega arith))
        ∙ ap (λ n. bit_or (get_or xs n 0) (get_or ys n 0)) (sym s)
    more k h false e =
        let s : k ≢ i = λ (same : k ≡ i). absurd (grind arith) in
        get_or-set_other zs i k new 0 s ∙ j.done k (omega arith)

pub joining_all : (xs ys zs : List ℕ) (i : ℕ) → Joining xs ys zs i → 8 ≤ i → joined zs ≡ bit_or (joined xs) (joined ys)
joining_all xs ys zs i j h = joined_or xs ys zs j.left.1 j.right.1 j.fit.1 (λ k. at k (nat_lt k 8) refl)
  where
    at : (k : ℕ) (b : Bool) → nat_lt k 8 ≡ b → get_or zs k 0 ≡ bit_or (get_or xs k 0) (get_or ys k 0)
    at k true e = j.done k (grind arith)
    at k false e =
        let p : 8 ≤ k = grind arith in
        get_or_past zs k 0 (omega (arith, j.fit.0))
        ∙ sym (ap (λ w. bit_or w (get_or ys k 0)) (get_or_past xs k 0 (omega (arith, j.left.0)))
        ∙ ap (bit_or 0) (get_or_past ys k 0 (omega (arith, j.right.0))))

-- ---- the words from i on

pub at_words : (ws : List ℕ) (i : ℕ) → length ws ≡ 8 → i < 8 → joined (drop i ws) ≡ joined (drop (i + 1) ws) * 2 ^ 64 + get_or ws i 0
at_words ws i e l = ap joined (drop_more ws i 0 (omega arith))

pub no_words : (ws : List ℕ) (i : ℕ) → length ws ≡ 8 → 8 ≤ i → joined (drop i ws) ≡ 0
no_words ws i e l = ap joined (drop_all i ws (omega arith))

pub size_more : (xs ys : List ℕ) (i size all : ℕ) → (length xs ≡ 8) × IsFit xs → (length ys ≡ 8) × IsFit ys → i < 8
    → size + count_ones (bit_or (joined (drop i xs)) (joined (drop i ys))) ≡ all
    → size + count_ones (bit_or (get_or xs i 0) (get_or ys i 0)) + count_ones (bit_or (joined (drop (i + 1) xs)) (joined (drop (i + 1) ys))) ≡ all
size_more xs ys i size all f g l h =
    let e : count_ones (bit_or (joined (drop i xs)) (joined (drop i ys)))
    ≡ count_ones (bit_or (joined (drop (i + 1) xs)) (joined (drop (i + 1) ys))) + count_ones (bit_or (get_or xs i 0) (get_or ys i 0)) =
    ap (λ a. count_ones (bit_or a (joined (drop i ys)))) (at_words xs i f.0 l)
    ∙ ap (λ b. count_ones (bit_or (joined (drop (i + 1) xs) * 2 ^ 64 + get_or xs i 0) b)) (at_words ys i g.0 l)
    ∙ or_step _ _ _ _ (f.1 i 0 (omega (arith, f.0))) (g.1 i 0 (omega (arith, g.0))) in
    omega arith

pub size_next : (xs ys : List ℕ) (i size more all : ℕ) → (length xs ≡ 8) × IsFit xs → (length ys ≡ 8) × IsFit ys → i < 8
    → size + count_ones (bit_or (joined (drop i xs)) (joined (drop i ys))) ≡ all
    → more ≡ count_ones (bit_or (get_or xs i 0) (get_or ys i 0))
    → size + more + count_ones (bit_or (joined (drop (i + 1) xs)) (joined (drop (i + 1) ys))) ≡ all
size_next xs ys i size more all f g l h e =
    ap (λ n. size + n + count_ones (bit_or (joined (drop (i + 1) xs)) (joined (drop (i + 1) ys)))) e ∙ size_more xs ys i size all f g l h

pub part_more : (xs ys : List ℕ) (i : ℕ) → (length xs ≡ 8) × IsFit xs → (length ys ≡ 8) × IsFit ys → i < 8
    → is_part (joined (drop i xs)) (joined (drop i ys))
    ≡ cond (nat_eq (bit_and (get_or xs i 0) (get_or ys i 0)) (get_or xs i 0)) (is_part (joined (drop (i + 1) xs)) (joined (drop (i + 1) ys))) false
part_more xs ys i f g l =
    ap (λ a. is_part a (joined (drop i ys))) (at_words xs i f.0 l)
    ∙ ap (is_part (joined (drop (i + 1) xs) * 2 ^ 64 + get_or xs i 0)) (at_words ys i g.0 l)
    ∙ part_step _ _ _ _ (f.1 i 0 (omega (arith, f.0))) (g.1 i 0 (omega (arith, g.0)))

pub meet_more : (xs ys : List ℕ) (i : ℕ) → (length xs ≡ 8) × IsFit xs → (length ys ≡ 8) × IsFit ys → i < 8
    → nat_eq (bit_and (joined (drop i xs)) (joined (drop i ys))) 0
    ≡ cond (nat_eq (bit_and (get_or xs i 0) (get_or ys i 0)) 0) (nat_eq (bit_and (joined (drop (i + 1) xs)) (joined (drop (i + 1) ys))) 0) false
meet_more xs ys i f g l =
    ap (λ a. nat_eq (bit_and a (joined (drop i ys))) 0) (at_words xs i f.0 l)
    ∙ ap (λ b. nat_eq (bit_and (joined (drop (i + 1) xs) * 2 ^ 64 + get_or xs i 0) b) 0) (at_words ys i g.0 l)
    ∙ meet_step _ _ _ _ (f.1 i 0 (omega (arith, f.0))) (g.1 i 0 (omega (arith, g.0)))

-- the word that a number's bit goes into
pub fit_with : (xs : List ℕ) (n : ℕ) → (length xs ≡ 8) × IsFit xs → n < 512
    → (length (set xs (n / 64) (bit_or (get_or xs (n / 64) 0) (1 * 2 ^ (n % 64) % 2 ^ 64))) ≡ 8)
    × IsFit (set xs (n / 64) (bit_or (get_or xs (n / 64) 0) (1 * 2 ^ (n % 64) % 2 ^ 64)))
fit_with xs n f h = (
  length-set xs (n / 64) _ ∙ f.0,
  All-set (λ w. w < 2 ^ 64) xs (n / 64) _
      (or_lt 64 _ _ (f.1 (n / 64) 0 (omega (arith, f.0))) (mod_below (1 * 2 ^ (n % 64)) (2 ^ 64) (omega arith))) f.1,
)

pub is_with : (xs : List ℕ) (n : ℕ) → (length xs ≡ 8) × IsFit xs → n < 512
    → joined (set xs (n / 64) (bit_or (get_or xs (n / 64) 0) (1 * 2 ^ (n % 64) % 2 ^ 64))) ≡ bit_or (joined xs) (2 ^ n)
is_with xs n f h =
    joined_with xs _ n f.1 (fit_with xs n f h).1
    (get_or-set_same xs (n / 64) _ 0 (omega (arith, f.0)) ∙ ap (bit_or (get_or xs (n / 64) 0)) (one_shl (n % 64) 64 (mod_below n 64 (omega arith))))
    (λ k s. get_or-set_other xs (n / 64) k _ 0 s)

pub has_bit : (xs : List ℕ) (n : ℕ) → IsFit xs → nat_eq (bit_and (get_or xs (n / 64) 0 / 2 ^ (n % 64)) 1) 1 ≡ has (joined xs) n
has_bit xs n f = ap (λ b. nat_eq b 1) (shr_and_one (get_or xs (n / 64) 0) (n % 64) ∙ sym (bit_in_word xs n f))

-- ---- what each turn of a loop over the words shows

pub part_on : (xs ys : List ℕ) (i : ℕ) (all : Bool) → (length xs ≡ 8) × IsFit xs → (length ys ≡ 8) × IsFit ys → i < 8
    → is_part (joined (drop i xs)) (joined (drop i ys)) ≡ all → bit_and (get_or xs i 0) (get_or ys i 0) ≡ get_or xs i 0
    → is_part (joined (drop (i + 1) xs)) (joined (drop (i + 1) ys)) ≡ all
part_on xs ys i all f g l h e =
    let t : nat_eq (bit_and (get_or xs i 0) (get_or ys i 0)) (get_or xs i 0) ≡ true = grind arith in
    sym (part_more xs ys i f g l ∙ ap (λ b. cond b (is_part (joined (drop (i + 1) xs)) (joined (drop (i + 1) ys))) false) t) ∙ h

pub part_off : (xs ys : List ℕ) (i : ℕ) (all : Bool) → (length xs ≡ 8) × IsFit xs → (length ys ≡ 8) × IsFit ys → i < 8
    → is_part (joined (drop i xs)) (joined (drop i ys)) ≡ all → (bit_and (get_or xs i 0) (get_or ys i 0) ≡ get_or xs i 0 → ⊥)
    → false ≡ all
part_off xs ys i all f g l h e =
    let t : nat_eq (bit_and (get_or xs i 0) (get_or ys i 0)) (get_or xs i 0) ≡ false = grind arith in
    sym (part_more xs ys i f g l ∙ ap (λ b. cond b (is_part (joined (drop (i + 1) xs)) (joined (drop (i + 1) ys))) false) t) ∙ h

pub part_end : (xs ys : List ℕ) (i : ℕ) (all : Bool) → length xs ≡ 8 → length ys ≡ 8 → 8 ≤ i
    → is_part (joined (drop i xs)) (joined (drop i ys)) ≡ all → true ≡ all
part_end xs ys i all f g l h =
    sym (ap (λ a. is_part a (joined (drop i ys))) (no_words xs i f l) ∙ ap (is_part 0) (no_words ys i g l)) ∙ h

or_none : (a b : ℕ) → nat_eq (bit_or a b) 0 ≡ cond (nat_eq a 0) (nat_eq b 0) false
or_none a b = go (nat_eq a 0) (nat_eq b 0) refl refl
  where
    go : (x y : Bool) → nat_eq a 0 ≡ x → nat_eq b 0 ≡ y → nat_eq (bit_or a b) 0 ≡ cond x y false
    go true true h k = ap (λ z. nat_eq (bit_or z b) 0) (eqb-true a 0 h) ∙ ap (λ z. nat_eq (bit_or 0 z) 0) (eqb-true b 0 k)
    go true false h k = let l = le_or_r a b in let n = eqb-false b 0 k in ne_eqb (bit_or a b) 0 (λ (e : bit_or a b ≡ 0). n (omega arith))
    go false y h k = let l = le_or_l a b in let n = eqb-false a 0 h in ne_eqb (bit_or a b) 0 (λ (e : bit_or a b ≡ 0). n (omega arith))

cond_turn : (a b c : Bool) → cond (cond a b false) c false ≡ cond a (cond b c false) false
cond_turn true b c = refl
cond_turn false b c = refl

pub meet_on : (xs ys : List ℕ) (i shared : ℕ) (all : Bool) → (length xs ≡ 8) × IsFit xs → (length ys ≡ 8) × IsFit ys → i < 8
    → cond (nat_eq shared 0) (nat_eq (bit_and (joined (drop i xs)) (joined (drop i ys))) 0) false ≡ all
    → cond (nat_eq (bit_or shared (bit_and (get_or xs i 0) (get_or ys i 0))) 0) (nat_eq (bit_and (joined (drop (i + 1) xs)) (joined (drop (i + 1) ys))) 0) false ≡ all
meet_on xs ys i shared all f g l h =
    ap (λ b. cond b (nat_eq (bit_and (joined (drop (i + 1) xs)) (joined (drop (i + 1) ys))) 0) false) (or_none shared (bit_and (get_or xs i 0) (get_or ys i 0)))
    ∙ cond_turn (nat_eq shared 0) (nat_eq (bit_and (get_or xs i 0) (get_or ys i 0)) 0) (nat_eq (bit_and (joined (drop (i + 1) xs)) (joined (drop (i + 1) ys))) 0)
    ∙ ap (λ b. cond (nat_eq shared 0) b false) (sym (meet_more xs ys i f g l))
    ∙ h

pub meet_end : (xs ys : List ℕ) (i shared : ℕ) (all : Bool) → length xs ≡ 8 → length ys ≡ 8 → 8 ≤ i
    → cond (nat_eq shared 0) (nat_eq (bit_and (joined (drop i xs)) (joined (drop i ys))) 0) false ≡ all → not (nat_eq shared 0) ≡ not all
meet_end xs ys i shared all f g l h =
    ap not (alone (nat_eq shared 0)
    ∙ sym (ap (λ b. cond (nat_eq shared 0) b false) (ap (λ a. nat_eq (bit_and a (joined (drop i ys))) 0) (no_words xs i f l) ∙ ap (λ b. nat_eq (bit_and 0 b) 0) (no_words ys i g l)))
    ∙ h)
  where
    alone : (b : Bool) → b ≡ cond b true false
    alone true = refl
    alone false = refl

pub size_end : (xs ys : List ℕ) (i size all : ℕ) → length xs ≡ 8 → length ys ≡ 8 → 8 ≤ i
    → size + count_ones (bit_or (joined (drop i xs)) (joined (drop i ys))) ≡ all → size ≡ all
size_end xs ys i size all f g l h =
    let e : count_ones (bit_or (joined (drop i xs)) (joined (drop i ys))) ≡ count_ones 0 =
    ap (λ a. count_ones (bit_or a (joined (drop i ys)))) (no_words xs i f l) ∙ ap (λ b. count_ones (bit_or 0 b)) (no_words ys i g l) in
    let z : count_ones 0 ≤ 0 = ones_le_self 0 in
    omega arith

max_assoc : (a b c : ℕ) → max (max a b) c ≡ max a (max b c)
max_assoc a b c = omega arith

pub or_assoc : (a b c : ℕ) → bit_or (bit_or a b) c ≡ bit_or a (bit_or b c)
or_assoc a b c =
    same_from_bits _ _ (λ i.
    bit_at_or (bit_or a b) c i
    ∙ ap (λ x. max x (bit_at c i)) (bit_at_or a b i)
    ∙ max_assoc (bit_at a i) (bit_at b i) (bit_at c i)
    ∙ ap (max (bit_at a i)) (sym (bit_at_or b c i))
    ∙ sym (bit_at_or a (bit_or b c) i))

pub or_zero : (a : ℕ) → bit_or a 0 ≡ a
or_zero a =
    same_from_bits _ _ (λ i.
    let z : bit_at 0 i ≡ 0 = bit_at-zero i in
    let e : bit_at (bit_or a 0) i ≡ max (bit_at a i) (bit_at 0 i) = bit_at_or a 0 i in
    omega arith)

pub fold_more : (ws : List ℕ) (i bits : ℕ) → length ws ≡ 8 → i < 8 → bit_or bits (or_all (drop i ws)) ≡ or_all ws
    → bit_or (bit_or bits (get_or ws i 0)) (or_all (drop (i + 1) ws)) ≡ or_all ws
fold_more ws i bits f l h =
    or_assoc bits (get_or ws i 0) (or_all (drop (i + 1) ws)) ∙ ap (λ xs. bit_or bits (or_all xs)) (sym (drop_more ws i 0 (omega arith))) ∙ h

pub fold_start : (ws : List ℕ) → bit_or 0 (or_all ws) ≡ or_all ws
fold_start ws = or_comm 0 (or_all ws) ∙ or_zero (or_all ws)

pub fold_end : (ws : List ℕ) (i bits : ℕ) → length ws ≡ 8 → 8 ≤ i → bit_or bits (or_all (drop i ws)) ≡ or_all ws → bits ≡ or_all ws
fold_end ws i bits f l h = sym (ap (λ xs. bit_or bits (or_all xs)) (drop_all i ws (omega arith)) ∙ or_zero bits) ∙ h
