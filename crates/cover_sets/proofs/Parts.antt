-- Covers that are part of other ones, their sizes and their signatures.
use Rattle.std.proofs.Common.{◌≡◌, ℕ, zero, suc, ◌+◌, ◌*◌, ◌/◌, ◌%◌, ◌-◌, ◌^◌, ◌<◌, ◌≤◌, Bool, true, false, cond, nat_eq, List, [], ◌∷◌, length, min, max, refl, sym, ap, ◌∙◌, arith}
use Rattle.std.specs.Prelude.{bit_and, bit_or}
use Rattle.std.specs.Int.{bit_at, w64, rotate_left}
use Rattle.std.specs.Int.RustNames.{count_ones}
use Rattle.std.specs.Cmp.{IsTotalOrder}
use Rattle.std.specs.Ordering.{ordering_then}
use Rattle.std.specs.declared.cmp.Ordering.{Ordering}
use Rattle.std.specs.declared.cmp.Ordering.TheVariants.{Less, Equal, Greater}
use Rattle.std.proofs.lemmas.Bool.{and_parts, and_from}
use Rattle.std.proofs.lemmas.Cmp.{on_total, then_total}
use Rattle.std.proofs.lemmas.Nat.{and_block, and_mod, and_shr, and_comm, and_assoc, ones_cat, shr_split, mod_below, and_le_r, pow_pos, ones_le_self, zero_from_ones}
use Rattle.std.proofs.Math.Nat.{pow-suc}
use Rattle.std.proofs.lemmas.Nat.Bits.{bit_at_and, bit_at_or, same_from_bits}
use Rattle.std.proofs.lemmas.List.Elements.{All-head, All-tail}
use Rattle.cover_sets.specs.declared.bit_covers.BitCover.{BitCover}
use Rattle.cover_sets.specs.declared.number_sets.NumberSet.{NumberSet}
use Rattle.cover_sets.specs.Numbers.{is_part, joined, or_all}
use Rattle.cover_sets.specs.Covers.{CoverSets, cover_cmp, part_of}
use Rattle.cover_sets.specs.Bits.{set_of, sets_of, signature_of, size_of}
pub use Rattle.cover_sets.specs.Reduced.{Narrow}
use Rattle.cover_sets.proofs.Words.{IsFit, part_step}
use Rattle.cover_sets.proofs.Orders.{joined_below, set_cmp_total, tied_sets}

-- ---- parts of one set

pub part_is : (a b : ℕ) → is_part a b ≡ true → bit_and a b ≡ a
part_is a b h = grind arith

pub is_is_part : (a b : ℕ) → bit_and a b ≡ a → is_part a b ≡ true
is_is_part a b h = grind arith

and_self : (a : ℕ) → bit_and a a ≡ a
and_self a =
    same_from_bits _ _ (λ i.
    let e : bit_at (bit_and a a) i ≡ min (bit_at a i) (bit_at a i) = bit_at_and a a i in
    omega arith)

pub and_trans : (a b c : ℕ) → bit_and a b ≡ a → bit_and b c ≡ b → bit_and a c ≡ a
and_trans a b c h k = ap (λ x. bit_and x c) (sym h) ∙ and_assoc c a b ∙ ap (bit_and a) k ∙ h

and_both : (a b c d : ℕ) → bit_and a c ≡ a → bit_and b d ≡ b → bit_and (bit_or a b) (bit_or c d) ≡ bit_or a b
and_both a b c d h k =
    same_from_bits _ _ (λ i.
    let p : min (bit_at a i) (bit_at c i) ≡ bit_at a i = sym (bit_at_and a c i) ∙ ap (λ x. bit_at x i) h in
    let q : min (bit_at b i) (bit_at d i) ≡ bit_at b i = sym (bit_at_and b d i) ∙ ap (λ x. bit_at x i) k in
    let e : min (max (bit_at a i) (bit_at b i)) (max (bit_at c i) (bit_at d i)) ≡ max (bit_at a i) (bit_at b i) = omega arith in
    bit_at_and (bit_or a b) (bit_or c d) i
    ∙ ap (min (bit_at (bit_or a b) i)) (bit_at_or c d i)
    ∙ ap (λ x. min x (max (bit_at c i) (bit_at d i))) (bit_at_or a b i)
    ∙ e
    ∙ sym (bit_at_or a b i))

-- ---- how many numbers a part has

digit_part : (p q : ℕ) → p < 2 → q < 2 → bit_and p q ≡ p → (count_ones p ≤ count_ones q) × (count_ones q ≤ count_ones p → p ≡ q)
digit_part zero zero h k e = (omega arith, λ _. refl)
digit_part zero (suc zero) h k e = (let z = ones_le_self 0 in omega arith, λ l. absurd (let z = ones_le_self 0 in let n = zero_from_ones 1 in omega arith))
digit_part (suc zero) zero h k e = absurd (omega arith)
digit_part (suc zero) (suc zero) h k e = (omega arith, λ _. refl)
digit_part (suc (suc p)) q h k e = absurd (omega arith)
digit_part zero (suc (suc q)) h k e = absurd (omega arith)
digit_part (suc zero) (suc (suc q)) h k e = absurd (omega arith)

ones_half : (a : ℕ) → count_ones a ≡ count_ones (a / 2) + count_ones (a % 2)
ones_half a =
    let e : a / 2 ^ 1 * 2 ^ 1 + a % 2 ^ 1 ≡ a = shr_split a 1 in
    sym (ap count_ones e) ∙ ones_cat 1 (a / 2) (a % 2) (mod_below a 2 (omega arith))

pub ones_part : (k a b : ℕ) → a < 2 ^ k → b < 2 ^ k → bit_and a b ≡ a → (count_ones a ≤ count_ones b) × (count_ones b ≤ count_ones a → a ≡ b)
ones_part zero a b h l e =
    let p : a ≡ 0 = omega arith in
    let q : b ≡ 0 = omega arith in
    let r : a ≡ b = p ∙ sym q in
    let s : count_ones a ≡ count_ones b = ap count_ones r in
    (omega arith, λ _. r)
ones_part (suc k) a b h l e =
    let pow : 2 ^ suc k ≡ 2 ^ k * 2 = pow-suc 2 k in
    let high = ones_part k (a / 2) (b / 2) (omega arith) (omega arith) (sym (and_shr a b 1) ∙ ap (λ x. x / 2) e) in
    let low = digit_part (a % 2) (b % 2) (mod_below a 2 (omega arith)) (mod_below b 2 (omega arith)) (sym (and_mod a b 1) ∙ ap (λ x. x % 2) e) in
    let f = ones_half a in
    let g = ones_half b in (
      omega (arith, high.0, low.0),
      λ m.
          let x : a / 2 ≡ b / 2 = high.1 (omega (arith, low.0)) in
          let y : a % 2 ≡ b % 2 = low.1 (omega (arith, high.0)) in
          omega arith,
    )

self_below : (n : ℕ) → n < 2 ^ n
self_below zero = omega arith
self_below (suc n) = let p : 2 ^ suc n ≡ 2 ^ n * 2 = pow-suc 2 n in let h = self_below n in omega arith

pub part_size : (a b : ℕ) → is_part a b ≡ true → (count_ones a ≤ count_ones b) × (count_ones b ≤ count_ones a → a ≡ b)
part_size a b h =
    let e = part_is a b h in
    let l : a ≤ b = let m : bit_and a b ≤ b = and_le_r a b in omega arith in
    ones_part b a b (let m = self_below b in omega arith) (self_below b) e

-- ---- parts of covers

pub record Parts (a b : CoverSets) : Type 0 where
  pub literals : is_part a.literals b.literals ≡ true
  pub next : is_part a.next b.next ≡ true
  pub postponed : is_part a.postponed b.postponed ≡ true

pub parts_of : (a b : CoverSets) → part_of a b ≡ true → Parts a b
parts_of a b h =
    let p = and_parts _ _ h in
    let q = and_parts _ _ p.1 in
    record { literals = p.0; next = q.0; postponed = q.1 }

pub part_from : (a b : CoverSets) → Parts a b → part_of a b ≡ true
part_from a b p = and_from _ _ p.literals (and_from _ _ p.next p.postponed)

pub part_self : (a : CoverSets) → part_of a a ≡ true
part_self a = part_from a a (record { literals = is_is_part _ _ (and_self _); next = is_is_part _ _ (and_self _); postponed = is_is_part _ _ (and_self _) })

part_on_trans : (a b c : ℕ) → is_part a b ≡ true → is_part b c ≡ true → is_part a c ≡ true
part_on_trans a b c h k = is_is_part a c (and_trans a b c (part_is a b h) (part_is b c k))

pub part_trans : (a b c : CoverSets) → part_of a b ≡ true → part_of b c ≡ true → part_of a c ≡ true
part_trans a b c h k =
    let p = parts_of a b h in
    let q = parts_of b c k in
    part_from a c (record { literals = part_on_trans _ _ _ p.literals q.literals; next = part_on_trans _ _ _ p.next q.next; postponed = part_on_trans _ _ _ p.postponed q.postponed })

same_sets : (a b : CoverSets) → a.literals ≡ b.literals → a.next ≡ b.next → a.postponed ≡ b.postponed → a ≡ b
same_sets a b h k l =
    ap (λ x. record_of x a.next a.postponed) h ∙ ap (λ x. record_of b.literals x a.postponed) k ∙ ap (λ x. record_of b.literals b.next x) l
  where
    record_of : ℕ → ℕ → ℕ → CoverSets
    record_of x y z = record { literals = x; next = y; postponed = z }

part_both_ways : (a b : ℕ) → is_part a b ≡ true → is_part b a ≡ true → a ≡ b
part_both_ways a b h k = sym (part_is a b h) ∙ and_comm a b ∙ part_is b a k

pub part_antisym : (a b : CoverSets) → part_of a b ≡ true → part_of b a ≡ true → a ≡ b
part_antisym a b h k =
    let p = parts_of a b h in
    let q = parts_of b a k in
    same_sets a b (part_both_ways _ _ p.literals q.literals) (part_both_ways _ _ p.next q.next) (part_both_ways _ _ p.postponed q.postponed)

-- a part that is no smaller is the whole
pub part_whole : (a b : CoverSets) → part_of a b ≡ true → size_of b ≤ size_of a → a ≡ b
part_whole a b h k =
    let p = parts_of a b h in
    let l = part_size a.literals b.literals p.literals in
    let n = part_size a.next b.next p.next in
    let o = part_size a.postponed b.postponed p.postponed in
    same_sets a b (l.1 (omega (arith, n.0, o.0))) (n.1 (omega (arith, l.0, o.0))) (o.1 (omega (arith, l.0, n.0)))

-- ---- covers of numbers below 512

pub kept_narrow : (c : BitCover) → Narrow (sets_of c)
kept_narrow c = record { literals = joined_below c.literals.words c.literals.fit; next = joined_below c.next.words c.next.fit; postponed = joined_below c.postponed.words c.postponed.fit }

pub cover_cmp_total : IsTotalOrder cover_cmp
cover_cmp_total =
    then_total (then_total (on_total (λ (c : CoverSets). c.literals) set_cmp_total) (on_total (λ (c : CoverSets). c.next) set_cmp_total))
    (on_total (λ (c : CoverSets). c.postponed) set_cmp_total)

then_tied : (o p : Ordering) → ordering_then o p ≡ Equal → (o ≡ Equal) × (p ≡ Equal)
then_tied Less p h = absurd cc
then_tied Equal p h = (refl, h)
then_tied Greater p h = absurd cc

pub tied_covers : (a b : CoverSets) → Narrow a → Narrow b → cover_cmp a b ≡ Equal → a ≡ b
tied_covers a b m n h =
    let p = then_tied _ _ h in
    let q = then_tied _ _ p.0 in
    same_sets a b (tied_sets _ _ m.literals n.literals q.0) (tied_sets _ _ m.next n.next q.1) (tied_sets _ _ m.postponed n.postponed p.1)

-- ---- signatures

part_words : (xs ys : List ℕ) → IsFit xs → IsFit ys → length xs ≡ length ys → is_part (joined xs) (joined ys) ≡ true
    → bit_and (or_all xs) (or_all ys) ≡ or_all xs
part_words [] ys f g l h = refl
part_words (x ∷ xs) [] f g l h = absurd (omega arith)
part_words (x ∷ xs) (y ∷ ys) f g l h =
    go (nat_eq (bit_and x y) x) refl
    (sym (part_step (joined xs) (joined ys) x y (All-head (λ w. w < 2 ^ 64) x xs f) (All-head (λ w. w < 2 ^ 64) y ys g)) ∙ h)
    (λ k. part_words xs ys (All-tail (λ w. w < 2 ^ 64) x xs f) (All-tail (λ w. w < 2 ^ 64) y ys g) (omega arith) k)
  where
    go : (b : Bool) → nat_eq (bit_and x y) x ≡ b → cond b (is_part (joined xs) (joined ys)) false ≡ true
        → (is_part (joined xs) (joined ys) ≡ true → bit_and (or_all xs) (or_all ys) ≡ or_all xs)
        → bit_and (bit_or x (or_all xs)) (bit_or y (or_all ys)) ≡ bit_or x (or_all xs)
    go true e k rec = let i : bit_and x y ≡ x = grind arith in and_both x (or_all xs) y (or_all ys) i (rec k)
    go false e k rec = absurd cc

and_shl : (a b k : ℕ) → bit_and a b ≡ a → bit_and (a * 2 ^ k) (b * 2 ^ k) ≡ a * 2 ^ k
and_shl a b k h =
    let p : 0 < 2 ^ k = pow_pos k in
    let z : bit_and 0 0 ≡ 0 = refl in
    let e : bit_and (a * 2 ^ k + 0) (b * 2 ^ k + 0) ≡ bit_and a b * 2 ^ k + bit_and 0 0 = and_block k a b 0 0 p p in
    let f : a * 2 ^ k + 0 ≡ a * 2 ^ k = omega arith in
    let g : b * 2 ^ k + 0 ≡ b * 2 ^ k = omega arith in
    let i : bit_and a b * 2 ^ k + bit_and 0 0 ≡ a * 2 ^ k = ap (λ x. x * 2 ^ k + bit_and 0 0) h ∙ ap (λ x. a * 2 ^ k + x) z ∙ f in
    sym (ap (λ x. bit_and x (b * 2 ^ k + 0)) f ∙ ap (bit_and (a * 2 ^ k)) g) ∙ e ∙ i

part_turned : (a b k : ℕ) → bit_and a b ≡ a → bit_and (rotate_left w64 a k) (rotate_left w64 b k) ≡ rotate_left w64 a k
part_turned a b k h =
    and_both _ _ _ _
    (sym (and_mod (a * 2 ^ (k % 64)) (b * 2 ^ (k % 64)) 64) ∙ ap (λ x. x % 2 ^ 64) (and_shl a b (k % 64) h))
    (sym (and_shr a b ((64 - k % 64) % 64)) ∙ ap (λ x. x / 2 ^ ((64 - k % 64) % 64)) h)

set_folds : (s t : NumberSet) → is_part (set_of s) (set_of t) ≡ true → bit_and (or_all s.words) (or_all t.words) ≡ or_all s.words
set_folds s t h = part_words s.words t.words s.fit.1 t.fit.1 (s.fit.0 ∙ sym t.fit.0) h

-- a part has a part of the signature
pub part_signature : (a b : BitCover) → part_of (sets_of a) (sets_of b) ≡ true → bit_and (signature_of a) (signature_of b) ≡ signature_of a
part_signature a b h =
    let p = parts_of (sets_of a) (sets_of b) h in
    and_both _ _ _ _
    (and_both _ _ _ _ (set_folds a.literals b.literals p.literals) (part_turned _ _ 21 (set_folds a.next b.next p.next)))
    (part_turned _ _ 42 (set_folds a.postponed b.postponed p.postponed))
