-- Cubes from one signal on, by their bit there.
use Rattle.std.proofs.Common.{Bool, true, false, cond, ◌&&◌, ◌≡◌, ℕ, ◌+◌, ◌*◌, ◌/◌, ◌%◌, ◌^◌, ◌==◌, ◌<◌, ◌≤◌, eqb, List, Some, refl, sym, ap, ◌∙◌, subst, arith, inl, inr, ◌⊎◌, bit_and}
use Rattle.std.proofs.lemmas.Bool.{cases_eq}
use Rattle.std.proofs.lemmas.Bool.Decides.{nat_tests}
use Rattle.std.proofs.lemmas.Nat.{mod_below, shr_split, shr-shr, and_block, and_shr, and_mod, and_le_l, and_le_r, and_mask}
use Rattle.std.proofs.lemmas.Option.{slice_get_within}
use Rattle.std.proofs.Math.Nat.{div-eq_of_lt, div-one}
use Rattle.std.specs.List.{slice_get}
use Rattle.word_core.specs.declared.cubes.Cube.{Cube}
use Rattle.word_core.specs.declared.branches.Branch.{Branch}
use Rattle.word_core.specs.declared.branches.Branch.TheVariants.{Leaf}
use Rattle.word_core.specs.Cube.{IsCube, holds}
use Rattle.word_core.specs.Tree.{label_at, label_of}
use Rattle.letter_tree.specs.Diagram.{top, TreeData, Grows, CanFork, IsForked}
use Rattle.letter_tree.specs.Cubed.{holds_from, IsCubed}
use Rattle.letter_tree.proofs.Diagrams.{label_at-leaf, Grows-length, Grows-top, Grows-label, Grows-then}

eqb_pair : (n m r t : ℕ) → r < 2 → t < 2 → eqb (n * 2 ^ 1 + r) (m * 2 ^ 1 + t) ≡ (eqb n m && eqb r t)
eqb_pair n m r t a b = grind (arith, nat_tests)

-- the test on the bits from s on is that on the bits above s and that on the bit s
pub holds_step : (c : Cube) (s bits : ℕ) → holds_from c s bits ≡ (holds_from c (s + 1) bits && eqb (bit_and (bits / 2 ^ s % 2) (c.care / 2 ^ s % 2)) (c.want / 2 ^ s % 2))
holds_step c s bits =
    ap (λ n. eqb (bit_and n (c.care / 2 ^ s)) (c.want / 2 ^ s)) (parts bits)
    ∙ ap (λ n. eqb (bit_and (bits / 2 ^ (s + 1) * 2 ^ 1 + bits / 2 ^ s % 2) n) (c.want / 2 ^ s)) (parts c.care)
    ∙ ap (λ n. eqb (bit_and (bits / 2 ^ (s + 1) * 2 ^ 1 + bits / 2 ^ s % 2) (c.care / 2 ^ (s + 1) * 2 ^ 1 + c.care / 2 ^ s % 2)) n) (parts c.want)
    ∙ ap (λ n. eqb n (c.want / 2 ^ (s + 1) * 2 ^ 1 + c.want / 2 ^ s % 2))
    (and_block 1 (bits / 2 ^ (s + 1)) (c.care / 2 ^ (s + 1)) (bits / 2 ^ s % 2) (c.care / 2 ^ s % 2) (mod_below (bits / 2 ^ s) 2 (omega arith)) (mod_below (c.care / 2 ^ s) 2 (omega arith)))
    ∙ eqb_pair (bit_and (bits / 2 ^ (s + 1)) (c.care / 2 ^ (s + 1))) (c.want / 2 ^ (s + 1)) (bit_and (bits / 2 ^ s % 2) (c.care / 2 ^ s % 2)) (c.want / 2 ^ s % 2)
    (omega (arith, and_le_l (bits / 2 ^ s % 2) (c.care / 2 ^ s % 2), mod_below (bits / 2 ^ s) 2 (omega arith))) (mod_below (c.want / 2 ^ s) 2 (omega arith))
  where
    parts : (n : ℕ) → n / 2 ^ s ≡ n / 2 ^ (s + 1) * 2 ^ 1 + n / 2 ^ s % 2
    parts n = sym (shr_split (n / 2 ^ s) 1) ∙ ap (λ m. m * 2 ^ 1 + n / 2 ^ s % 2) (shr-shr n s 1)

-- a bit is 0 or 1
pub bit_cases : (n : ℕ) → (n % 2 ≡ 0) ⊎ (n % 2 ≡ 1)
bit_cases n = go (mod_below n 2 (omega arith)) (cases_eq (n % 2) 0)
  where
    go : n % 2 < 2 → (n % 2 ≡ 0) ⊎ (n % 2 ≡ 0 → ⊥) → (n % 2 ≡ 0) ⊎ (n % 2 ≡ 1)
    go h (inl e) = inl e
    go h (inr ne) = inr (omega arith)

-- a cube that doesn't care for a signal wants 0 there
pub want_bit : (c : Cube) (s : ℕ) → bit_and c.want c.care ≡ c.want → c.care / 2 ^ s % 2 ≡ 0 → c.want / 2 ^ s % 2 ≡ 0
want_bit c s h e =
    let k : bit_and (c.want / 2 ^ s % 2) (c.care / 2 ^ s % 2) ≡ c.want / 2 ^ s % 2 =
    sym (and_mod (c.want / 2 ^ s) (c.care / 2 ^ s) 1) ∙ ap (λ n. n % 2) (sym (and_shr c.want c.care s) ∙ ap (λ n. n / 2 ^ s) h) in
    omega (arith, k, and_le_r (c.want / 2 ^ s % 2) (c.care / 2 ^ s % 2))

-- without care the test is that from the next signal on
pub holds_free : (c : Cube) (s bits : ℕ) → bit_and c.want c.care ≡ c.want → c.care / 2 ^ s % 2 ≡ 0 → holds_from c s bits ≡ holds_from c (s + 1) bits
holds_free c s bits h e =
    holds_step c s bits
    ∙ ap (λ n. holds_from c (s + 1) bits && eqb (bit_and (bits / 2 ^ s % 2) n) (c.want / 2 ^ s % 2)) e
    ∙ ap (λ n. holds_from c (s + 1) bits && eqb (bit_and (bits / 2 ^ s % 2) 0) n) (want_bit c s h e)
    ∙ ap (λ n. holds_from c (s + 1) bits && eqb n 0) nothing
    ∙ and_true (holds_from c (s + 1) bits)
  where
    nothing : bit_and (bits / 2 ^ s % 2) 0 ≡ 0
    nothing = omega (arith, and_le_r (bits / 2 ^ s % 2) 0)

    and_true : (b : Bool) → (b && true) ≡ b
    and_true true = refl
    and_true false = refl

-- with care it also asks that the bit is the wanted one
pub holds_cared : (c : Cube) (s bits : ℕ) → c.care / 2 ^ s % 2 ≡ 1 → holds_from c s bits ≡ (holds_from c (s + 1) bits && eqb (bits / 2 ^ s % 2) (c.want / 2 ^ s % 2))
holds_cared c s bits e =
    holds_step c s bits
    ∙ ap (λ n. holds_from c (s + 1) bits && eqb (bit_and (bits / 2 ^ s % 2) n) (c.want / 2 ^ s % 2)) e
    ∙ ap (λ n. holds_from c (s + 1) bits && eqb n (c.want / 2 ^ s % 2)) (same (bits / 2 ^ s) (bit_cases (bits / 2 ^ s)))
  where
    same : (n : ℕ) → (n % 2 ≡ 0) ⊎ (n % 2 ≡ 1) → bit_and (n % 2) 1 ≡ n % 2
    same n (inl z) = ap (λ m. bit_and m 1) z ∙ sym z
    same n (inr o) = ap (λ m. bit_and m 1) o ∙ sym o

-- past the width nothing is cared for
pub holds_past : (c : Cube) (w s bits : ℕ) → IsCube w c → w ≤ s → s ≤ w → holds_from c s bits ≡ true
holds_past c w s bits k a b =
    let e : w ≡ s = omega arith in
    let care : c.care < 2 ^ s = subst (λ n. c.care < 2 ^ n) e k.0 in
    let want : c.want < 2 ^ s = omega (arith, care, k.1, and_le_r c.want c.care) in
    ap (λ n. eqb (bit_and (bits / 2 ^ s) n) (c.want / 2 ^ s)) (div-eq_of_lt care)
    ∙ ap (λ n. eqb (bit_and (bits / 2 ^ s) 0) n) (div-eq_of_lt want)
    ∙ ap (λ n. eqb n 0) nothing
  where
    nothing : bit_and (bits / 2 ^ s) 0 ≡ 0
    nothing = omega (arith, and_le_r (bits / 2 ^ s) 0)

-- from signal 0 on it is the whole cube
pub holds_whole : (c : Cube) (bits : ℕ) → holds_from c 0 bits ≡ holds c bits
holds_whole c bits =
    ap (λ n. eqb (bit_and n (c.care / 1)) (c.want / 1)) (div-one bits)
    ∙ ap (λ n. eqb (bit_and bits n) (c.want / 1)) (div-one c.care)
    ∙ ap (λ n. eqb (bit_and bits c.care) n) (div-one c.want)

pub cubed_leaf : (t : TreeData) (c : Cube) (inner outer s place : ℕ) → IsCube t.width c → t.width ≤ s → s ≤ t.width → slice_get t.nodes place ≡ Some (Leaf inner) → IsCubed t c inner outer s place
cubed_leaf t c inner outer s place k a b e = record {
  within = slice_get_within t.nodes place (Leaf inner) e;
  later = omega (arith, ap (top t.width) e);
  label = λ bits. label_at-leaf t.nodes place inner bits e ∙ sym (ap (λ v. cond v inner outer) (holds_past c t.width s bits k a b));
}

pub cubed_free : (t : TreeData) (c : Cube) (inner outer s place : ℕ) → bit_and c.want c.care ≡ c.want → c.care / 2 ^ s % 2 ≡ 0 → IsCubed t c inner outer (s + 1) place → IsCubed t c inner outer s place
cubed_free t c inner outer s place h e k = record {
  within = k.within;
  later = omega (arith, k.later);
  label = λ bits. k.label bits ∙ sym (ap (λ v. cond v inner outer) (holds_free c s bits h e));
}

pub IsCubed-grow : (t t' : TreeData) (c : Cube) (inner outer s place : ℕ) → Grows t t' → IsCubed t c inner outer s place → IsCubed t' c inner outer s place
IsCubed-grow t t' c inner outer s place g k = record {
  within = omega (arith, k.within, Grows-length t t' g);
  later = omega (arith, k.later, Grows-top t t' g place k.within);
  label = λ bits. Grows-label t t' g place bits k.within ∙ k.label bits;
}

pub can_low : (t1 t2 : TreeData) (c : Cube) (inner outer s rest outside : ℕ) → s < t1.width → Grows t1 t2 → IsCubed t1 c inner outer (s + 1) rest → slice_get t2.nodes outside ≡ Some (Leaf outer) → CanFork t2 s outside rest
can_low t1 t2 c inner outer s rest outside less g k e =
    let k' : IsCubed t2 c inner outer (s + 1) rest = IsCubed-grow t1 t2 c inner outer (s + 1) rest g k in
    record {
      signal_in = omega (arith, less, g.width);
      low_in = slice_get_within t2.nodes outside (Leaf outer) e;
      high_in = k'.within;
      low_later = omega (arith, ap (top t2.width) e, less, g.width);
      high_later = omega (arith, k'.later);
    }

pub can_high : (t1 t2 : TreeData) (c : Cube) (inner outer s rest outside : ℕ) → s < t1.width → Grows t1 t2 → IsCubed t1 c inner outer (s + 1) rest → slice_get t2.nodes outside ≡ Some (Leaf outer) → CanFork t2 s rest outside
can_high t1 t2 c inner outer s rest outside less g k e =
    let k' : IsCubed t2 c inner outer (s + 1) rest = IsCubed-grow t1 t2 c inner outer (s + 1) rest g k in
    record {
      signal_in = omega (arith, less, g.width);
      low_in = k'.within;
      high_in = slice_get_within t2.nodes outside (Leaf outer) e;
      low_later = omega (arith, k'.later);
      high_later = omega (arith, ap (top t2.width) e, less, g.width);
    }

-- the bit that the cube wants is 1
pub cubed_one : (t1 t2 t3 : TreeData) (c : Cube) (inner outer s rest outside place : ℕ) → Grows t1 t2 → Grows t2 t3 → c.care / 2 ^ s % 2 ≡ 1 → c.want / 2 ^ s % 2 ≡ 1
    → IsCubed t1 c inner outer (s + 1) rest → slice_get t2.nodes outside ≡ Some (Leaf outer) → IsForked t3 s outside rest place → IsCubed t3 c inner outer s place
cubed_one t1 t2 t3 c inner outer s rest outside place g h care want k e f = record {
  within = f.within;
  later = f.later;
  label = λ bits.
      f.label bits ∙ at bits (bits / 2 ^ s % 2 == 1)
      ∙ sym (ap (λ v. cond v inner outer) (holds_cared c s bits care ∙ ap (λ n. holds_from c (s + 1) bits && eqb (bits / 2 ^ s % 2) n) want));
}
  where
    k' : IsCubed t3 c inner outer (s + 1) rest
    k' = IsCubed-grow t1 t3 c inner outer (s + 1) rest (Grows-then t1 t2 t3 g h) k

    both : (u : Bool) → cond u inner outer ≡ cond (u && true) inner outer
    both true = refl
    both false = refl

    none : (u : Bool) → outer ≡ cond (u && false) inner outer
    none true = refl
    none false = refl

    at : (bits : ℕ) (v : Bool) → label_at t3.nodes (cond v rest outside) bits ≡ cond (holds_from c (s + 1) bits && v) inner outer
    at bits true = k'.label bits ∙ both (holds_from c (s + 1) bits)
    at bits false =
        Grows-label t2 t3 h outside bits (slice_get_within t2.nodes outside (Leaf outer) e) ∙ label_at-leaf t2.nodes outside outer bits e
        ∙ none (holds_from c (s + 1) bits)

-- the bit that the cube wants is 0
pub cubed_zero : (t1 t2 t3 : TreeData) (c : Cube) (inner outer s rest outside place : ℕ) → Grows t1 t2 → Grows t2 t3 → c.care / 2 ^ s % 2 ≡ 1 → c.want / 2 ^ s % 2 ≡ 0
    → IsCubed t1 c inner outer (s + 1) rest → slice_get t2.nodes outside ≡ Some (Leaf outer) → IsForked t3 s rest outside place → IsCubed t3 c inner outer s place
cubed_zero t1 t2 t3 c inner outer s rest outside place g h care want k e f = record {
  within = f.within;
  later = f.later;
  label = λ bits.
      f.label bits ∙ by_bit bits (bits / 2 ^ s % 2) (bit_cases (bits / 2 ^ s))
      ∙ sym (ap (λ v. cond v inner outer) (holds_cared c s bits care ∙ ap (λ n. holds_from c (s + 1) bits && eqb (bits / 2 ^ s % 2) n) want));
}
  where
    k' : IsCubed t3 c inner outer (s + 1) rest
    k' = IsCubed-grow t1 t3 c inner outer (s + 1) rest (Grows-then t1 t2 t3 g h) k

    both : (u : Bool) → cond u inner outer ≡ cond (u && true) inner outer
    both true = refl
    both false = refl

    none : (u : Bool) → outer ≡ cond (u && false) inner outer
    none true = refl
    none false = refl

    off : (bits : ℕ) → label_at t3.nodes outside bits ≡ outer
    off bits =
        Grows-label t2 t3 h outside bits (slice_get_within t2.nodes outside (Leaf outer) e) ∙ label_at-leaf t2.nodes outside outer bits e

    by_bit : (bits n : ℕ) → (n ≡ 0) ⊎ (n ≡ 1) → label_at t3.nodes (cond (n == 1) outside rest) bits ≡ cond (holds_from c (s + 1) bits && eqb n 0) inner outer
    by_bit bits n (inl z) =
        ap (λ m. label_at t3.nodes (cond (m == 1) outside rest) bits) z ∙ k'.label bits ∙ both (holds_from c (s + 1) bits)
        ∙ sym (ap (λ m. cond (holds_from c (s + 1) bits && eqb m 0) inner outer) z)
    by_bit bits n (inr o) =
        ap (λ m. label_at t3.nodes (cond (m == 1) outside rest) bits) o ∙ off bits ∙ none (holds_from c (s + 1) bits)
        ∙ sym (ap (λ m. cond (holds_from c (s + 1) bits && eqb m 0) inner outer) o)

-- what the code's tests of a bit say
pub bit_is_zero : (n s : ℕ) → bit_and (n / 2 ^ s) 1 ≡ 0 → n / 2 ^ s % 2 ≡ 0
bit_is_zero n s e = sym (and_mask (n / 2 ^ s) 1) ∙ e

pub bit_is_one : (n s : ℕ) → bit_and (n / 2 ^ s) 1 ≡ 1 → n / 2 ^ s % 2 ≡ 1
bit_is_one n s e = sym (and_mask (n / 2 ^ s) 1) ∙ e

pub bit_not_zero : (n s : ℕ) → (bit_and (n / 2 ^ s) 1 ≡ 0 → ⊥) → n / 2 ^ s % 2 ≡ 1
bit_not_zero n s ne = go (bit_cases (n / 2 ^ s))
  where
    go : (n / 2 ^ s % 2 ≡ 0) ⊎ (n / 2 ^ s % 2 ≡ 1) → n / 2 ^ s % 2 ≡ 1
    go (inl z) = absurd (ne (and_mask (n / 2 ^ s) 1 ∙ z))
    go (inr o) = o

pub bit_not_one : (n s : ℕ) → (bit_and (n / 2 ^ s) 1 ≡ 1 → ⊥) → n / 2 ^ s % 2 ≡ 0
bit_not_one n s ne = go (bit_cases (n / 2 ^ s))
  where
    go : (n / 2 ^ s % 2 ≡ 0) ⊎ (n / 2 ^ s % 2 ≡ 1) → n / 2 ^ s % 2 ≡ 0
    go (inl z) = z
    go (inr o) = absurd (ne (and_mask (n / 2 ^ s) 1 ∙ o))

-- the tree of the whole cube
pub cubed_label : (t : TreeData) (c : Cube) (inner outer place : ℕ) (out : List Branch) → IsCubed t c inner outer 0 place
    → ((bits : ℕ) → label_of out bits ≡ label_at t.nodes place bits) → (bits : ℕ) → label_of out bits ≡ cond (holds c bits) inner outer
cubed_label t c inner outer place out k h bits = h bits ∙ k.label bits ∙ ap (λ v. cond v inner outer) (holds_whole c bits)
