-- All states in one class.
use Rattle.std.proofs.Common.{◌≡◌, ℕ, zero, suc, ◌+◌, ◌<◌, ◌≤◌, ◌^◌, max, List, [], ◌∷◌, length, get_or, replicate, fold, take, refl, sym, ◌∙◌, ap, arith}
use Rattle.std.proofs.lemmas.List.{get_or-replicate, length-replicate}
use Rattle.nba_quotient.specs.declared.classes.Classes.{Classes}
use Rattle.nba_quotient.specs.Classes.{known, AreClasses}
use Rattle.nba_quotient.specs.Ways.{class_at}

known_one : (n : ℕ) → fold (λ n c. max n (c + 1)) 1 (replicate n 0) ≡ 1
known_one zero = refl
known_one (suc n) = known_one n

known_some : (n : ℕ) → 0 < n → known (replicate n 0) ≡ 1
known_some zero l = absurd (omega arith)
known_some (suc n) l = known_one n

pub one_class_is : (count : ℕ) (c : Classes) → count < 2 ^ 32 → 0 < count → c.of.items ≡ replicate count 0 → c.leasts.items ≡ 0 ∷ [] → AreClasses count c
one_class_is count c small some of leasts =
    let size : length c.of.items ≡ count = ap length of ∙ length-replicate {A = ℕ} count 0 in
    let one : length c.leasts.items ≡ 1 = ap length leasts in
    let at : (s : ℕ) → s < count → class_at c.of.items s ≡ 0 = λ s l. ap (λ (l : List ℕ). get_or l s 0) of ∙ get_or-replicate count s 0 0 l in
    let first : class_at c.leasts.items 0 ≡ 0 = ap (λ (l : List ℕ). get_or l 0 0) leasts in
    record {
      small = small;
      each = size;
      few = omega (arith, one);
      classes = λ k d l. within k d l;
      leasts = λ k d l. least k d l;
      own = λ s l. ap (λ k. class_at c.of.items (class_at c.leasts.items k)) (at s l) ∙ ap (class_at c.of.items) first ∙ at 0 some ∙ sym (at s l);
      ordered = λ s l. low s (omega (arith, size));
      counted = ap known of ∙ known_some count some ∙ sym one;
    }
  where
    within : (k d : ℕ) → k < length c.of.items → get_or c.of.items k d < length c.leasts.items
    within k d l =
        let m : k < count = omega (arith, ap length of, length-replicate {A = ℕ} count 0) in
        let e : get_or c.of.items k d ≡ 0 = ap (λ (l : List ℕ). get_or l k d) of ∙ get_or-replicate count k 0 d m in
        let one : length c.leasts.items ≡ 1 = ap length leasts in
        omega arith

    least : (k d : ℕ) → k < length c.leasts.items → get_or c.leasts.items k d < count
    least k d l =
        let one : length c.leasts.items ≡ 1 = ap length leasts in
        let z : k ≡ 0 = omega arith in
        let e : get_or c.leasts.items k d ≡ 0 = ap (λ n. get_or c.leasts.items n d) z ∙ ap (λ (l : List ℕ). get_or l 0 d) leasts in
        omega arith

    low : (s : ℕ) → s < count → class_at c.of.items s ≤ known (take s c.of.items)
    low s l =
        let e : class_at c.of.items s ≡ 0 = ap (λ (l : List ℕ). get_or l s 0) of ∙ get_or-replicate count s 0 0 l in
        omega arith
