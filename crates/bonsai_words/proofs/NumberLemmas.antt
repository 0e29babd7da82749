-- Texts of numbers.
use Rattle.std.proofs.Common.{◌≡◌, ◌∙◌, ◌⊎◌, inl, inr, ◌<◌, ◌≤◌, ◌+◌, ◌==◌, ◌^◌, ℕ, Bool, true, false, cond, not, ◌&&◌, refl, sym, ap, subst, arith, List, [], ◌∷◌, length, get_or, drop, Some, None, le-leb, leb-true}
use Rattle.std.specs.Prelude.{nat_le}
use Rattle.std.specs.List.{list_all}
use Rattle.std.specs.Char.{digit_value}
use Rattle.std.specs.Str.Parse.{AllDigits, IsNumeral, digits_value, without_leading_plus}
use Rattle.std.proofs.lemmas.Bool.{and_parts, and_from, or_left, or_right, eq-eqb, ne_eqb, not_from_false}
use Rattle.std.proofs.lemmas.Str.{digit_value_digit}
use Rattle.std.proofs.lemmas.Str.Parse.{digit_from_value}
use Rattle.bonsai_words.specs.Ordered.{is_digit, is_number, number_in}

digits_true : (ds : List ℕ) → AllDigits 10 ds → list_all is_digit ds ≡ true
digits_true [] h = refl
digits_true (d ∷ ds) h =
    let r = digit_from_value d h.0 in
    and_from _ _ (and_from _ _ (le-leb 48 d (omega arith)) (le-leb d 57 (omega arith))) (digits_true ds h.1)

digits_from : (ds : List ℕ) → list_all is_digit ds ≡ true → AllDigits 10 ds
digits_from [] h = tt
digits_from (d ∷ ds) h =
    let p = and_parts _ _ h in
    let q = and_parts _ _ p.0 in
    let low : 48 ≤ d = leb-true 48 d q.0 in
    let high : d ≤ 57 = leb-true d 57 q.1 in
    let v : digit_value d + 48 ≡ d = digit_value_digit d (low, high) in
    (omega arith, digits_from ds p.1)

-- what the first byte may be
abbrev pub BeginsWell : List ℕ → Type 0
BeginsWell text = (get_or text 0 0 ≡ 43 → ⊥) × (((get_or text 0 0 ≡ 48) × (length text ≤ 1)) ⊎ (get_or text 0 0 ≡ 48 → ⊥))

no_plus : (text : List ℕ) → (get_or text 0 0 ≡ 43 → ⊥) → without_leading_plus text ≡ text
no_plus text h = ap (λ b. drop (cond b 1 0) text) (ne_eqb (get_or text 0 0) 43 h)

number_is : (text : List ℕ) → BeginsWell text → IsNumeral 10 text → is_number text ≡ true
number_is [] b n = absurd (omega (arith, n.0))
number_is (d ∷ ds) b n = and_from _ _ (digits_true (d ∷ ds) n.1) (elim b.1 [
  | inl z ↦ or_right (not (d == 48)) (length ds == 0) (eq-eqb (length ds) 0 (omega (arith, z.1)))
  | inr z ↦ or_left (not (d == 48)) (length ds == 0) (not_from_false (d == 48) (ne_eqb d 48 z))
])

numeral_from : (text : List ℕ) → is_number text ≡ true → IsNumeral 10 text
numeral_from [] h = absurd cc
numeral_from (d ∷ ds) h = (omega arith, digits_from (d ∷ ds) (and_parts _ _ h).0)

pub number_some : (text : List ℕ) (least most n : ℕ) → BeginsWell text
    → IsNumeral 10 (without_leading_plus text) → n ≡ digits_value 10 (without_leading_plus text) → least ≤ n → n ≤ most
    → Some n ≡ number_in least most text
number_some text least most n b numeral is low high =
    let same = no_plus text b.0 in
    let value : n ≡ digits_value 10 text = is ∙ ap (digits_value 10) same in
    let test : (is_number text && (nat_le least (digits_value 10 text) && nat_le (digits_value 10 text) most)) ≡ true =
    and_from _ _ (number_is text b (subst (IsNumeral 10) same numeral)) (and_from _ _ (le-leb least (digits_value 10 text) (omega arith)) (le-leb (digits_value 10 text) most (omega arith))) in
    ap Some value ∙ sym (ap (λ t. cond t (Some (digits_value 10 text)) None) test)

pub number_none : (text : List ℕ) (least most : ℕ) → (get_or text 0 0 ≡ 43 → ⊥) → most < 2 ^ 32
    → (IsNumeral 10 (without_leading_plus text) × (digits_value 10 (without_leading_plus text) < 2 ^ 32) → ⊥)
    → None ≡ number_in least most text
number_none text least most plus fits bad = go (is_number text && (nat_le least (digits_value 10 text) && nat_le (digits_value 10 text) most)) refl
  where
    go : (b : Bool) → (is_number text && (nat_le least (digits_value 10 text) && nat_le (digits_value 10 text) most)) ≡ b → None ≡ cond b (Some (digits_value 10 text)) None
    go true e =
        let p : (is_number text ≡ true) × ((nat_le least (digits_value 10 text) && nat_le (digits_value 10 text) most) ≡ true) = and_parts _ _ e in
        let q : (nat_le least (digits_value 10 text) ≡ true) × (nat_le (digits_value 10 text) most ≡ true) = and_parts _ _ p.1 in
        let high : digits_value 10 text ≤ most = leb-true (digits_value 10 text) most q.1 in
        let same = sym (no_plus text plus) in
        let low : digits_value 10 text < 2 ^ 32 = omega arith in
        absurd (bad (subst (IsNumeral 10) same (numeral_from text p.0), subst (λ t. digits_value 10 t < 2 ^ 32) same low))
    go false e = refl
