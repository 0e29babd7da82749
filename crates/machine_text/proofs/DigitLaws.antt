-- Decimal numbers, and what they are read as.
use Rattle.std.proofs.Common.{Bor, ◌≡◌, ℕ, ◌+◌, ◌-◌, ◌*◌, ◌/◌, ◌%◌, ◌<◌, ◌≤◌, ◌^◌, Bool, true, false, cond, List, [], ◌∷◌, ◌++◌, append_assoc, length, get_or, drop, Option, Some, None, refl, sym, ap, ◌∙◌, subst, inl, inr, arith}
use Rattle.std.specs.Prelude.{MatchOption}
use Rattle.std.specs.Fmt.{decimal}
use Rattle.std.proofs.lemmas.Fmt.{decimal_step, decimal_digit, decimal_by_steps, first_decimal, decimal_nonempty}
use Rattle.std.proofs.lemmas.List.{at_drop_more, drop_all}
use Rattle.std.proofs.lemmas.Bool.{le-leb, and_from, and_parts, leb-true, both_ways, cases_eq}
use Rattle.machine_text.specs.Fields.{is_digit, begins_with_digit, digits_from, BeginsWithNoNumber}
use Rattle.machine_text.proofs.FieldLaws.{same_head, same_tail}

pub digit_is : (d : ℕ) → d < 10 → is_digit (48 + d) ≡ true
digit_is d h = and_from _ _ (le-leb 48 (48 + d) (omega arith)) (le-leb (48 + d) 57 (omega arith))

pub digit_range : (c : ℕ) → is_digit c ≡ true → (48 ≤ c) × (c ≤ 57)
digit_range c h = let p = and_parts _ _ h in (leb-true 48 c p.0, leb-true c 57 p.1)

-- one digit on
pub digits_more : (n c : ℕ) (cs : List ℕ) → is_digit c ≡ true → digits_from n (c ∷ cs) ≡ digits_from (n * 10 + (c - 48)) cs
digits_more n c cs h = ap (λ b. cond b (digits_from (n * 10 + (c - 48)) cs) (n, c ∷ cs)) h

pub digits_end : (n c : ℕ) (cs : List ℕ) → is_digit c ≡ false → digits_from n (c ∷ cs) ≡ (n, c ∷ cs)
digits_end n c cs h = ap (λ b. cond b (digits_from (n * 10 + (c - 48)) cs) (n, c ∷ cs)) h

pub digits_stop : (n : ℕ) (r : List ℕ) → begins_with_digit r ≡ false → digits_from n r ≡ (n, r)
digits_stop n [] h = refl
digits_stop n (c ∷ cs) h = digits_end n c cs h

-- the digits of a number lead to it
digits_decimal : (n : ℕ) → n < 2 ^ 64 → (r : List ℕ) → digits_from 0 (decimal n ++ r) ≡ digits_from n r
digits_decimal = decimal_by_steps (λ n ds. (r : List ℕ) → digits_from 0 (ds ++ r) ≡ digits_from n r)
    (λ n h r. digits_more 0 (48 + n) r (digit_is n h) ∙ ap (λ x. digits_from x r) (one n))
    (λ n ds h ih r.
    ap (digits_from 0) (append_assoc ds ((48 + n % 10) ∷ []) r)
    ∙ ih ((48 + n % 10) ∷ r)
    ∙ digits_more (n / 10) (48 + n % 10) r (digit_is (n % 10) (omega arith))
    ∙ ap (λ x. digits_from x r) (more n))
  where
    one : (n : ℕ) → 0 * 10 + (48 + n - 48) ≡ n
    one n = omega arith

    more : (n : ℕ) → n / 10 * 10 + (48 + n % 10 - 48) ≡ n
    more n = omega arith

pub digits_whole : (n : ℕ) → n < 2 ^ 64 → (r : List ℕ) → begins_with_digit r ≡ false → digits_from 0 (decimal n ++ r) ≡ (n, r)
digits_whole n l r h = digits_decimal n l r ∙ digits_stop n r h

-- digits never make a number less
digits_rise : (n : ℕ) (t : List ℕ) → n ≤ (digits_from n t).0
digits_rise n [] = omega arith
digits_rise n (c ∷ cs) = go (is_digit c) refl (digits_rise (n * 10 + (c - 48)) cs)
  where
    go : (b : Bool) → is_digit c ≡ b → n * 10 + (c - 48) ≤ (digits_from (n * 10 + (c - 48)) cs).0 → n ≤ (digits_from n (c ∷ cs)).0
    go true e ih = subst (λ p. n ≤ p.0) (sym (digits_more n c cs e)) (omega arith)
    go false e ih = subst (λ p. n ≤ p.0) (sym (digits_end n c cs e)) (omega arith)

-- what stands behind all digits begins with none
pub digits_rest : (n : ℕ) (t : List ℕ) → begins_with_digit (digits_from n t).1 ≡ false
digits_rest n [] = refl
digits_rest n (c ∷ cs) = go (is_digit c) refl (digits_rest (n * 10 + (c - 48)) cs)
  where
    go : (b : Bool) → is_digit c ≡ b → begins_with_digit (digits_from (n * 10 + (c - 48)) cs).1 ≡ false → begins_with_digit (digits_from n (c ∷ cs)).1 ≡ false
    go true e ih = subst (λ p. begins_with_digit p.1 ≡ false) (sym (digits_more n c cs e)) ih
    go false e ih = subst (λ p. begins_with_digit p.1 ≡ false) (sym (digits_end n c cs e)) e

-- digits behind a number that isn't 0 make the number that they show
pub digits_show : (n : ℕ) (t : List ℕ) → 0 < n → (digits_from n t).0 < 2 ^ 64 → decimal n ++ t ≡ decimal (digits_from n t).0 ++ (digits_from n t).1
digits_show n [] h l = refl
digits_show n (c ∷ cs) h l = go (is_digit c) refl (λ k m. digits_show (n * 10 + (c - 48)) cs k m)
  where
    go : (b : Bool) → is_digit c ≡ b → (0 < n * 10 + (c - 48) → (digits_from (n * 10 + (c - 48)) cs).0 < 2 ^ 64 → decimal (n * 10 + (c - 48)) ++ cs ≡ decimal (digits_from (n * 10 + (c - 48)) cs).0 ++ (digits_from (n * 10 + (c - 48)) cs).1) → decimal n ++ c ∷ cs ≡ decimal (digits_from n (c ∷ cs)).0 ++ (digits_from n (c ∷ cs)).1
    go false e ih = subst (λ p. decimal n ++ c ∷ cs ≡ decimal p.0 ++ p.1) (sym (digits_end n c cs e)) refl
    go true e ih =
        let d = digit_range c e in
        let same = digits_more n c cs e in
        let m : (digits_from (n * 10 + (c - 48)) cs).0 < 2 ^ 64 = subst (λ p. p.0 < 2 ^ 64) same l in
        let up = digits_rise (n * 10 + (c - 48)) cs in
        let step : decimal (n * 10 + (c - 48)) ≡ decimal ((n * 10 + (c - 48)) / 10) ++ (48 + (n * 10 + (c - 48)) % 10) ∷ [] = decimal_step (n * 10 + (c - 48)) (omega arith) (omega arith) in
        let q : (n * 10 + (c - 48)) / 10 ≡ n = omega arith in
        let k : 48 + (n * 10 + (c - 48)) % 10 ≡ c = omega arith in
        let shown : decimal (n * 10 + (c - 48)) ≡ decimal n ++ c ∷ [] = step ∙ ap (λ x. decimal x ++ (48 + (n * 10 + (c - 48)) % 10) ∷ []) q ∙ ap (λ x. decimal n ++ x ∷ []) k in
        subst (λ p. decimal n ++ c ∷ cs ≡ decimal p.0 ++ p.1) (sym same)
        (sym (append_assoc (decimal n) (c ∷ []) cs) ∙ ap (λ xs. xs ++ cs) (sym shown) ∙ ih (omega arith) m)

-- a number begins with a digit
begins_more : (ds x : List ℕ) → begins_with_digit ds ≡ true → begins_with_digit (ds ++ x) ≡ true
begins_more [] x h = absurd cc
begins_more (c ∷ cs) x h = h

pub decimal_begins : (n : ℕ) → n < 2 ^ 64 → (r : List ℕ) → begins_with_digit (decimal n ++ r) ≡ true
decimal_begins n l r = begins_more (decimal n) r (decimal_by_steps (λ n ds. begins_with_digit ds ≡ true) (λ m h. digit_is m h) (λ m ds h ih. begins_more ds ((48 + m % 10) ∷ []) ih) n l)

-- a number that isn't 0 begins with another digit than 0
first_of : (ds r rest : List ℕ) (c : ℕ) → 0 < length ds → 48 < get_or ds 0 0 → c ∷ rest ≡ ds ++ r → c ≡ 48 → ⊥
first_of [] r rest c h k e z = omega arith
first_of (d ∷ ds) r rest c h k e z = let s = same_head c d rest (ds ++ r) e in omega arith

-- no number stands where no digit does
pub none_without_digit : (c : ℕ) (text rest : List ℕ) → text ≡ c ∷ rest → is_digit c ≡ false → BeginsWithNoNumber decimal text
none_without_digit c text rest t d = λ n r l s e.
    let b = decimal_begins n l r in
    both_ways (begins_with_digit text) (ap begins_with_digit t ∙ d) (ap begins_with_digit e ∙ b)

pub none_empty : (text : List ℕ) → text ≡ [] → BeginsWithNoNumber decimal text
none_empty text t = λ n r l s e.
    let b = decimal_begins n l r in
    both_ways (begins_with_digit text) (ap begins_with_digit t) (ap begins_with_digit e ∙ b)

-- no number begins with 0 and a further digit
pub none_behind_zero : (c : ℕ) (text rest : List ℕ) → text ≡ c ∷ rest → c ≡ 48 → begins_with_digit rest ≡ true → BeginsWithNoNumber decimal text
none_behind_zero c text rest t z b = λ n r l s e.
    elim (cases_eq n 0) [
      | inl n0 ↦ (let f : c ∷ rest ≡ 48 ∷ r = sym t ∙ e ∙ ap (λ x. decimal x ++ r) n0 ∙ ap (λ ds. ds ++ r) (decimal_digit 0 (omega arith)) in
          both_ways (begins_with_digit rest) (ap begins_with_digit (same_tail c 48 rest r f) ∙ s) b)
      | inr pos ↦ first_of (decimal n) r rest c (decimal_nonempty n l) (first_decimal n (omega arith) l) (sym t ∙ e) z
    ]

-- no number of 64 bits has digits that make a greater one
pub none_past : (c : ℕ) (text rest : List ℕ) → text ≡ c ∷ rest → is_digit c ≡ true → 2 ^ 64 ≤ (digits_from (c - 48) rest).0 → BeginsWithNoNumber decimal text
none_past c text rest t d big = λ n r l s e.
    let a : digits_from 0 text ≡ digits_from (0 * 10 + (c - 48)) rest = ap (digits_from 0) t ∙ digits_more 0 c rest d in
    let b : digits_from 0 text ≡ (n, r) = ap (digits_from 0) e ∙ digits_whole n l r s in
    let z : 0 * 10 + (c - 48) ≡ c - 48 = omega arith in
    let f : (digits_from (c - 48) rest).0 ≡ n = ap (λ x. (digits_from x rest).0) (sym z) ∙ ap (λ p. p.0) (sym a ∙ b) in
    omega arith

-- the digit of a first character, and those behind it
pub number_shown : (c n : ℕ) (text rest r : List ℕ) → text ≡ c ∷ rest → is_digit c ≡ true → (c ≡ 48 → ⊥) → (digits_from (c - 48) rest).0 ≡ n → (digits_from (c - 48) rest).1 ≡ r → n < 2 ^ 64 → text ≡ decimal n ++ r
number_shown c n text rest r t d z e f l =
    let g = digit_range c d in
    let k : c - 48 < 10 = omega arith in
    let one : decimal (c - 48) ≡ (48 + (c - 48)) ∷ [] = decimal_digit (c - 48) k in
    let same : 48 + (c - 48) ≡ c = omega arith in
    let m : (digits_from (c - 48) rest).0 < 2 ^ 64 = omega arith in
    t ∙ ap (λ x. x ∷ rest) (sym same) ∙ ap (λ ds. ds ++ rest) (sym one) ∙ digits_show (c - 48) rest (omega arith) m ∙ ap (λ x. decimal x ++ (digits_from (c - 48) rest).1) e ∙ ap (λ x. decimal n ++ x) f

pub zero_shown : (c : ℕ) (text rest : List ℕ) → text ≡ c ∷ rest → c ≡ 48 → text ≡ decimal 0 ++ rest
zero_shown c text rest t z = t ∙ ap (λ x. x ∷ rest) z ∙ ap (λ ds. ds ++ rest) (sym (decimal_digit 0 (omega arith)))

-- a further digit that makes a number greater than 64 bits hold
pub digits_past : (number value place : ℕ) (text : List ℕ) → place < length text → is_digit (get_or text place 0) ≡ true → digits_from value (drop place text) ≡ digits_from number text → 2 ^ 64 ≤ value * 10 + (get_or text place 0 - 48) → 2 ^ 64 ≤ (digits_from number text).0
digits_past number value place text h d same big =
    let c = get_or text place 0 in
    let e : digits_from (value * 10 + (c - 48)) (drop (place + 1) text) ≡ digits_from number text = sym (digits_more value c (drop (place + 1) text) d) ∙ sym (at_drop_more (digits_from value) text place 0 h) ∙ same in
    let r = digits_rise (value * 10 + (c - 48)) (drop (place + 1) text) in
    let f : (digits_from (value * 10 + (c - 48)) (drop (place + 1) text)).0 ≡ (digits_from number text).0 = ap (λ p. p.0) e in
    omega arith

-- the number of a first digit that isn't 0 and of those behind it
pub number_read : (c : ℕ) (text rest : List ℕ) (o : Option (ℕ × Bor (List ℕ))) → text ≡ c ∷ rest → is_digit c ≡ true → (c ≡ 48 → ⊥) → MatchOption o (2 ^ 64 ≤ (digits_from (c - 48) rest).0) (λ p. (p.0 < 2 ^ 64) × ((digits_from (c - 48) rest).0 ≡ p.0) × ((digits_from (c - 48) rest).1 ≡ p.1.now)) → MatchOption o (BeginsWithNoNumber decimal text) (λ p. (p.0 < 2 ^ 64) × (begins_with_digit p.1.now ≡ false) × (text ≡ decimal p.0 ++ p.1.now))
number_read c text rest None t d z h = none_past c text rest t d h
number_read c text rest (Some p) t d z h = (
  h.0,
  ap begins_with_digit (sym h.2) ∙ digits_rest (c - 48) rest,
  number_shown c p.0 text rest p.1.now t d z h.1 h.2 h.0,
)

-- no further digit
pub digits_here : (number value place : ℕ) (text : List ℕ) → place < length text → is_digit (get_or text place 0) ≡ false → digits_from value (drop place text) ≡ digits_from number text → digits_from number text ≡ (value, drop place text)
digits_here number value place text h d same =
    let e = at_drop_more (λ t. t) text place 0 h in
    sym same ∙ ap (digits_from value) e ∙ digits_end value (get_or text place 0) (drop (place + 1) text) d ∙ ap (λ t. (value, t)) (sym e)

pub digits_done : (number value place : ℕ) (text : List ℕ) → length text ≤ place → digits_from value (drop place text) ≡ digits_from number text → digits_from number text ≡ (value, [])
digits_done number value place text h same = sym same ∙ ap (digits_from value) (drop_all place text h)
