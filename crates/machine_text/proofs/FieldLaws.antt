-- Characters of valuations and patterns, and what they are read as.
use Rattle.std.proofs.Common.{Bor, ◌≡◌, ℕ, zero, suc, ◌+◌, ◌-◌, ◌*◌, ◌/◌, ◌%◌, ◌<◌, ◌≤◌, ◌^◌, min, List, [], ◌∷◌, ◌++◌, append_assoc, Option, Some, None, refl, sym, ap, ◌∙◌, subst, arith}
use Rattle.std.specs.Prelude.{bit_and, MatchOption}
use Rattle.std.specs.Int.Bits.{and_step}
use Rattle.std.proofs.lemmas.Grind.{pow_more}
use Rattle.word_core.specs.declared.cubes.Cube.{Cube}
use Rattle.word_core.specs.Cube.{IsCube}
use Rattle.machine_text.specs.Fields.{chars_of, valuation, mark, marks_of, pattern, IsNoBit, IsNoMark, BeginsWithNone}

pub same_head : {X : Type 0} (x y : X) (xs ys : List X) → x ∷ xs ≡ y ∷ ys → x ≡ y
same_head x y xs ys e = cc

pub same_tail : {X : Type 0} (x y : X) (xs ys : List X) → x ∷ xs ≡ y ∷ ys → xs ≡ ys
same_tail x y xs ys e = cc

pub nil_cons : {X : Type 0} (x : X) (xs : List X) → [] ≡ x ∷ xs → ⊥
nil_cons x xs e = cc

doubled_half : (b v : ℕ) → b < 2 → (b + v * 2) / 2 ≡ v
doubled_half b v h = omega arith

doubled_odd : (b v : ℕ) → b < 2 → (b + v * 2) % 2 ≡ b
doubled_odd b v h = omega arith

pub odd_below : (v : ℕ) → v % 2 < 2
odd_below v = omega arith

pub half_below : (v w : ℕ) → v < 2 ^ suc w → v / 2 < 2 ^ w
half_below v w h = let p : 2 ^ (w + 1) ≡ 2 ^ w * 2 = pow_more 2 w in omega arith

doubled_below : (b v w : ℕ) → b < 2 → v < 2 ^ w → b + v * 2 < 2 ^ suc w
doubled_below b v w h k = let p : 2 ^ (w + 1) ≡ 2 ^ w * 2 = pow_more 2 w in omega arith

less_one : (w : ℕ) → suc w - 1 ≡ w
less_one w = omega arith

-- the characters of a valuation from its lowest bit and the others
chars_step : (w b v : ℕ) → b < 2 → chars_of (suc w) (b + v * 2) ≡ (48 + b) ∷ chars_of w v
chars_step w b v h =
    ap (λ x. (48 + x) ∷ chars_of w ((b + v * 2) / 2)) (doubled_odd b v h) ∙ ap (λ x. (48 + b) ∷ chars_of w x) (doubled_half b v h)

bits_some_at : (w b v : ℕ) (text rest r : List ℕ) (first : ℕ) → text ≡ first ∷ rest → b < 2 → first ≡ 48 + b → v < 2 ^ w → rest ≡ chars_of w v ++ r → (b + v * 2 < 2 ^ suc w) × (text ≡ chars_of (suc w) (b + v * 2) ++ r)
bits_some_at w b v text rest r first t h f k e = (
  doubled_below b v w h k,
  t ∙ ap (λ x. x ∷ rest) f ∙ ap (λ xs. (48 + b) ∷ xs) e ∙ ap (λ xs. xs ++ r) (sym (chars_step w b v h)),
)

pub bits_some : (n first b v : ℕ) (text rest r : List ℕ) → (n ≡ 0 → ⊥) → text ≡ first ∷ rest → (b < 2) × (first ≡ 48 + b) → (v < 2 ^ (n - 1)) × (rest ≡ chars_of (n - 1) v ++ r) → (b + v * 2 < 2 ^ n) × (text ≡ chars_of n (b + v * 2) ++ r)
bits_some zero first b v text rest r n t h k = absurd (n refl)
bits_some (suc w) first b v text rest r n t h k =
    let e = less_one w in
    bits_some_at w b v text rest r first t h.0 h.1 (subst (λ x. v < 2 ^ x) e k.0) (subst (λ x. rest ≡ chars_of x v ++ r) e k.1)

pub bits_none_empty : (n : ℕ) (text : List ℕ) → (n ≡ 0 → ⊥) → text ≡ [] → BeginsWithNone (λ v. v < 2 ^ n) (chars_of n) text
bits_none_empty zero text n t = absurd (n refl)
bits_none_empty (suc w) text n t = λ v r h e. nil_cons _ _ (sym t ∙ e)

pub bits_none_char : (n first : ℕ) (text rest : List ℕ) → (n ≡ 0 → ⊥) → text ≡ first ∷ rest → IsNoBit first → BeginsWithNone (λ v. v < 2 ^ n) (chars_of n) text
bits_none_char zero first text rest n t absent = absurd (n refl)
bits_none_char (suc w) first text rest n t absent = λ v r h e. absent (v % 2) (odd_below v) (same_head _ _ _ _ (sym t ∙ e))

pub bits_none_rest : (n first : ℕ) (text rest : List ℕ) → (n ≡ 0 → ⊥) → text ≡ first ∷ rest → BeginsWithNone (λ v. v < 2 ^ (n - 1)) (chars_of (n - 1)) rest → BeginsWithNone (λ v. v < 2 ^ n) (chars_of n) text
bits_none_rest zero first text rest n t absent = absurd (n refl)
bits_none_rest (suc w) first text rest n t absent = λ v r h e.
    let same = less_one w in
    absent (v / 2) r (subst (λ x. v / 2 < 2 ^ x) (sym same) (half_below v w h)) (subst (λ x. rest ≡ chars_of x (v / 2) ++ r) (sym same) (same_tail _ _ _ _ (sym t ∙ e)))

pub valuation_is : (n v : ℕ) → (n ≡ 0 → ⊥) → valuation n v ≡ chars_of n v
valuation_is zero v n = absurd (n refl)
valuation_is (suc w) v n = refl

-- the characters of a pattern from its lowest signal and the others
marks_step : (w a b c d : ℕ) → a < 2 → b < 2 → marks_of (suc w) (a + c * 2) (b + d * 2) ≡ mark a b ∷ marks_of w c d
marks_step w a b c d h k =
    ap (λ x. mark x ((b + d * 2) % 2) ∷ marks_of w ((a + c * 2) / 2) ((b + d * 2) / 2)) (doubled_odd a c h)
    ∙ ap (λ x. mark a x ∷ marks_of w ((a + c * 2) / 2) ((b + d * 2) / 2)) (doubled_odd b d k)
    ∙ ap (λ x. mark a b ∷ marks_of w x ((b + d * 2) / 2)) (doubled_half a c h)
    ∙ ap (λ x. mark a b ∷ marks_of w c x) (doubled_half b d k)

-- the want of the lowest signal is a part of its care, and that of the others of theirs
pub part_low : (care want : ℕ) → bit_and want care ≡ want → want % 2 ≤ care % 2
part_low care want h = let s = and_step want care in omega arith

pub part_high : (care want : ℕ) → bit_and want care ≡ want → bit_and (want / 2) (care / 2) ≡ want / 2
part_high care want h = let s = and_step want care in omega arith

part_doubled : (a b c d : ℕ) → a < 2 → b ≤ a → bit_and d c ≡ d → bit_and (b + d * 2) (a + c * 2) ≡ b + d * 2
part_doubled a b c d h k e =
    let l : b < 2 = omega arith in
    let s : bit_and (b + d * 2) (a + c * 2) ≡ bit_and ((b + d * 2) / 2) ((a + c * 2) / 2) * 2 + min ((b + d * 2) % 2) ((a + c * 2) % 2) = and_step (b + d * 2) (a + c * 2) in
    let m : bit_and ((b + d * 2) / 2) ((a + c * 2) / 2) ≡ d = ap (λ x. bit_and x ((a + c * 2) / 2)) (doubled_half b d l) ∙ ap (bit_and d) (doubled_half a c h) ∙ e in
    let o = doubled_odd b d l in
    let p = doubled_odd a c h in
    omega arith

marks_some_at : (w a b c d : ℕ) (text rest r : List ℕ) (first : ℕ) → text ≡ first ∷ rest → a < 2 → b ≤ a → first ≡ mark a b → c < 2 ^ w → bit_and d c ≡ d → rest ≡ marks_of w c d ++ r → (a + c * 2 < 2 ^ suc w) × (bit_and (b + d * 2) (a + c * 2) ≡ b + d * 2) × (text ≡ marks_of (suc w) (a + c * 2) (b + d * 2) ++ r)
marks_some_at w a b c d text rest r first t h k f l p e = (
  doubled_below a c w h l,
  part_doubled a b c d h k p,
  t ∙ ap (λ x. x ∷ rest) f ∙ ap (λ xs. mark a b ∷ xs) e ∙ ap (λ xs. xs ++ r) (sym (marks_step w a b c d h (omega arith))),
)

pub marks_some : (n first a b c d : ℕ) (text rest r : List ℕ) → (n ≡ 0 → ⊥) → text ≡ first ∷ rest → (a < 2) × (b ≤ a) × (first ≡ mark a b) → ((c < 2 ^ (n - 1)) × (bit_and d c ≡ d)) × (rest ≡ marks_of (n - 1) c d ++ r) → ((a + c * 2 < 2 ^ n) × (bit_and (b + d * 2) (a + c * 2) ≡ b + d * 2)) × (text ≡ marks_of n (a + c * 2) (b + d * 2) ++ r)
marks_some zero first a b c d text rest r n t h k = absurd (n refl)
marks_some (suc w) first a b c d text rest r n t h k =
    let e = less_one w in
    let s = marks_some_at w a b c d text rest r first t h.0 h.1 h.2 (subst (λ x. c < 2 ^ x) e k.0.0) k.0.1 (subst (λ x. rest ≡ marks_of x c d ++ r) e k.1) in
    ((s.0, s.1), s.2)

abbrev marks : ℕ → Cube → List ℕ
marks n c = marks_of n c.care c.want

pub marks_none_empty : (n : ℕ) (text : List ℕ) → (n ≡ 0 → ⊥) → text ≡ [] → BeginsWithNone (IsCube n) (λ c. marks_of n c.care c.want) text
marks_none_empty zero text n t = absurd (n refl)
marks_none_empty (suc w) text n t = λ v r h e. nil_cons _ _ (sym t ∙ e)

pub marks_none_char : (n first : ℕ) (text rest : List ℕ) → (n ≡ 0 → ⊥) → text ≡ first ∷ rest → IsNoMark first → BeginsWithNone (IsCube n) (λ c. marks_of n c.care c.want) text
marks_none_char zero first text rest n t absent = absurd (n refl)
marks_none_char (suc w) first text rest n t absent = λ v r h e.
    absent (v.care % 2) (v.want % 2) (odd_below v.care) (part_low v.care v.want h.1) (same_head _ _ _ _ (sym t ∙ e))

pub marks_none_rest : (n first : ℕ) (text rest : List ℕ) → (n ≡ 0 → ⊥) → text ≡ first ∷ rest → BeginsWithNone (IsCube (n - 1)) (λ c. marks_of (n - 1) c.care c.want) rest → BeginsWithNone (IsCube n) (λ c. marks_of n c.care c.want) text
marks_none_rest zero first text rest n t absent = absurd (n refl)
marks_none_rest (suc w) first text rest n t absent = λ v r h e.
    let same = less_one w in
    absent (record { care = v.care / 2; want = v.want / 2 }) r (subst (λ x. v.care / 2 < 2 ^ x) (sym same) (half_below v.care w h.0), part_high v.care v.want h.1)
    (subst (λ x. rest ≡ marks_of x (v.care / 2) (v.want / 2) ++ r) (sym same) (same_tail _ _ _ _ (sym t ∙ e)))

pub pattern_is : (n : ℕ) (c : Cube) → (n ≡ 0 → ⊥) → pattern n c ≡ marks_of n c.care c.want
pattern_is zero c n = absurd (n refl)
pattern_is (suc w) c n = refl

-- one more character written
pub chars_left : (t : List ℕ) (w i v : ℕ) → i < w → (t ++ (48 + v % 2) ∷ []) ++ chars_of (w - (i + 1)) (v / 2) ≡ t ++ chars_of (w - i) v
chars_left t w i v h = go (w - i) (omega arith)
  where
    go : (k : ℕ) → k ≡ suc (w - (i + 1)) → (t ++ (48 + v % 2) ∷ []) ++ chars_of (w - (i + 1)) (v / 2) ≡ t ++ chars_of k v
    go k e = append_assoc t ((48 + v % 2) ∷ []) (chars_of (w - (i + 1)) (v / 2)) ∙ ap (λ j. t ++ chars_of j v) (sym e)

pub marks_left : (t : List ℕ) (w i c d : ℕ) → i < w → (t ++ mark (c % 2) (d % 2) ∷ []) ++ marks_of (w - (i + 1)) (c / 2) (d / 2) ≡ t ++ marks_of (w - i) c d
marks_left t w i c d h = go (w - i) (omega arith)
  where
    go : (k : ℕ) → k ≡ suc (w - (i + 1)) → (t ++ mark (c % 2) (d % 2) ∷ []) ++ marks_of (w - (i + 1)) (c / 2) (d / 2) ≡ t ++ marks_of k c d
    go k e = append_assoc t (mark (c % 2) (d % 2) ∷ []) (marks_of (w - (i + 1)) (c / 2) (d / 2)) ∙ ap (λ j. t ++ marks_of j c d) (sym e)

-- a valuation of some signals is read as its characters
pub valuation_read : (n : ℕ) (text : List ℕ) (o : Option (ℕ × Bor (List ℕ))) → (n ≡ 0 → ⊥) → MatchOption o (BeginsWithNone (λ v. v < 2 ^ n) (chars_of n) text) (λ p. (p.0 < 2 ^ n) × (text ≡ chars_of n p.0 ++ p.1.now)) → MatchOption o (BeginsWithNone (λ v. v < 2 ^ n) (valuation n) text) (λ p. (p.0 < 2 ^ n) × (text ≡ valuation n p.0 ++ p.1.now))
valuation_read zero text o n h = absurd (n refl)
valuation_read (suc w) text None n h = h
valuation_read (suc w) text (Some p) n h = h
