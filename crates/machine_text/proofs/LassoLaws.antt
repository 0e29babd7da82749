-- The lines of lassos, and what follows after some of them.
use Rattle.std.proofs.Common.{false, true, nat_eq, Result, Ok, Err, IsErrAnd, IfOk, IfErr, ◌≡◌, ◌≢◌, ℕ, zero, suc, ◌+◌, ◌/◌, ◌%◌, ◌<◌, ◌^◌, ◌⊎◌, List, [], ◌∷◌, ◌++◌, append_assoc, append-nil, length, codes, refl, sym, ap, ◌∙◌, ap₂, subst, inl, inr, pow_pos, arith}
use Rattle.std.specs.List.{All}
use Rattle.std.proofs.lemmas.List.{length-append, length_push, nil_from_length}
use Rattle.std.proofs.lemmas.Bool.{false≢true, eqb-true}
use Rattle.std.proofs.lemmas.List.Elements.{All-nil, All-cons, All-head, All-tail, All-append, All-push, All-from_recursion}
use Rattle.word_core.specs.declared.cubes.Letter.{Letter}
use Rattle.word_core.specs.Lasso.{LassoData}
use Rattle.machine_text.specs.Fields.{chars_of, valuation}
use Rattle.machine_text.specs.Lines.{joined, IsWhole, NextIsNone, IsBadLine}
use Rattle.machine_text.specs.declared.errors.LassoError.{LassoError}
use Rattle.machine_text.specs.declared.errors.LassoError.TheVariants.{Line, Memory}
use Rattle.machine_text.specs.Lassos.{letter_lines, lasso_lines, lasso_text, AreLetters, IsLasso, IsLassoLines, HasLassoFault, IsLetterLine, EndsLetters, HasStemFault, HasCycleFault}
use Rattle.machine_text.proofs.FieldLaws.{same_head, same_tail, nil_cons, half_below}
use Rattle.machine_text.proofs.LineLaws.{joined_append}
use Rattle.machine_text.proofs.LineSplits.{joined_same, bad_is_none, none_without_feed, none_of}

abbrev not_feed : ℕ → Type 0
not_feed b = b ≢ 10

bit_char : (v : ℕ) → 48 + v % 2 ≢ 10
bit_char v e = omega arith

-- valuations are written without a line feed
chars_whole : (w v : ℕ) → IsWhole (chars_of w v)
chars_whole zero v = All-nil not_feed
chars_whole (suc w) v = All-cons not_feed (48 + v % 2) (chars_of w (v / 2)) (bit_char v) (chars_whole w (v / 2))

dot_whole : IsWhole (46 ∷ [])
dot_whole = All-cons not_feed 46 [] (λ e. omega arith) (All-nil not_feed)

pub valuation_whole : (w v : ℕ) → IsWhole (valuation w v)
valuation_whole zero v = dot_whole
valuation_whole (suc w) v = chars_whole (suc w) v

-- valuations are told apart by their characters
bits_same : (a b : ℕ) → 48 + a % 2 ≡ 48 + b % 2 → a / 2 ≡ b / 2 → a ≡ b
bits_same a b e f = omega arith

pub chars_apart : (w a b : ℕ) (x y : List ℕ) → a < 2 ^ w → b < 2 ^ w → chars_of w a ++ x ≡ chars_of w b ++ y → (a ≡ b) × (x ≡ y)
chars_apart zero a b x y h k e = (omega arith, e)
chars_apart (suc w) a b x y h k e =
    let r = chars_apart w (a / 2) (b / 2) x y (half_below a w h) (half_below b w k) (same_tail (48 + a % 2) (48 + b % 2) (chars_of w (a / 2) ++ x) (chars_of w (b / 2) ++ y) e) in
    (bits_same a b (same_head (48 + a % 2) (48 + b % 2) (chars_of w (a / 2) ++ x) (chars_of w (b / 2) ++ y) e) r.0, r.1)

pub valuation_apart : (w a b : ℕ) (x y : List ℕ) → a < 2 ^ w → b < 2 ^ w → valuation w a ++ x ≡ valuation w b ++ y → (a ≡ b) × (x ≡ y)
valuation_apart zero a b x y h k e = (omega arith, same_tail 46 46 x y e)
valuation_apart (suc w) a b x y h k e = chars_apart (suc w) a b x y h k e

valuation_same : (w a b : ℕ) → a < 2 ^ w → b < 2 ^ w → valuation w a ≡ valuation w b → a ≡ b
valuation_same w a b h k e = (valuation_apart w a b [] [] h k (ap (λ t. t ++ []) e)).0

-- no valuation is the word that begins the cycle
not_cycle : (w v : ℕ) → codes "cycle" ≡ valuation w v → ⊥
not_cycle zero v e = let h : 99 ≡ 46 = same_head 99 46 (codes "ycle") [] e in omega (arith, h)
not_cycle (suc w) v e = let h : 99 ≡ 48 + v % 2 = same_head 99 (48 + v % 2) (codes "ycle") (chars_of w (v / 2)) e in omega (arith, h)

abbrev fits : ℕ → Letter → Type 0
fits n x = x.0 < 2 ^ n

cycle_whole : IsWhole (codes "cycle")
cycle_whole = All-from_recursion not_feed (codes "cycle") ((λ e. omega arith), ((λ e. omega arith), ((λ e. omega arith), ((λ e. omega arith), ((λ e. omega arith), tt)))))

stem_whole : IsWhole (codes "stem")
stem_whole = All-from_recursion not_feed (codes "stem") ((λ e. omega arith), ((λ e. omega arith), ((λ e. omega arith), ((λ e. omega arith), tt))))

letters_whole : (n : ℕ) (xs : List Letter) → All IsWhole (letter_lines n xs)
letters_whole n [] = All-nil IsWhole
letters_whole n (x ∷ xs) = All-cons IsWhole (valuation n x.0) (letter_lines n xs) (valuation_whole n x.0) (letters_whole n xs)

lasso_whole : (n : ℕ) (w : LassoData) → All IsWhole (lasso_lines n w)
lasso_whole n w =
    All-append IsWhole (codes "stem" ∷ letter_lines n w.stem) (codes "cycle" ∷ letter_lines n w.cycle)
    (All-cons IsWhole (codes "stem") (letter_lines n w.stem) stem_whole (letters_whole n w.stem))
    (All-cons IsWhole (codes "cycle") (letter_lines n w.cycle) cycle_whole (letters_whole n w.cycle))

pub lasso_lines_whole : (n : ℕ) (ls : List (List ℕ)) → IsLassoLines n ls → All IsWhole ls
lasso_lines_whole n ls t = subst (All IsWhole) (sym t.2) (lasso_whole n t.0)

letters_push : (n : ℕ) (xs : List Letter) (x : Letter) → letter_lines n (xs ++ x ∷ []) ≡ letter_lines n xs ++ valuation n x.0 ∷ []
letters_push n [] x = refl
letters_push n (y ∷ xs) x = ap (λ ls. valuation n y.0 ∷ ls) (letters_push n xs x)

abbrev letter : ℕ → Letter
letter b = record { 0 = b }

letters_eq : (x y : Letter) (xs ys : List Letter) → x.0 ≡ y.0 → xs ≡ ys → x ∷ xs ≡ y ∷ ys
letters_eq x y xs ys e f = ap (λ b. letter b ∷ xs) e ∙ ap (λ zs. y ∷ zs) f

-- letters are told apart by their lines
letters_same : (n : ℕ) (xs ys : List Letter) → AreLetters n xs → AreLetters n ys → letter_lines n xs ≡ letter_lines n ys → xs ≡ ys
letters_same n [] [] h k e = refl
letters_same n [] (y ∷ ys) h k e = absurd (nil_cons _ _ e)
letters_same n (x ∷ xs) [] h k e = absurd (nil_cons _ _ (sym e))
letters_same n (x ∷ xs) (y ∷ ys) h k e =
    let f : x.0 ≡ y.0 = valuation_same n x.0 y.0 (All-head (fits n) x xs h) (All-head (fits n) y ys k) (same_head _ _ _ _ e) in
    let r = letters_same n xs ys (All-tail (fits n) x xs h) (All-tail (fits n) y ys k) (same_tail _ _ _ _ e) in
    letters_eq x y xs ys f r

-- the stem ends at the first line `cycle`
stems_same : (n : ℕ) (xs ys : List Letter) (a b : List (List ℕ)) → AreLetters n xs → AreLetters n ys → letter_lines n xs ++ codes "cycle" ∷ a ≡ letter_lines n ys ++ codes "cycle" ∷ b → (xs ≡ ys) × (a ≡ b)
stems_same n [] [] a b h k e = (refl, same_tail _ _ _ _ e)
stems_same n [] (y ∷ ys) a b h k e = absurd (not_cycle n y.0 (same_head _ _ _ _ e))
stems_same n (x ∷ xs) [] a b h k e = absurd (not_cycle n x.0 (sym (same_head _ _ _ _ e)))
stems_same n (x ∷ xs) (y ∷ ys) a b h k e =
    let f : x.0 ≡ y.0 = valuation_same n x.0 y.0 (All-head (fits n) x xs h) (All-head (fits n) y ys k) (same_head _ _ _ _ e) in
    let r = stems_same n xs ys a b (All-tail (fits n) x xs h) (All-tail (fits n) y ys k) (same_tail _ _ _ _ e) in
    (letters_eq x y xs ys f r.0, r.1)

abbrev lasso : List Letter → List Letter → LassoData
lasso xs ys = record { stem = xs; cycle = ys }

lasso_eq : (v w : LassoData) → v.stem ≡ w.stem → v.cycle ≡ w.cycle → v ≡ w
lasso_eq v w e f = ap₂ lasso e f

-- a text is that of one lasso at most
pub lassos_same : (n : ℕ) (text : List ℕ) (v w : LassoData) → IsLasso n v → IsLasso n w → text ≡ lasso_text n v → text ≡ lasso_text n w → v ≡ w
lassos_same n text v w h k e f =
    let l = joined_same (lasso_lines n v) (lasso_lines n w) (lasso_whole n v) (lasso_whole n w) (sym e ∙ f) in
    let s = stems_same n v.stem w.stem (letter_lines n v.cycle) (letter_lines n w.cycle) h.0 k.0 (same_tail _ _ _ _ l) in
    lasso_eq v w s.0 (letters_same n v.cycle w.cycle h.1 k.1 s.1)

-- what stands behind letters of a stem: the cycle or a further letter
behind_stem : (n : ℕ) (xs ys : List Letter) (a : List (List ℕ)) (line : List ℕ) (more : List (List ℕ)) → AreLetters n ys → letter_lines n ys ++ codes "cycle" ∷ a ≡ letter_lines n xs ++ line ∷ more → IsLetterLine n line ⊎ (line ≡ codes "cycle")
behind_stem n [] [] a line more k e = inr (sym (same_head _ _ _ _ e))
behind_stem n [] (y ∷ ys) a line more k e = inl (y.0, All-head (fits n) y ys k, sym (same_head _ _ _ _ e))
behind_stem n (x ∷ xs) [] a line more k e = absurd (not_cycle n x.0 (same_head _ _ _ _ e))
behind_stem n (x ∷ xs) (y ∷ ys) a line more k e =
    behind_stem n xs ys a line more (All-tail (fits n) y ys k) (same_tail _ _ _ _ e)

-- letters alone are no stem with its cycle
not_letters : (n : ℕ) (xs ys : List Letter) (a : List (List ℕ)) → letter_lines n ys ++ codes "cycle" ∷ a ≡ letter_lines n xs → ⊥
not_letters n [] [] a e = nil_cons _ _ (sym e)
not_letters n [] (y ∷ ys) a e = nil_cons _ _ (sym e)
not_letters n (x ∷ xs) [] a e = not_cycle n x.0 (same_head _ _ _ _ e)
not_letters n (x ∷ xs) (y ∷ ys) a e = not_letters n xs ys a (same_tail _ _ _ _ e)

behind_letters : (n : ℕ) (xs ys : List Letter) (line : List ℕ) (more : List (List ℕ)) → AreLetters n ys → letter_lines n ys ≡ letter_lines n xs ++ line ∷ more → IsLetterLine n line
behind_letters n [] [] line more k e = absurd (nil_cons _ _ e)
behind_letters n [] (y ∷ ys) line more k e = (y.0, All-head (fits n) y ys k, sym (same_head _ _ _ _ e))
behind_letters n (x ∷ xs) [] line more k e = absurd (nil_cons _ _ e)
behind_letters n (x ∷ xs) (y ∷ ys) line more k e =
    behind_letters n xs ys line more (All-tail (fits n) y ys k) (same_tail _ _ _ _ e)

abbrev zero_letter : Letter
zero_letter = letter 0

one_fits : (n : ℕ) → AreLetters n (zero_letter ∷ [])
one_fits n = All-cons (fits n) zero_letter [] (pow_pos n) (All-nil (fits n))

letters_length : (n : ℕ) (xs : List Letter) → length (letter_lines n xs) ≡ length xs
letters_length n [] = refl
letters_length n (x ∷ xs) = ap suc (letters_length n xs)

-- no line `stem` comes first
pub first_bad : (n : ℕ) (text : List ℕ) → NextIsNone (λ line. line ≡ codes "stem") text → IsBadLine (IsLassoLines n) text 1
first_bad n text none = record {
  before = [];
  rest = text;
  place = refl;
  parts = refl;
  begins = (lasso_lines n (lasso [] (zero_letter ∷ [])), (lasso [] (zero_letter ∷ []), (All-nil (fits n), one_fits n, omega arith), refl));
  open_end = λ e t. nil_cons _ _ t.2;
  stops = λ line rest w e b. none line rest w e (same_head _ _ _ _ b.1.2);
}

-- neither a letter nor the cycle comes next in the stem
pub stem_bad : (n m : ℕ) (text rest left : List ℕ) (xs : List Letter) → text ≡ codes "stem" ++ 10 ∷ rest → EndsLetters n 1 rest m xs left → NextIsNone (λ line. line ≡ codes "cycle") left → IsBadLine (IsLassoLines n) text m
stem_bad n m text rest left xs t ends none =
    let len = letters_length n xs in
    record {
      before = codes "stem" ∷ letter_lines n xs;
      rest = left;
      place = ends.place ∙ omega arith;
      parts = t ∙ ap (λ r. codes "stem" ++ 10 ∷ r) ends.parts;
      begins = (codes "cycle" ∷ letter_lines n (zero_letter ∷ []), (lasso xs (zero_letter ∷ []), (ends.ranged, one_fits n, omega arith), refl));
      open_end = λ e b. not_letters n xs b.0.stem (letter_lines n b.0.cycle) (sym (same_tail _ _ _ _ b.2));
      stops = λ line r w e b. stops line r w e b.0 b.1.0 b.1.1.0 (sym (same_tail _ _ _ _ b.1.2));
    }
  where
    stops : (line r : List ℕ) → IsWhole line → left ≡ line ++ 10 ∷ r → (more : List (List ℕ)) (v : LassoData) → AreLetters n v.stem → letter_lines n v.stem ++ codes "cycle" ∷ letter_lines n v.cycle ≡ (letter_lines n xs ++ line ∷ []) ++ more → ⊥
    stops line r w e more v h f =
        elim (behind_stem n xs v.stem (letter_lines n v.cycle) line more h (f ∙ append_assoc (letter_lines n xs) (line ∷ []) more)) [
          | inl a ↦ ends.no_letter line r w e a
          | inr b ↦ none line r w e b
        ]

-- the lines up to letters of the cycle
abbrev up_to : ℕ → List Letter → List Letter → List (List ℕ)
up_to n xs ys = lasso_lines n (lasso xs ys)

up_to_joined : (n : ℕ) (text rest rest' left : List ℕ) (xs ys : List Letter) → text ≡ codes "stem" ++ 10 ∷ rest → rest ≡ joined (letter_lines n xs) ++ (codes "cycle" ++ 10 ∷ rest') → rest' ≡ joined (letter_lines n ys) ++ left → text ≡ joined (up_to n xs ys) ++ left
up_to_joined n text rest rest' left xs ys t s r =
    t
    ∙ ap (λ x. codes "stem" ++ 10 ∷ x) (s ∙ ap (λ x. joined (letter_lines n xs) ++ (codes "cycle" ++ 10 ∷ x)) r
    ∙ ap (λ x. joined (letter_lines n xs) ++ x) (sym (append_assoc (codes "cycle") (10 ∷ joined (letter_lines n ys)) left))
    ∙ sym (append_assoc (joined (letter_lines n xs)) (codes "cycle" ++ 10 ∷ joined (letter_lines n ys)) left)
    ∙ ap (λ x. x ++ left) (sym (joined_append (letter_lines n xs) (codes "cycle" ∷ letter_lines n ys))))

cycle_push : (n : ℕ) (xs ys : List Letter) → up_to n xs ys ++ letter_lines n (zero_letter ∷ []) ≡ up_to n xs (ys ++ zero_letter ∷ [])
cycle_push n xs ys =
    append_assoc (codes "stem" ∷ letter_lines n xs) (codes "cycle" ∷ letter_lines n ys) (letter_lines n (zero_letter ∷ []))
    ∙ ap (λ a. (codes "stem" ∷ letter_lines n xs) ++ codes "cycle" ∷ a) (sym (letters_push n ys zero_letter))

up_to_length : (n : ℕ) (xs ys : List Letter) → length (up_to n xs ys) ≡ length xs + length ys + 2
up_to_length n xs ys =
    let a = length-append (letter_lines n xs) (codes "cycle" ∷ letter_lines n ys) in
    let b = letters_length n xs in
    let c = letters_length n ys in
    omega arith

not_empty : (n : ℕ) (ys zs : List Letter) → ys ≡ [] → 0 < length zs → letter_lines n zs ≡ letter_lines n ys → ⊥
not_empty n ys [] y h e = omega arith
not_empty n ys (z ∷ zs) y h e = nil_cons _ _ (sym (e ∙ ap (letter_lines n) y))

pushed_some : (ys : List Letter) (y : Letter) → 0 < length (ys ++ y ∷ [])
pushed_some ys y = let l = length_push ys y in omega arith

-- no letter comes next in the cycle
pub cycle_bad : (n m taken : ℕ) (text rest rest' left : List ℕ) (xs ys : List Letter) → text ≡ codes "stem" ++ 10 ∷ rest → AreLetters n xs → rest ≡ joined (letter_lines n xs) ++ (codes "cycle" ++ 10 ∷ rest') → taken ≡ 1 + length xs + 1 → EndsLetters n taken rest' m ys left → (left ≡ [] → ys ≡ []) → IsBadLine (IsLassoLines n) text m
cycle_bad n m taken text rest rest' left xs ys t h s k ends some =
    let len = up_to_length n xs ys in
    record {
      before = up_to n xs ys;
      rest = left;
      place = ends.place ∙ omega arith;
      parts = up_to_joined n text rest rest' left xs ys t s ends.parts;
      begins = (letter_lines n (zero_letter ∷ []), (lasso xs (ys ++ zero_letter ∷ []), (h, All-append (fits n) ys (zero_letter ∷ []) ends.ranged (one_fits n), pushed_some ys zero_letter), cycle_push n xs ys));
      open_end = λ e b. not_empty n ys b.0.cycle (some e) b.1.2 ((stems_same n b.0.stem xs (letter_lines n b.0.cycle) (letter_lines n ys) b.1.0 h (sym (same_tail _ _ _ _ b.2))).1);
      stops = λ line r w e b. ends.no_letter line r w e (stops line b.0 b.1.0 b.1.1.0 b.1.1.1 b.1.2);
    }
  where
    stops : (line : List ℕ) (more : List (List ℕ)) (v : LassoData) → AreLetters n v.stem → AreLetters n v.cycle → (up_to n xs ys ++ line ∷ []) ++ more ≡ lasso_lines n v → IsLetterLine n line
    stops line more v a b e =
        let f : letter_lines n v.stem ++ codes "cycle" ∷ letter_lines n v.cycle ≡ letter_lines n xs ++ codes "cycle" ∷ (letter_lines n ys ++ line ∷ more) =
        sym (same_tail _ _ _ _ e)
        ∙ append_assoc (letter_lines n xs ++ codes "cycle" ∷ letter_lines n ys) (line ∷ []) more
        ∙ append_assoc (letter_lines n xs) (codes "cycle" ∷ letter_lines n ys) (line ∷ more)
        in
        behind_letters n ys v.cycle line more b ((stems_same n v.stem xs (letter_lines n v.cycle) (letter_lines n ys ++ line ∷ more) a h f).1)

-- the text of letters in both parts
pub lasso_read : (n : ℕ) (text rest rest' : List ℕ) (xs ys : List Letter) → text ≡ codes "stem" ++ 10 ∷ rest → rest ≡ joined (letter_lines n xs) ++ (codes "cycle" ++ 10 ∷ rest') → rest' ≡ joined (letter_lines n ys) → text ≡ lasso_text n (record { stem = xs; cycle = ys })
lasso_read n text rest rest' xs ys t s r =
    up_to_joined n text rest rest' [] xs ys t s (r ∙ sym (append-nil (joined (letter_lines n ys)))) ∙ append-nil (joined (up_to n xs ys))

-- the text of a lasso has no fault
pub fault_back : (n : ℕ) (text : List ℕ) (e : LassoError) → HasLassoFault n text e → (w : LassoData) → IsLasso n w → text ≡ lasso_text n w → e ≡ Memory
fault_back n text (Line m) f w h e = absurd (bad_is_none (IsLassoLines n) text m (lasso_lines_whole n) f (lasso_lines n w) (w, h, refl) e)
fault_back n text Memory f w h e = refl

-- the letters up to one more
pub letters_more : (n : ℕ) (text line rest now : List ℕ) (xs : List Letter) (x : Letter) → text ≡ joined (letter_lines n xs) ++ now → now ≡ line ++ 10 ∷ rest → line ≡ valuation n x.0 → text ≡ joined (letter_lines n (xs ++ x ∷ [])) ++ rest
letters_more n text line rest now xs x t f l =
    t
    ∙ ap (λ r. joined (letter_lines n xs) ++ r) (f ∙ ap (λ v. v ++ 10 ∷ rest) l ∙ sym (append_assoc (valuation n x.0) (10 ∷ []) rest))
    ∙ sym (append_assoc (joined (letter_lines n xs)) (valuation n x.0 ++ 10 ∷ []) rest)
    ∙ ap (λ a. a ++ rest) (sym (joined_append (letter_lines n xs) (valuation n x.0 ∷ [])) ∙ ap joined (sym (letters_push n xs x)))

-- after letters of the stem no line feed is left
pub stem_unfed : (n taken now m : ℕ) (text rest : List ℕ) (xs : List Letter) → AreLetters n xs → text ≡ joined (letter_lines n xs) ++ rest → now ≡ taken + length xs → m ≡ now + 1 → IsWhole rest → HasStemFault n taken text (Line m)
stem_unfed n taken now m text rest xs h t a b w = (
  xs,
  rest,
  record { ranged = h; parts = t; place = omega arith; no_letter = none_without_feed (IsLetterLine n) rest w },
  none_without_feed (λ line. line ≡ codes "cycle") rest w,
)

-- after letters of the stem stands another line than a letter or `cycle`
pub stem_other : (n taken now m : ℕ) (text line rest rest' : List ℕ) (xs : List Letter) → AreLetters n xs → text ≡ joined (letter_lines n xs) ++ rest → now ≡ taken + length xs → m ≡ now + 1 → IsWhole line → rest ≡ line ++ 10 ∷ rest' → (IsLetterLine n line → ⊥) → (line ≡ codes "cycle" → ⊥) → HasStemFault n taken text (Line m)
stem_other n taken now m text line rest rest' xs h t a b w e f g = (
  xs,
  rest,
  record { ranged = h; parts = t; place = omega arith; no_letter = none_of (IsLetterLine n) rest line rest' w e f },
  none_of (λ line. line ≡ codes "cycle") rest line rest' w e g,
)

pub cycle_unfed : (n taken now m : ℕ) (text rest : List ℕ) (xs : List Letter) → AreLetters n xs → text ≡ joined (letter_lines n xs) ++ rest → now ≡ taken + length xs → m ≡ now + 1 → (rest ≡ [] → xs ≡ []) → IsWhole rest → HasCycleFault n taken text (Line m)
cycle_unfed n taken now m text rest xs h t a b some w = (
  xs,
  rest,
  record { ranged = h; parts = t; place = omega arith; no_letter = none_without_feed (IsLetterLine n) rest w },
  some,
)

pub cycle_other : (n taken now m : ℕ) (text line rest rest' : List ℕ) (xs : List Letter) → AreLetters n xs → text ≡ joined (letter_lines n xs) ++ rest → now ≡ taken + length xs → m ≡ now + 1 → (rest ≡ [] → xs ≡ []) → IsWhole line → rest ≡ line ++ 10 ∷ rest' → (IsLetterLine n line → ⊥) → HasCycleFault n taken text (Line m)
cycle_other n taken now m text line rest rest' xs h t a b some w e f = (
  xs,
  rest,
  record { ranged = h; parts = t; place = omega arith; no_letter = none_of (IsLetterLine n) rest line rest' w e f },
  some,
)

-- the text up to the line `cycle`
pub stem_closed : (n : ℕ) (text line now rest : List ℕ) (xs : List Letter) → text ≡ joined (letter_lines n xs) ++ now → now ≡ line ++ 10 ∷ rest → line ≡ codes "cycle" → text ≡ joined (letter_lines n xs) ++ (codes "cycle" ++ 10 ∷ rest)
stem_closed n text line now rest xs t e f = t ∙ ap (λ r. joined (letter_lines n xs) ++ r) (e ∙ ap (λ l. l ++ 10 ∷ rest) f)

-- no other text is a letter than its valuation alone
pub no_letter_behind : (n bits : ℕ) (line rest : List ℕ) → bits < 2 ^ n → line ≡ valuation n bits ++ rest → false ≡ nat_eq (length rest) 0 → IsLetterLine n line → ⊥
no_letter_behind n bits line rest h e f l =
    let s = valuation_apart n bits l.0 rest [] h l.1 (sym e ∙ l.2 ∙ sym (append-nil (valuation n l.0))) in
    false≢true (f ∙ ap (λ r. nat_eq (length r) 0) s.1)

-- what stops the reading of a part is the fault of the text
pub first_fault : (n taken m : ℕ) (text rest : List ℕ) → rest ≡ text → taken ≡ 0 → (m ≡ taken + 1) × NextIsNone (λ line. line ≡ codes "stem") rest → HasLassoFault n text (Line m)
first_fault n taken m text rest e t h =
    let one : 1 ≡ m = omega arith in
    subst (λ k. IsBadLine (IsLassoLines n) text k) one (first_bad n text (subst (NextIsNone (λ line. line ≡ codes "stem")) e h.1))

pub stem_fault : (n taken : ℕ) (text rest : List ℕ) (e : LassoError) → text ≡ codes "stem" ++ 10 ∷ rest → taken ≡ 1 → HasStemFault n taken rest e → HasLassoFault n text e
stem_fault n taken text rest (Line m) t k h = stem_bad n m text rest h.1 h.0 t (subst (λ j. EndsLetters n j rest m h.0 h.1) k h.2) h.3
stem_fault n taken text rest Memory t k h = tt

pub cycle_fault : (n taken : ℕ) (text rest rest' : List ℕ) (xs : List Letter) (e : LassoError) → text ≡ codes "stem" ++ 10 ∷ rest → AreLetters n xs → rest ≡ joined (letter_lines n xs) ++ (codes "cycle" ++ 10 ∷ rest') → taken ≡ 1 + length xs + 1 → HasCycleFault n taken rest' e → HasLassoFault n text e
cycle_fault n taken text rest rest' xs (Line m) t h s k f = cycle_bad n m taken text rest rest' f.1 xs f.0 t h s k f.2 f.3
cycle_fault n taken text rest rest' xs Memory t h s k f = tt

pub back_on_fault : (n : ℕ) (text : List ℕ) (r : Result LassoData LassoError) (x : LassoError) → IsErrAnd r (λ e. e ≡ x) → HasLassoFault n text x → (w : LassoData) → IsLasso n w → text ≡ lasso_text n w → IfOk r (λ v. v ≡ w) × IfErr r (λ e. e ≡ Memory)
back_on_fault n text (Ok v) x h f w k e = absurd h
back_on_fault n text (Err y) x h f w k e = (tt, h ∙ fault_back n text x f w k e)

pub lasso_made : (n : ℕ) (text : List ℕ) (w : LassoData) (xs ys : List Letter) → w ≡ record { stem = xs; cycle = ys } → AreLetters n xs → AreLetters n ys → 0 < length ys → text ≡ lasso_text n (record { stem = xs; cycle = ys }) → IsLasso n w × (text ≡ lasso_text n w)
lasso_made n text w xs ys m h k s t = subst (λ v. IsLasso n v × (text ≡ lasso_text n v)) (sym m) ((h, k, s), t)

pub back_on_value : (n : ℕ) (text : List ℕ) (v : LassoData) → IsLasso n v × (text ≡ lasso_text n v) → (w : LassoData) → IsLasso n w → text ≡ lasso_text n w → v ≡ w
back_on_value n text v h w k e = lassos_same n text v w h.0 k h.1 e

-- one more letter
pub one_more : (taken now now' : ℕ) (xs ys : List Letter) (x : Letter) → ys ≡ xs ++ x ∷ [] → now ≡ taken + length xs → now' ≡ now + 1 → now' ≡ taken + length ys
one_more taken now now' xs ys x e a b = let l = length_push xs x in let m : length ys ≡ length (xs ++ x ∷ []) = ap length e in omega arith

pub read_more : (n : ℕ) (text line rest now : List ℕ) (xs ys : List Letter) (x : Letter) → ys ≡ xs ++ x ∷ [] → text ≡ joined (letter_lines n xs) ++ now → now ≡ line ++ 10 ∷ rest → line ≡ valuation n x.0 → text ≡ joined (letter_lines n ys) ++ rest
read_more n text line rest now xs ys x e t f l = letters_more n text line rest now xs x t f l ∙ ap (λ zs. joined (letter_lines n zs) ++ rest) (sym e)

pub fits_more : (n : ℕ) (xs ys : List Letter) (x : Letter) → ys ≡ xs ++ x ∷ [] → AreLetters n xs → x.0 < 2 ^ n → AreLetters n ys
fits_more n xs ys x e h k = subst (AreLetters n) (sym e) (All-push (fits n) xs x h k)

pub read_last : (n : ℕ) (text rest : List ℕ) (xs : List Letter) → text ≡ joined (letter_lines n xs) ++ rest → true ≡ nat_eq (length rest) 0 → text ≡ joined (letter_lines n xs)
read_last n text rest xs t e =
    t ∙ ap (λ r. joined (letter_lines n xs) ++ r) (nil_from_length rest (eqb-true (length rest) 0 (sym e))) ∙ append-nil (joined (letter_lines n xs))

pub not_last : (rest : List ℕ) (ys : List Letter) → false ≡ nat_eq (length rest) 0 → rest ≡ [] → ys ≡ []
not_last rest ys e f = absurd (false≢true (e ∙ ap (λ r. nat_eq (length r) 0) f))
