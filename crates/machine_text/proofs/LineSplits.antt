-- Texts that are taken apart into lines, in one way only.
use Rattle.std.proofs.Common.{Bool, true, false, eqb, Result, Ok, Err, IsErrAnd, IfErr, ◌≡◌, ◌≢◌, ℕ, List, [], ◌∷◌, ◌++◌, append_assoc, append-nil, refl, sym, ap, ◌∙◌, subst}
use Rattle.std.specs.List.{All}
use Rattle.std.proofs.lemmas.List.Elements.{All-nil, All-cons, All-head, All-tail}
use Rattle.std.specs.Cmp.Lexicographic.{pointwise}
use Rattle.std.proofs.lemmas.Bool.{both_ways}
use Rattle.std.proofs.lemmas.Bool.Decides.{Decides-eqb}
use Rattle.std.proofs.lemmas.Slice.Eq.{slice_eq-Decides}
use Rattle.machine_text.specs.Lines.{joined, IsWhole, NextIsNone, IsBadLine}
use Rattle.machine_text.proofs.FieldLaws.{same_head, same_tail, nil_cons}

abbrev not_feed : ℕ → Type 0
not_feed b = b ≢ 10

-- a line before its line feed is determined by the text
pub split_feed : (a b x y : List ℕ) → IsWhole a → IsWhole b → a ++ 10 ∷ x ≡ b ++ 10 ∷ y → (a ≡ b) × (x ≡ y)
split_feed [] [] x y v w e = (refl, same_tail 10 10 x y e)
split_feed [] (d ∷ b) x y v w e = absurd (All-head not_feed d b w (sym (same_head 10 d x (b ++ 10 ∷ y) e)))
split_feed (c ∷ a) [] x y v w e = absurd (All-head not_feed c a v (same_head c 10 (a ++ 10 ∷ x) y e))
split_feed (c ∷ a) (d ∷ b) x y v w e =
    let h = same_head c d (a ++ 10 ∷ x) (b ++ 10 ∷ y) e in
    let r = split_feed a b x y (All-tail not_feed c a v) (All-tail not_feed d b w) (same_tail c d (a ++ 10 ∷ x) (b ++ 10 ∷ y) e) in
    (ap (λ z. z ∷ a) h ∙ ap (λ z. d ∷ z) r.0, r.1)

-- no line stands in a text without a line feed
pub no_feed : (text line rest : List ℕ) → IsWhole text → text ≡ line ++ 10 ∷ rest → ⊥
no_feed [] [] rest w e = nil_cons 10 rest e
no_feed [] (d ∷ line) rest w e = nil_cons d (line ++ 10 ∷ rest) e
no_feed (c ∷ text) [] rest w e = All-head not_feed c text w (same_head c 10 text rest e)
no_feed (c ∷ text) (d ∷ line) rest w e =
    no_feed text line rest (All-tail not_feed c text w) (same_tail c d text (line ++ 10 ∷ rest) e)

pub none_without_feed : (P : List ℕ → Type 0) (text : List ℕ) → IsWhole text → NextIsNone P text
none_without_feed P text w = λ line rest v e p. no_feed text line rest w e

pub none_of : (P : List ℕ → Type 0) (text line rest : List ℕ) → IsWhole line → text ≡ line ++ 10 ∷ rest → (P line → ⊥) → NextIsNone P text
none_of P text line rest w e n = λ line' rest' w' e' p. n (subst P (sym ((split_feed line line' rest rest' w w' (sym e ∙ e')).0)) p)

-- whole lines that begin a text begin the lines of that text
pub joined_begins : (ls ms : List (List ℕ)) (rest : List ℕ) → All IsWhole ls → All IsWhole ms → joined ls ++ rest ≡ joined ms → (more : List (List ℕ)) × (ms ≡ ls ++ more) × (rest ≡ joined more)
joined_begins [] ms rest v w e = (ms, refl, e)
joined_begins (l ∷ ls) [] rest v w e = absurd (go l e)
  where
    go : (l : List ℕ) → (l ++ 10 ∷ joined ls) ++ rest ≡ [] → ⊥
    go [] e = nil_cons _ _ (sym e)
    go (c ∷ cs) e = nil_cons _ _ (sym e)
joined_begins (l ∷ ls) (m ∷ ms) rest v w e =
    let f : l ++ 10 ∷ (joined ls ++ rest) ≡ m ++ 10 ∷ joined ms = sym (append_assoc l (10 ∷ joined ls) rest) ∙ e in
    let s = split_feed l m (joined ls ++ rest) (joined ms) (All-head IsWhole l ls v) (All-head IsWhole m ms w) f in
    let r = joined_begins ls ms rest (All-tail IsWhole l ls v) (All-tail IsWhole m ms w) s.1 in
    (r.0, ap (λ x. x ∷ ms) (sym s.0) ∙ ap (λ xs. l ∷ xs) r.1, r.2)

joined_nil : (ls : List (List ℕ)) → [] ≡ joined ls → ls ≡ []
joined_nil [] e = refl
joined_nil ([] ∷ ls) e = absurd (nil_cons _ _ e)
joined_nil ((c ∷ cs) ∷ ls) e = absurd (nil_cons _ _ e)

-- the lines of a text are determined by it
pub joined_same : (ls ms : List (List ℕ)) → All IsWhole ls → All IsWhole ms → joined ls ≡ joined ms → ls ≡ ms
joined_same ls ms v w e =
    let r = joined_begins ls ms [] v w (append-nil (joined ls) ∙ e) in
    sym (r.1 ∙ ap (λ xs. ls ++ xs) (joined_nil r.0 r.2) ∙ append-nil ls)

whole_left : (xs ys : List (List ℕ)) → All IsWhole (xs ++ ys) → All IsWhole xs
whole_left [] ys w = All-nil IsWhole
whole_left (x ∷ xs) ys w = All-cons IsWhole x xs (All-head IsWhole x (xs ++ ys) w) (whole_left xs ys (All-tail IsWhole x (xs ++ ys) w))

whole_next : (xs : List (List ℕ)) (y : List ℕ) (ys : List (List ℕ)) → All IsWhole (xs ++ y ∷ ys) → IsWhole y
whole_next [] y ys w = All-head IsWhole y ys w
whole_next (x ∷ xs) y ys w = whole_next xs y ys (All-tail IsWhole x (xs ++ y ∷ ys) w)

-- a text with a bad line is none of the grammar
pub bad_is_none : (IsText : List (List ℕ) → Type 0) (text : List ℕ) (n : ℕ) → ((ls : List (List ℕ)) → IsText ls → All IsWhole ls) → IsBadLine IsText text n → (ls : List (List ℕ)) → IsText ls → text ≡ joined ls → ⊥
bad_is_none IsText text n wholes bad ls t e =
    let before = bad.before in
    let w = wholes ls t in
    let v = whole_left before bad.begins.0 (wholes (before ++ bad.begins.0) bad.begins.1) in
    let r = joined_begins before ls bad.rest v w (sym bad.parts ∙ e) in
    go r.0 r.1 r.2
  where
    go : (more : List (List ℕ)) → ls ≡ bad.before ++ more → bad.rest ≡ joined more → ⊥
    go [] f g = bad.open_end g (subst IsText (f ∙ append-nil bad.before) t)
    go (m ∷ more) f g =
        bad.stops m (joined more) (whole_next bad.before m more (subst (All IsWhole) f (wholes ls t))) g
        (more, subst IsText (f ∙ sym (append_assoc bad.before (m ∷ []) more)) t)

-- what a comparison of two lines says
pub differs : (line given word : List ℕ) (b : Bool) → b ≡ pointwise eqb line given → given ≡ word → b ≡ false → line ≡ word → ⊥
differs line given word b e f h g = both_ways b h ((slice_eq-Decides Decides-eqb line given b e).1 (g ∙ sym f))

pub agrees : (line given word : List ℕ) (b : Bool) → b ≡ pointwise eqb line given → given ≡ word → b ≡ true → line ≡ word
agrees line given word b e f h = (slice_eq-Decides Decides-eqb line given b e).0 h ∙ f

-- what is said of an error that is passed on
pub passed_on : {T E : Type 0} (r : Result T E) (x : E) (P : E → Type 0) → IsErrAnd r (λ e. e ≡ x) → P x → IfErr r P
passed_on (Ok v) x P h p = tt
passed_on (Err e) x P h p = subst P (sym h) p
