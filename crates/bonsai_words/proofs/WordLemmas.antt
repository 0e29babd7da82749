-- What `clap` makes of one word, by its kind.
use Rattle.std.proofs.Common.{◌≡◌, ◌∙◌, ◌==◌, ℕ, Bool, true, false, cond, not, refl, sym, ap, subst, arith, List, [], ◌∷◌, Some, None}
use Rattle.std.specs.Prelude.{slice_get}
use Rattle.std.specs.Str.{bytes_eq, chars, IsUtf8, encode_utf8_all}
use Rattle.std.proofs.lemmas.Bool.{eqb-true}
use Rattle.std.proofs.lemmas.Str.{chars-encodes, IsUtf8-drop, IsCharBoundary-after_ascii}
use Rattle.clap.specs.Lexer.{long_of, short_of}
use Rattle.bonsai_words.specs.Reading.{Text, Kind, plain, dashes, named, unknown, kind_of, dashed_kind, named_kind, is_value}

-- the word `--`
abbrev pub two_dashes : Text
two_dashes = 45 ∷ 45 ∷ []

-- a text of which a first character is read
abbrev pub HasFirst : Text → Type 0
HasFirst flags = (x : ℕ) × (slice_get (chars flags) 0 ≡ Some x)

-- what the word is, by its kind
abbrev pub Seen : Text → Kind → Type 0
Seen word plain = (bytes_eq word two_dashes ≡ false) × (long_of word ≡ None) × (short_of word ≡ None)
Seen word dashes = word ≡ two_dashes
Seen word (named name value) = (bytes_eq word two_dashes ≡ false) × (long_of word ≡ Some (name, value))
Seen word unknown = (bytes_eq word two_dashes ≡ false) × (long_of word ≡ None)
    × ((flags : Text) × (short_of word ≡ Some flags) × HasFirst flags)

first_of_some : (cs : List ℕ) → (encode_utf8_all cs ≡ [] → ⊥) → (x : ℕ) × (slice_get cs 0 ≡ Some x)
first_of_some [] h = absurd (h refl)
first_of_some (c ∷ cs) h = (c, refl)

has_first : (x : ℕ) (xs : Text) → IsUtf8 (x ∷ xs) → HasFirst (x ∷ xs)
has_first x xs u =
    let e : chars (x ∷ xs) ≡ u.0 = ap chars (sym u.1.1) ∙ chars-encodes u.0 u.1.0 in
    let f = first_of_some u.0 (λ none. let bad : [] ≡ x ∷ xs = sym none ∙ u.1.1 in cc) in
    (f.0, ap (λ cs. slice_get cs 0) e ∙ f.1)

behind_dash : (x : ℕ) (xs : Text) → x ≡ 45 → IsUtf8 (x ∷ xs) → IsUtf8 xs
behind_dash x xs e u = IsUtf8-drop (x ∷ xs) 1 u (IsCharBoundary-after_ascii (x ∷ xs) 0 u (omega arith) (omega arith))

seen_named : (xs : Text) → Seen (45 ∷ 45 ∷ xs) (named_kind xs)
seen_named [] = refl
seen_named (z ∷ zs) = (refl, refl)

seen_dashed : (xs : Text) → IsUtf8 xs → Seen (45 ∷ xs) (dashed_kind xs)
seen_dashed [] u = (refl, refl, refl)
seen_dashed (y ∷ ys) u = go (y == 45) refl
  where
    go : (b : Bool) → (y == 45) ≡ b → Seen (45 ∷ y ∷ ys) (cond b (named_kind ys) unknown)
    go true e = subst (λ v. Seen (45 ∷ v ∷ ys) (named_kind ys)) (sym (eqb-true y 45 e)) (seen_named ys)
    go false e = (rw e refl, rw e refl, (y ∷ ys, rw e refl, has_first y ys u))

pub seen : (word : Text) → IsUtf8 word → Seen word (kind_of word)
seen [] u = (refl, refl, refl)
seen (x ∷ xs) u = go (x == 45) refl
  where
    go : (b : Bool) → (x == 45) ≡ b → Seen (x ∷ xs) (cond b (dashed_kind xs) plain)
    go true e =
        let is = eqb-true x 45 e in
        subst (λ v. Seen (v ∷ xs) (dashed_kind xs)) (sym is) (seen_dashed xs (behind_dash x xs is u))
    go false e = (rw e refl, rw e refl, rw e refl)

-- a word that doesn't begin with `-` is plain
pub value_plain : (word : Text) → is_value word ≡ true → kind_of word ≡ plain
value_plain [] e = refl
value_plain (x ∷ xs) e = go (x == 45) e
  where
    go : (b : Bool) → not b ≡ true → cond b (dashed_kind xs) plain ≡ plain
    go true h = absurd cc
    go false h = refl

-- and among plain words only `-` does
pub plain_dash : (word : Text) → kind_of word ≡ plain → is_value word ≡ false → word ≡ 45 ∷ []
plain_dash [] e f = absurd cc
plain_dash (x ∷ xs) e f = go (x == 45) refl xs e f
  where
    deep : (y : ℕ) (ys : Text) (b : Bool) → cond b (named_kind ys) unknown ≡ plain → ⊥
    deep y [] true h = absurd cc
    deep y (z ∷ zs) true h = absurd cc
    deep y ys false h = absurd cc

    go : (b : Bool) → (x == 45) ≡ b → (ys : Text) → cond b (dashed_kind ys) plain ≡ plain → not b ≡ false → x ∷ ys ≡ 45 ∷ []
    go true is [] h k = ap (λ v. v ∷ []) (eqb-true x 45 is)
    go true is (y ∷ ys) h k = absurd (deep y ys (y == 45) h)
    go false is ys h k = absurd cc
