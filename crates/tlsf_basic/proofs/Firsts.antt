-- The first lexeme that passes a test, found by a loop.
use Rattle.std.proofs.Common.{◌≡◌, ℕ, ◌<◌, ◌≤◌, ◌+◌, Bool, true, false, List, [], ◌∷◌, ◌++◌, length, take, map, get_or, slice_get, Some, sym, ap, ◌∙◌, subst, arith}
use Rattle.std.specs.Prelude.{◌&&◌, filter}
use Rattle.std.specs.List.{list_any}
use Rattle.std.specs.Str.{bytes_eq}
use Rattle.std.proofs.lemmas.List.{take_more, map-append}
use Rattle.std.proofs.lemmas.List.Elements.{filter-append}
use Rattle.std.proofs.lemmas.Option.{get_or_from_slice_get, slice_get-get_or, slice_get_within}
use Rattle.std.proofs.Math.Decide.{dec_lt}
use Rattle.tlsf_basic.specs.Marks.{is_declared}
use Rattle.tlsf_basic.specs.declared.symbols.Lexeme.{Lexeme}
use Rattle.tlsf_basic.specs.Signals.{IsFirst, IsNever, names_among, is_repeated, name_of}

module _ (test : List Lexeme → Lexeme → Bool) (w : List Lexeme) where
  abbrev pub NoneBelow : ℕ → Type 0
  NoneBelow i = (k : ℕ) (m : Lexeme) → k < i → slice_get w k ≡ Some m → test (take k w) m ≡ false

  pub none_more : (i : ℕ) (d : Lexeme) → NoneBelow i → test (take i w) (get_or w i d) ≡ false → NoneBelow (i + 1)
  none_more i d none here k m below e = go (dec_lt k i) where
    go : Dec (k < i) → test (take k w) m ≡ false
    go (yes before) = none k m before e
    go (no past) =
        let same : k ≡ i = omega (arith, below, past) in
        subst (λ j. test (take j w) m ≡ false) (sym same)
        (subst (λ x. test (take i w) x ≡ false) (get_or_from_slice_get w i m d (ap (slice_get w) (sym same) ∙ e)) here)

  pub first_here : (i : ℕ) (d : Lexeme) → i < length w → NoneBelow i → test (take i w) (get_or w i d) ≡ true → IsFirst test w (get_or w i d)
  first_here i d below none here = (i, slice_get-get_or w i d below, here, none)

  pub never : (i : ℕ) → length w ≤ i → NoneBelow i → IsNever test w
  never i past none k m e = none k m (let h : k < length w = slice_get_within w k m e in omega (arith, h, past)) e

-- the names among one lexeme more
pub names_more : (text : List ℕ) (w : List Lexeme) (i : ℕ) (d : Lexeme) (before : List (List ℕ)) → i < length w → before ≡ names_among text (take i w) → before ++ names_among text (get_or w i d ∷ []) ≡ names_among text (take (i + 1) w)
names_more text w i d before below e =
    ap (λ z. z ++ names_among text (get_or w i d ∷ [])) e
    ∙ sym (map-append (name_of text) (filter (λ l. is_declared l.symbol) (take i w)) (filter (λ l. is_declared l.symbol) (get_or w i d ∷ [])))
    ∙ ap (map (name_of text)) (sym (filter-append (λ l. is_declared l.symbol) (take i w) (get_or w i d ∷ [])))
    ∙ ap (names_among text) (sym (take_more w i d below))

pub not_repeated : (text : List ℕ) (w : List Lexeme) (i : ℕ) (d : Lexeme) (names : List (List ℕ)) (b : Bool) → names ≡ names_among text (take i w) → b ≡ (is_declared (get_or w i d).symbol && list_any (bytes_eq (name_of text (get_or w i d))) names) → b ≡ false → is_repeated text (take i w) (get_or w i d) ≡ false
not_repeated text w i d names b e found none =
    sym (ap (λ ns. is_declared (get_or w i d).symbol && list_any (bytes_eq (name_of text (get_or w i d))) ns) e) ∙ sym found ∙ none

pub repeated_here : (text : List ℕ) (w : List Lexeme) (i : ℕ) (d : Lexeme) (names : List (List ℕ)) (b : Bool) → names ≡ names_among text (take i w) → b ≡ (is_declared (get_or w i d).symbol && list_any (bytes_eq (name_of text (get_or w i d))) names) → b ≡ true → is_repeated text (take i w) (get_or w i d) ≡ true
repeated_here text w i d names b e found some =
    sym (ap (λ ns. is_declared (get_or w i d).symbol && list_any (bytes_eq (name_of text (get_or w i d))) ns) e) ∙ sym found ∙ some
