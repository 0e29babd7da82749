-- Whole texts, and texts that are too long.
use Rattle.std.proofs.Common.{◌≡◌, ℕ, ◌<◌, ◌≤◌, List, length, take, Option, Some, None, refl, sym, ◌∙◌, ap, arith, length-take}
use Rattle.std.specs.Option.{option_map}
use Rattle.std.proofs.lemmas.List.{take_all}
use Rattle.shelf_io.specs.Texts.{Texts, text_of, Fetched}

some_is : (a b : List ℕ) → Some a ≡ Some b → a ≡ b
some_is a b e = cc

pub whole : (told : Texts) (name : List ℕ) (cap : ℕ) (bytes : List ℕ) → Fetched told name cap bytes → length bytes < cap → text_of told name ≡ Some bytes
whole told name cap bytes h less = by (text_of told name) h
  where
    by : (o : Option (List ℕ)) → option_map (take cap) o ≡ Some bytes → o ≡ Some bytes
    by None e = absurd (nothing e)
      where
        nothing : None ≡ Some bytes → ⊥
        nothing e = cc
    by (Some t) e =
        let is : take cap t ≡ bytes = some_is (take cap t) bytes e in
        let size : length (take cap t) ≡ length bytes = ap length is in
        let short : length t ≤ cap = omega (arith, size, less, length-take cap t) in
        ap Some (sym (take_all cap t short) ∙ is)

pub longer : (told : Texts) (name : List ℕ) (cap : ℕ) (bytes : List ℕ) → Fetched told name cap bytes → cap ≤ length bytes
    → (text : List ℕ) × (text_of told name ≡ Some text) × (cap ≤ length text)
longer told name cap bytes h long = by (text_of told name) h
  where
    by : (o : Option (List ℕ)) → option_map (take cap) o ≡ Some bytes → (text : List ℕ) × (o ≡ Some text) × (cap ≤ length text)
    by None e = absurd (nothing e)
      where
        nothing : None ≡ Some bytes → ⊥
        nothing e = cc
    by (Some t) e =
        let is : take cap t ≡ bytes = some_is (take cap t) bytes e in
        let size : length (take cap t) ≡ length bytes = ap length is in
        (t, refl, omega (arith, size, long, length-take cap t))
