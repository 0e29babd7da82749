-- Texts by name, and what a fetch gives of them.
use Rattle.std.specs.Prelude.{◌≡◌, ℕ, List, [], ◌∷◌, Option, Some, None, IsNone, if◌then◌else◌, take, option_map, Result, Ok, Err}
use Rattle.std.specs.Str.{bytes_eq}
use Rattle.shelf_io.specs.declared.shelves.ShelfError.{ShelfError}
use Rattle.shelf_io.specs.declared.shelves.ShelfError.TheVariants.{Failed}

-- names with their texts
abbrev pub Texts : Type 0
Texts = List (List ℕ × List ℕ)

-- the first text of this name
abbrev pub text_of : Texts → List ℕ → Option (List ℕ)
text_of [] name = None
text_of (t ∷ rest) name = if bytes_eq t.0 name then Some t.1 else text_of rest name

-- no name stands twice
abbrev pub NamesDiffer : Texts → Type 0
NamesDiffer [] = Unit {0}
NamesDiffer (t ∷ rest) = (text_of rest t.0 ≡ None) × NamesDiffer rest

-- the bytes are the first ones, at most `cap`, of the text of this name
abbrev pub Fetched : Texts → List ℕ → ℕ → List ℕ → Type 0
Fetched texts name cap bytes = option_map (take cap) (text_of texts name) ≡ Some bytes

-- the name of the last fetch that failed, after one more fetch with this result
abbrev pub failed_after : {T : Type 0} → Result T ShelfError → List ℕ → Option (List ℕ) → Option (List ℕ)
failed_after (Err Failed) name old = Some name
failed_after _ name old = old
