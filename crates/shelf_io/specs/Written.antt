-- The bytes that were written, where they are told.
use Rattle.std.specs.Prelude.{◌≡◌, ℕ, List, ◌++◌, [], take, Option, Some, None}
use Rattle.std.proofs.Common.{append_assoc, append-nil, refl, ap, sym}

-- what is written after these bytes were appended
unfoldable pub appended : Option (List ℕ) → List ℕ → Option (List ℕ)
appended None bytes = None
appended (Some old) bytes = Some (old ++ bytes)

-- a prefix of the bytes was appended
abbrev pub AppendsPrefix : Option (List ℕ) → Option (List ℕ) → List ℕ → Type 0
AppendsPrefix old new bytes = (n : ℕ) × (new ≡ appended old (take n bytes))

pub appended-appended : (old : Option (List ℕ)) (a b : List ℕ) → appended (appended old a) b ≡ appended old (a ++ b)
unfolding appended
appended-appended None a b = refl
appended-appended (Some old) a b = ap Some (append_assoc old a b)

pub appended-nil : (old : Option (List ℕ)) → appended old [] ≡ old
unfolding appended
appended-nil None = refl
appended-nil (Some old) = ap Some (append-nil old)
