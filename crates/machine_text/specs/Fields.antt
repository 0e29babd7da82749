-- The fields of a line: numbers, valuations and patterns.
use Rattle.std.specs.Prelude.{◌≡◌, ℕ, zero, suc, ◌+◌, ◌-◌, ◌*◌, ◌/◌, ◌%◌, ◌<◌, ◌≤◌, ◌^◌, Bool, false, ◌&&◌, List, [], ◌∷◌, ◌++◌, nat_le, if◌then◌else◌}
use Rattle.word_core.specs.declared.cubes.Cube.{Cube}

-- the characters of a valuation, one per signal: 0 or 1
abbrev pub chars_of : ℕ → ℕ → List ℕ
chars_of zero bits = []
chars_of (suc w) bits = (48 + bits % 2) ∷ chars_of w (bits / 2)

-- a valuation as it is written: a dot where there is no signal
abbrev pub valuation : ℕ → ℕ → List ℕ
valuation zero bits = 46 ∷ []
valuation (suc w) bits = chars_of (suc w) bits

-- a signal of a pattern: - where the cube doesn't care, else the bit that it wants
abbrev pub mark : ℕ → ℕ → ℕ
mark zero want = 45
mark (suc care) want = 48 + want

-- the characters of a pattern, one per signal
abbrev pub marks_of : ℕ → ℕ → ℕ → List ℕ
marks_of zero care want = []
marks_of (suc w) care want = mark (care % 2) (want % 2) ∷ marks_of w (care / 2) (want / 2)

-- a pattern as it is written: a dot where there is no signal
abbrev pub pattern : ℕ → Cube → List ℕ
pattern zero c = 46 ∷ []
pattern (suc w) c = marks_of (suc w) c.care c.want

abbrev pub is_digit : ℕ → Bool
is_digit c = nat_le 48 c && nat_le c 57

abbrev pub begins_with_digit : List ℕ → Bool
begins_with_digit [] = false
begins_with_digit (c ∷ cs) = is_digit c

-- the number that further digits make, and what stands behind them
abbrev pub digits_from : ℕ → List ℕ → ℕ × List ℕ
digits_from n [] = (n, [])
digits_from n (c ∷ cs) = if is_digit c then digits_from (n * 10 + (c - 48)) cs else (n, c ∷ cs)

-- a text begins with none of these values as they are written
abbrev pub BeginsWithNone : {T : Type 0} → (T → Type 0) → (T → List ℕ) → List ℕ → Type 0
BeginsWithNone {T} P shown text = (v : T) (r : List ℕ) → P v → text ≡ shown v ++ r → ⊥

-- a text begins with no number that ends there
abbrev pub BeginsWithNoNumber : (ℕ → List ℕ) → List ℕ → Type 0
BeginsWithNoNumber shown text = (n : ℕ) (r : List ℕ) → n < 2 ^ 64 → begins_with_digit r ≡ false → text ≡ shown n ++ r → ⊥

-- a character that is no bit
abbrev pub IsNoBit : ℕ → Type 0
IsNoBit c = (b : ℕ) → b < 2 → c ≡ 48 + b → ⊥

-- a character that marks no signal
abbrev pub IsNoMark : ℕ → Type 0
IsNoMark c = (care want : ℕ) → care < 2 → want ≤ care → c ≡ mark care want → ⊥
