-- Functions split signal by signal.
use Rattle.std.specs.Prelude.{◌≡◌, ◌≢◌, ℕ, ◌+◌, ◌^◌, ◌<◌, ◌≤◌, true, false, List, [], ◌∷◌, ◌++◌, Option, Some, option_map}
use Rattle.word_core.specs.declared.cubes.Cube.{Cube}
use Rattle.word_core.specs.declared.machines.Line.{Line}
use Rattle.word_core.specs.Cube.{holds}
use Rattle.word_core.specs.Machine.{choice}
use Rattle.letter_tree.specs.Splitting.{all_cube, fixed}

-- what lines decide at a valuation of the other: own and next of the first line that holds it
abbrev pub decision : List Line → ℕ → Option (ℕ × ℕ)
decision lines x = option_map (λ l. (l.own, l.next)) (choice lines x)

-- inside a cube a function of so many signals has one value
abbrev pub IsConstant : ℕ → (ℕ → Option (ℕ × ℕ)) → Cube → ℕ × ℕ → Type 0
IsConstant width f c value = (x : ℕ) → x < 2 ^ width → holds c x ≡ true → f x ≡ Some value

-- inside a cube a function depends on a signal: its value at some valuation without the signal is not that with it
pub record DependsOn (width : ℕ) (f : ℕ → Option (ℕ × ℕ)) (c : Cube) (signal : ℕ) : Type 0 where
  pub without : ℕ
  pub within : without < 2 ^ width
  pub held : holds (fixed c signal false) without ≡ true
  pub differ : f without ≢ f (without + 2 ^ signal)

-- the lines of a function inside a cube, split from a signal on: one line where the function is constant; else it is split at a
-- signal on which it depends, the lines of the part for 0 come before those of the part for 1, and both parts are split at
-- later signals alone. So a signal on which the function doesn't depend, as far as it is restricted, is skipped, and no other
pub data IsSplitting (width : ℕ) (f : ℕ → Option (ℕ × ℕ)) : ℕ → Cube → List Line → Type 0 where
  whole : (from : ℕ) (c : Cube) (own next : ℕ) → IsConstant width f c (own, next) → IsSplitting width f from c (record { when = c; own = own; next = next } ∷ [])
  split : (from signal : ℕ) (c : Cube) (low high : List Line) → from ≤ signal → signal < width → DependsOn width f c signal
      → IsSplitting width f (signal + 1) (fixed c signal false) low → IsSplitting width f (signal + 1) (fixed c signal true) high
      → IsSplitting width f from c (low ++ high)

-- lines that are the splitting of what they decide
abbrev pub AreSplit : ℕ → List Line → Type 0
AreSplit width lines = IsSplitting width (decision lines) 0 all_cube lines
