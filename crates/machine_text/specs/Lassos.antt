-- The text of a lasso.
use Rattle.std.specs.Prelude.{◌≡◌, ℕ, ◌+◌, ◌<◌, ◌^◌, List, [], ◌∷◌, ◌++◌, length, codes, ⊤}
use Rattle.std.specs.List.{All}
use Rattle.word_core.specs.declared.cubes.Letter.{Letter}
use Rattle.word_core.specs.Lasso.{LassoData}
use Rattle.machine_text.specs.declared.errors.LassoError.{LassoError}
use Rattle.machine_text.specs.declared.errors.LassoError.TheVariants.{Line, Memory}
use Rattle.machine_text.specs.Fields.{valuation}
use Rattle.machine_text.specs.Lines.{joined, IsBadLine, NextIsNone}

-- letters, one a line
abbrev pub letter_lines : ℕ → List Letter → List (List ℕ)
letter_lines signals [] = []
letter_lines signals (x ∷ xs) = valuation signals x.0 ∷ letter_lines signals xs

abbrev pub lasso_lines : ℕ → LassoData → List (List ℕ)
lasso_lines signals w =
    (codes "stem" ∷ letter_lines signals w.stem) ++ codes "cycle" ∷ letter_lines signals w.cycle

abbrev pub lasso_text : ℕ → LassoData → List ℕ
lasso_text signals w = joined (lasso_lines signals w)

-- no letter has a bit past the signals
abbrev pub AreLetters : ℕ → List Letter → Type 0
AreLetters signals xs = All (λ x. x.0 < 2 ^ signals) xs

-- a lasso over so many signals
abbrev pub IsLasso : ℕ → LassoData → Type 0
IsLasso signals w = AreLetters signals w.stem × AreLetters signals w.cycle × (0 < length w.cycle)

-- the grammar: these are the lines of some lasso
abbrev pub IsLassoLines : ℕ → List (List ℕ) → Type 0
IsLassoLines signals lines = (w : LassoData) × IsLasso signals w × (lines ≡ lasso_lines signals w)

-- why a text is no lasso's
abbrev pub HasLassoFault : ℕ → List ℕ → LassoError → Type 0
HasLassoFault signals text (Line n) = IsBadLine (IsLassoLines signals) text n
HasLassoFault signals text Memory = ⊤

-- a line is a letter's
abbrev pub IsLetterLine : ℕ → List ℕ → Type 0
IsLetterLine signals line = (x : ℕ) × (x < 2 ^ signals) × (line ≡ valuation signals x)

-- after these letters no further one comes, in line n
pub record EndsLetters (signals taken : ℕ) (text : List ℕ) (n : ℕ) (letters : List Letter) (rest : List ℕ) : Type 0 where
  pub ranged : AreLetters signals letters
  pub parts : text ≡ joined (letter_lines signals letters) ++ rest
  pub place : n ≡ taken + length letters + 1
  pub no_letter : NextIsNone (IsLetterLine signals) rest

-- after some letters comes neither a further one nor the cycle
abbrev pub HasStemFault : ℕ → ℕ → List ℕ → LassoError → Type 0
HasStemFault signals taken text (Line n) =
    (letters : List Letter) × (rest : List ℕ) × EndsLetters signals taken text n letters rest × NextIsNone (λ line. line ≡ codes "cycle") rest
HasStemFault signals taken text Memory = ⊤

-- after some letters comes no further one, nor the end unless there is no letter
abbrev pub HasCycleFault : ℕ → ℕ → List ℕ → LassoError → Type 0
HasCycleFault signals taken text (Line n) =
    (letters : List Letter) × (rest : List ℕ) × EndsLetters signals taken text n letters rest × (rest ≡ [] → letters ≡ [])
HasCycleFault signals taken text Memory = ⊤
