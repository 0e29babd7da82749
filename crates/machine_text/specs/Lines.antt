-- Texts as lines, each of which ends with a line feed, and the first line that isn't as a grammar says.
use Rattle.std.specs.Prelude.{◌≡◌, ◌≢◌, ℕ, ◌+◌, List, [], ◌∷◌, ◌++◌, length}
use Rattle.std.specs.List.{All}

abbrev pub joined : List (List ℕ) → List ℕ
joined [] = []
joined (line ∷ lines) = line ++ 10 ∷ joined lines

-- no line feed stands in a line
abbrev pub IsWhole : List ℕ → Type 0
IsWhole line = All (λ b. b ≢ 10) line

-- lines with which some text of a grammar begins; the grammar says which lists of lines are its texts
abbrev pub Begins : (List (List ℕ) → Type 0) → List (List ℕ) → Type 0
Begins IsText lines = (more : List (List ℕ)) × IsText (lines ++ more)

-- the first line of a text isn't one of these
abbrev pub NextIsNone : (List ℕ → Type 0) → List ℕ → Type 0
NextIsNone P text = (line rest : List ℕ) → IsWhole line → text ≡ line ++ 10 ∷ rest → P line → ⊥

-- line n, counted from 1, is the first one that isn't as a grammar says: the lines before it begin a text and are no text
-- by themselves, and behind them stands no line, with its line feed, that goes on with them
pub record IsBadLine (IsText : List (List ℕ) → Type 0) (text : List ℕ) (n : ℕ) : Type 0 where
  pub before : List (List ℕ)
  pub rest : List ℕ
  pub place : n ≡ length before + 1
  pub parts : text ≡ joined before ++ rest
  pub begins : Begins IsText before
  pub open_end : rest ≡ [] → IsText before → ⊥
  pub stops : NextIsNone (λ line. Begins IsText (before ++ line ∷ [])) rest
