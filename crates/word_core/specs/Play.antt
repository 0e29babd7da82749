-- Plays of a machine. In a move both sides choose a valuation.
use Rattle.std.specs.Prelude.{◌≡◌, ℕ, ◌+◌, ◌*◌, ◌/◌, ◌%◌, ◌<◌, ◌^◌, List, [], ◌∷◌, map, MatchOption}
use Rattle.word_core.specs.declared.names.Player.{Player}
use Rattle.word_core.specs.declared.names.Player.TheVariants.{System, Environment}
use Rattle.word_core.specs.Machine.{MachineData, lines_at, choice, other_of}
use Rattle.word_core.specs.Lasso.{LassoData, prefix}

pub record Move : Type 0 where
  pub own : ℕ
  pub other : ℕ

-- the letter of a move, the inputs in its first bits
abbrev pub letter_of : Player → ℕ → Move → ℕ
letter_of System inputs v = v.own * 2 ^ inputs + v.other
letter_of Environment inputs v = v.other * 2 ^ inputs + v.own

-- the move of a letter
abbrev pub move_of : Player → ℕ → ℕ → Move
move_of System inputs x = record { own = x / 2 ^ inputs; other = x % 2 ^ inputs }
move_of Environment inputs x = record { own = x % 2 ^ inputs; other = x / 2 ^ inputs }

-- a list of moves is played from a state: each own valuation is the machine's choice at the other one
abbrev pub IsPlayFrom : MachineData → ℕ → List Move → Type 0
IsPlayFrom m s [] = Unit {0}
IsPlayFrom m s (v ∷ vs) =
    (v.other < 2 ^ other_of m) × MatchOption (choice (lines_at m s) v.other) ⊥ (λ l. (v.own ≡ l.own) × IsPlayFrom m l.next vs)

-- a list of letters is a finite play of a machine, which starts at state 0
abbrev pub IsPlay : MachineData → List ℕ → Type 0
IsPlay m letters = IsPlayFrom m 0 (map (move_of m.player m.inputs) letters)

-- a lasso is a play where each finite part of its unrolling is one
abbrev pub IsLassoPlay : MachineData → LassoData → Type 0
IsLassoPlay m w = (n : ℕ) → IsPlay m (prefix w n)
