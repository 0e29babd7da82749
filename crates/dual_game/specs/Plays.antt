-- What two machines of opposite players play together, what a machine plays against given valuations, and what it keeps.
use Rattle.std.specs.Prelude.{◌≡◌, ℕ, ◌<◌, ◌≤◌, ◌^◌, ◌⊎◌, List, map, length}
use Rattle.word_core.specs.declared.names.Kind.TheVariants.{First}
use Rattle.word_core.specs.declared.names.Player.TheVariants.{System, Environment}
use Rattle.word_core.specs.Lasso.{LassoData, bits_at, prefix}
use Rattle.word_core.specs.Machine.{MachineData, IsMachine, other_of}
use Rattle.word_core.specs.Automaton.{AutomatonData}
use Rattle.word_core.specs.Play.{move_of, IsPlay, IsLassoPlay}
use Rattle.word_core.specs.Run.{Keeps}

-- f moves first and g second, for the two sides of the same signals
pub record Opposed (f g : MachineData) : Type 0 where
  pub first : IsMachine f
  pub second : IsMachine g
  pub first_kind : f.kind ≡ First
  pub players : (f.player ≡ System × g.player ≡ Environment) ⊎ (f.player ≡ Environment × g.player ≡ System)
  pub inputs : f.inputs ≡ g.inputs
  pub outputs : f.outputs ≡ g.outputs

-- the finite plays that both have are the prefixes of one lasso's unrolling
pub record MeetOnce (f g : MachineData) : Type 0 where
  pub word : LassoData
  pub endless : 0 < length word.cycle
  pub first : IsLassoPlay f word
  pub second : IsLassoPlay g word
  pub only : (letters : List ℕ) → IsPlay f letters → IsPlay g letters → letters ≡ prefix word (length letters)

-- two machines of opposite players, one of which moves first, have one unrolling in common as a play, and it is that of a lasso
abbrev pub PlaysMeetOnce : Type 0
PlaysMeetOnce = (f g : MachineData) → Opposed f g → MeetOnce f g

-- the valuations of the other side in letters
abbrev pub others_in : MachineData → List ℕ → List ℕ
others_in m letters = map (λ x. (move_of m.player m.inputs x).other) letters

-- the finite plays with these valuations are the prefixes of one lasso's unrolling
pub record IsPlayedOnce (m : MachineData) (valuations : LassoData) : Type 0 where
  pub word : LassoData
  pub endless : 0 < length word.cycle
  pub plays : IsLassoPlay m word
  pub others : (n : ℕ) → others_in m (prefix word n) ≡ prefix valuations n
  pub only : (letters : List ℕ) → IsPlay m letters → others_in m letters ≡ prefix valuations (length letters) → letters ≡ prefix word (length letters)

-- for each lasso of the other side's valuations a machine has one unrolling as a play, and it is that of a lasso
abbrev pub PlayIsOne : Type 0
PlayIsOne =
    (m : MachineData) (valuations : LassoData) → IsMachine m → 0 < length valuations.cycle → ((n : ℕ) → bits_at valuations n < 2 ^ other_of m) → IsPlayedOnce m valuations

-- a machine that keeps a bound keeps each greater one
abbrev pub KeepsAbove : Type 0
KeepsAbove = (a : AutomatonData) (m : MachineData) (j k : ℕ) → j ≤ k → Keeps a m j → Keeps a m k
