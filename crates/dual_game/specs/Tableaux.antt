-- The tableau of a normal form, and what it is without the states that no accepting run needs.
use Rattle.std.specs.Prelude.{◌≡◌, ℕ, List}
use Rattle.ltl_form.specs.declared.normals.Node.{Node}
use Rattle.tableau_nba.specs.Walks.{Spot, all_spots, automaton_in, walk_data}
use Rattle.tableau_nba.specs.Walks.Outcome.{found, too_wide, too_many}
use Rattle.nba_trim.specs.Trimmed.{IsTrimmed}
use Rattle.word_core.specs.Automaton.{AutomatonData, IsAutomaton}
use Rattle.dual_game.specs.declared.errors.GameError.{GameError}
use Rattle.dual_game.specs.declared.errors.GameError.TheVariants.{TooManyFormulas, TooWide, TooManyStates, Memory}

pub record IsTrimmedTableau (nodes : List Node) (root signals : ℕ) (a : AutomatonData) : Type 0 where
  pub spots : List Spot
  pub walk : all_spots (walk_data nodes signals) root ≡ found spots
  pub trimmed : IsTrimmed (automaton_in (walk_data nodes signals) spots) a
  pub well : IsAutomaton a

-- the limit at which the walk through the tableau stops
abbrev pub IsTableauLimit : List Node → ℕ → ℕ → GameError → Type 0
IsTableauLimit nodes root signals TooManyFormulas = ⊥
IsTableauLimit nodes root signals TooWide = all_spots (walk_data nodes signals) root ≡ too_wide
IsTableauLimit nodes root signals TooManyStates = all_spots (walk_data nodes signals) root ≡ too_many
IsTableauLimit nodes root signals Memory = Unit {0}
