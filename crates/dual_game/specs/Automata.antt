-- The automata of a specification.
use Rattle.std.specs.Prelude.{◌≡◌, ◌⊎◌, ℕ, ◌<◌, ◌≤◌, ◌↔◌, Bool, true, false, not, List, [], length, if◌then◌else◌}
use Rattle.ltl_form.specs.declared.normals.Node.{Node}
use Rattle.ltl_form.specs.Meaning.{holds_at}
use Rattle.ltl_form.specs.NodeTrees.{node_trees, formula_at}
use Rattle.ltl_form.specs.Normal.{IsNormal}
use Rattle.ltl_form.specs.Numbered.{numbered, AreDistinct}
use Rattle.ltl_form.specs.Tree.{normal_tree}
use Rattle.tableau_nba.specs.Walks.{Outcome, Spot, all_spots, automaton_in, walk_data}
use Rattle.tableau_nba.specs.Walks.Outcome.{found, too_wide, too_many}
use Rattle.nba_trim.specs.Trimmed.{IsTrimmed}
use Rattle.tlsf_basic.specs.declared.specifications.Spec.{Spec}
use Rattle.tlsf_basic.specs.Specification.{signal_count}
use Rattle.word_core.specs.declared.names.Player.{Player}
use Rattle.word_core.specs.declared.names.Player.TheVariants.{System, Environment}
use Rattle.word_core.specs.Automaton.{AutomatonData, IsAutomaton}
use Rattle.word_core.specs.Lasso.{LassoData}
use Rattle.word_core.specs.Run.{Accepts}
use Rattle.dual_game.specs.declared.errors.GameError.{GameError}
use Rattle.dual_game.specs.declared.errors.GameError.TheVariants.{TooManyFormulas, TooWide, TooManyStates, Memory}
use Rattle.dual_game.specs.declared.games.Pair.{Pair}

-- the system must avoid that the formula fails, and the environment that it holds
abbrev pub avoids_truth : Player → Bool
avoids_truth System = false
avoids_truth Environment = true

-- whether there is what a player must avoid, where this says whether the formula holds
abbrev pub avoided : Player → Bool → Bool
avoided who b = if avoids_truth who then b else not b

-- the number of formulas in the normal form of what a player must avoid
abbrev pub formula_count : Spec → Player → ℕ
formula_count s who = length (numbered (normal_tree s.formula (avoids_truth who)) [])

-- that normal form, its formulas numbered by their first occurrence
pub record IsNormalOf (s : Spec) (who : Player) (nodes : List Node) (root : ℕ) : Type 0 where
  pub is : IsNormal nodes root
  pub distinct : AreDistinct (node_trees nodes)
  pub numbers : node_trees nodes ≡ numbered (normal_tree s.formula (avoids_truth who)) []
  pub whole : formula_at nodes root ≡ normal_tree s.formula (avoids_truth who)

-- how the walk through the tableau of that normal form ends: with its states, or where a limit is passed
pub record HasTableau (s : Spec) (who : Player) (how : Outcome) : Type 0 where
  pub nodes : List Node
  pub root : ℕ
  pub normal : IsNormalOf s who nodes root
  pub walk : all_spots (walk_data nodes (signal_count s.names)) root ≡ how

-- a player's automaton: the tableau of that normal form without the states that no accepting run needs; it accepts exactly the
-- lassos that the player must avoid
pub record IsAutomatonOf (s : Spec) (who : Player) (a : AutomatonData) : Type 0 where
  pub nodes : List Node
  pub root : ℕ
  pub spots : List Spot
  pub normal : IsNormalOf s who nodes root
  pub walk : all_spots (walk_data nodes (signal_count s.names)) root ≡ found spots
  pub trimmed : IsTrimmed (automaton_in (walk_data nodes (signal_count s.names)) spots) a
  pub well : IsAutomaton a
  pub accepts : (w : LassoData) → 0 < length w.cycle → Accepts a w ↔ (avoided who (holds_at w s.formula 0) ≡ true)

pub record IsPairOf (s : Spec) (pair : Pair) : Type 0 where
  pub system : IsAutomatonOf s System pair.system
  pub environment : IsAutomatonOf s Environment pair.environment

-- a limit that the automaton of one player passes
abbrev pub IsLimitOf : Spec → Player → GameError → Type 0
IsLimitOf s who TooManyFormulas = 512 < formula_count s who
IsLimitOf s who TooWide = HasTableau s who too_wide
IsLimitOf s who TooManyStates = HasTableau s who too_many
IsLimitOf s who Memory = Unit {0}

-- a player of a specification has one automaton, or passes a limit, and not both
pub record HasOneAutomaton (s : Spec) (who : Player) : Type 0 where
  pub one : (a b : AutomatonData) → IsAutomatonOf s who a → IsAutomatonOf s who b → a ≡ b
  pub no_limit : (a : AutomatonData) (e : GameError) → IsAutomatonOf s who a → IsLimitOf s who e → e ≡ Memory
  pub one_limit : (d e : GameError) → IsLimitOf s who d → IsLimitOf s who e → (d ≡ Memory → ⊥) → (e ≡ Memory → ⊥) → d ≡ e

abbrev pub AutomatonIsOne : Type 0
AutomatonIsOne = (s : Spec) (who : Player) → HasOneAutomaton s who

-- a tableau passes a limit: the system's, or the environment's where the system has its automaton; both normal forms are within theirs
pub record HasWalkLimit (s : Spec) (how : Outcome) : Type 0 where
  pub few : (who : Player) → formula_count s who ≤ 512
  pub passed : HasTableau s System how ⊎ ((a : AutomatonData) × IsAutomatonOf s System a × HasTableau s Environment how)

-- a limit that the automata of both players pass first
abbrev pub IsLimitOfPair : Spec → GameError → Type 0
IsLimitOfPair s TooManyFormulas = (512 < formula_count s System) ⊎ (512 < formula_count s Environment)
IsLimitOfPair s TooWide = HasWalkLimit s too_wide
IsLimitOfPair s TooManyStates = HasWalkLimit s too_many
IsLimitOfPair s Memory = Unit {0}
