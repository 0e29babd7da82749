-- The rows of the actions of parts.
use Rattle.std.specs.Prelude.{◌≡◌, ℕ, ◌<◌, Bool, true, false, List, [], length, Vec, slice_index_or}
use Rattle.std.specs.declared.alloc.Global.{Global}
use Rattle.word_core.specs.declared.branches.Branch.{Branch}
use Rattle.word_core.specs.declared.names.Kind.{Kind}
use Rattle.word_core.specs.declared.names.Kind.TheVariants.{First, Second}
use Rattle.word_core.specs.declared.names.Player.{Player}
use Rattle.word_core.specs.declared.names.Player.TheVariants.{System, Environment}
use Rattle.word_core.specs.Automaton.{AutomatonData, edges_at}
use Rattle.word_core.specs.Tree.{label_of}
use Rattle.game_form.specs.declared.actions.Step.{Step}
use Rattle.game_form.specs.Game.{row_at}
use Rattle.game_form.specs.Vector.{number}
use Rattle.action_groups.specs.declared.games.Parts.{Parts}
use Rattle.action_groups.specs.Labels.{pair_at}
use Rattle.action_groups.specs.Lists.{items_at}
use Rattle.action_groups.specs.Numbers.{steps_number}
use Rattle.action_groups.specs.Rows.{edge_number}
use Rattle.action_groups.specs.Tests.{IsLetterOf}

-- the first actions have the rows of the effects in an order
abbrev pub AreActionsOf : ℕ → List (Vec (ℕ × ℕ × Bool) Global) → ℕ → List (ℕ × ℕ) → List (List (List Step)) → Type 0
AreActionsOf count effects upto order actions =
    (i q p : ℕ) → i < upto → q < count → number (row_at (slice_index_or actions i []) q) p ≡ steps_number (items_at effects (pair_at order i).1) q p

-- the action that a valuation leads to has the rows of its effect
abbrev pub HasEffectRows : ℕ → List Branch → List (Vec (ℕ × ℕ × Bool) Global) → Parts → Type 0
HasEffectRows count nodes effects p =
    (bits q r : ℕ) → q < count
    → number (row_at (slice_index_or p.actions.items (label_of p.letters.items bits) []) q) r ≡ steps_number (items_at effects (label_of nodes bits)) q r

-- the action that a letter's valuation leads to has the rows of the letter
abbrev pub HasPartRows : ℕ → ℕ → Bool → AutomatonData → Parts → Type 0
HasPartRows inputs outputs first a p =
    (x bits q r : ℕ) → IsLetterOf inputs outputs first x bits → q < length a.states
    → number (row_at (slice_index_or p.actions.items (label_of p.letters.items bits) []) q) r ≡ edge_number (edges_at a q) x r

-- valuations whose effects are one list have one action
abbrev pub HasSameLabels : List Branch → List (Vec (ℕ × ℕ × Bool) Global) → Parts → Type 0
HasSameLabels nodes effects p =
    (bits others : ℕ) → items_at effects (label_of nodes bits) ≡ items_at effects (label_of nodes others)
    → label_of p.letters.items bits ≡ label_of p.letters.items others

-- whether the side that moves first has the inputs
abbrev pub inputs_lead : Player → Kind → Bool
inputs_lead System First = false
inputs_lead System Second = true
inputs_lead Environment First = true
inputs_lead Environment Second = false
