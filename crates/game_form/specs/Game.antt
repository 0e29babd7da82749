-- Games over the lanes of an automaton, with sparse rows.
use Rattle.std.specs.Prelude.{◌≡◌, ℕ, suc, ℤ, pos, ◌+◌, ◌*◌, ◌^◌, ◌<◌, ◌≤◌, ◌≤ℤ◌, List, [], ◌∷◌, length, Option, ⊤, slice_index_or}
use Rattle.std.specs.Option.{ForSome}
use Rattle.word_core.specs.declared.names.Kind.{Kind}
use Rattle.word_core.specs.declared.names.Kind.TheVariants.{First, Second}
use Rattle.word_core.specs.declared.names.Player.{Player}
use Rattle.word_core.specs.declared.branches.Branch.{Branch}
use Rattle.game_form.specs.declared.actions.Step.{Step}
use Rattle.word_core.specs.Machine as machine
use Rattle.word_core.specs.Tree.{label_of}
use Rattle.game_form.specs.Tree.{IsTreeOver}

-- a class: its least valuation of the first mover, and its options, an action with a valuation of the second mover
pub record ClassData : Type 0 where
  pub least : ℕ
  pub options : List (ℕ × ℕ)

pub record GameData : Type 0 where
  pub player : Player
  pub kind : Kind
  pub inputs : ℕ
  pub outputs : ℕ
  pub k : ℤ
  pub init : Option ℕ
  pub actions : List (List (List Step))
  pub classes : List ClassData
  pub letters : List Branch
  pub firsts : List Branch

-- what belongs to the side that moves first: the player's under First, the other's under Second
abbrev pub of_first : {X : Type 0} → Kind → X → X → X
of_first First own other = own
of_first Second own other = other

abbrev pub of_second : {X : Type 0} → Kind → X → X → X
of_second First own other = other
of_second Second own other = own

-- the number of the player's own signals, and of the other's
abbrev pub own_width : GameData → ℕ
own_width g = machine.own_width g.player g.inputs g.outputs

abbrev pub other_width : GameData → ℕ
other_width g = machine.other_width g.player g.inputs g.outputs

-- the number of signals of the side that moves first, and of the side that moves second
abbrev pub first_width : GameData → ℕ
first_width g = of_first g.kind (own_width g) (other_width g)

abbrev pub second_width : GameData → ℕ
second_width g = of_second g.kind (own_width g) (other_width g)

-- a letter of two parts as one valuation, the first mover's signals first
abbrev pub letter_of : GameData → ℕ → ℕ → ℕ
letter_of g own other = of_first g.kind own other + of_second g.kind own other * 2 ^ first_width g

-- the action of a letter, and the class of a valuation of the first mover
abbrev pub action_of : GameData → ℕ → ℕ → ℕ
action_of g own other = label_of g.letters (letter_of g own other)

abbrev pub class_of : GameData → ℕ → ℕ
class_of g first = label_of g.firsts first

-- the number of lanes, which is the number of rows of each action
abbrev pub lanes_of : List (List (List Step)) → ℕ
lanes_of [] = 0
lanes_of (a ∷ rest) = length a

abbrev pub lanes : GameData → ℕ
lanes g = lanes_of g.actions

-- the ends of the steps ascend from low on and are lanes, and each number is 1 or 2
abbrev pub IsRow : ℕ → ℕ → List Step → Type 0
IsRow lanes low [] = ⊤
IsRow lanes low (s ∷ rest) =
    (low ≤ s.to) × (s.to < lanes) × (pos 1 ≤ℤ s.number) × (s.number ≤ℤ pos 2) × IsRow lanes (suc s.to) rest

abbrev pub row_at : List (List Step) → ℕ → List Step
row_at rows q = slice_index_or rows q []

-- one row per lane
pub record IsAction (lanes : ℕ) (rows : List (List Step)) : Type 0 where
  pub height : length rows ≡ lanes
  pub row : (q : ℕ) → q < length rows → IsRow lanes 0 (row_at rows q)

abbrev pub action_at : GameData → ℕ → List (List Step)
action_at g a = slice_index_or g.actions a []

abbrev pub option_at : ClassData → ℕ → ℕ × ℕ
option_at c i = slice_index_or c.options i (0, 0)

abbrev pub no_class : ClassData
no_class = record { least = 0; options = [] }

abbrev pub class_at : GameData → ℕ → ClassData
class_at g c = slice_index_or g.classes c no_class

-- the least valuation is one of the first mover, and each option is an action with a valuation of the second mover
pub record IsClass (g : GameData) (c : ClassData) : Type 0 where
  pub least : c.least < 2 ^ first_width g
  pub some : 0 < length c.options
  pub action : (i : ℕ) → i < length c.options → (option_at c i).0 < length g.actions
  pub reply : (i : ℕ) → i < length c.options → (option_at c i).1 < 2 ^ second_width g

-- what is known of every game
pub record IsGame (g : GameData) : Type 0 where
  pub widths : g.inputs + g.outputs ≤ 40
  pub low : pos 0 ≤ℤ g.k
  pub high : g.k ≤ℤ pos 10000
  pub some_action : 0 < length g.actions
  pub some_class : 0 < length g.classes
  pub actions : (a : ℕ) → a < length g.actions → IsAction (lanes g) (action_at g a)
  pub init : ForSome g.init (λ q. q < lanes g)
  pub classes : (c : ℕ) → c < length g.classes → IsClass g (class_at g c)
  pub letters : IsTreeOver (g.inputs + g.outputs) (length g.actions) g.letters
  pub firsts : IsTreeOver (first_width g) (length g.classes) g.firsts
