-- The parts of a game with so many lanes, over so many signals, of which `width` are the first side's.
use Rattle.std.specs.Prelude.{◌≡◌, ℕ, ◌<◌, ◌≤◌, ◌+◌, ◌-◌, ◌*◌, ◌^◌, Bool, List, length, slice_index_or}
use Rattle.std.specs.List.{All, AllPairs}
use Rattle.word_core.specs.Automaton.{AutomatonData}
use Rattle.word_core.specs.Tree.{label_of}
use Rattle.game_form.specs.Game.{ClassData, option_at, no_class}
use Rattle.action_groups.specs.Part.{AreNodes}
use Rattle.action_groups.specs.Row.{AreRows}
use Rattle.action_groups.specs.Listing.{IsListedClass}
use Rattle.action_groups.specs.Grouped.{HasSameEdges}
use Rattle.action_groups.specs.Sides.{leading, following, letter_number}
use Rattle.action_groups.specs.Tests.{IsLetterOf}
use Rattle.action_groups.specs.declared.games.Parts.{Parts}

pub record AreParts (count whole width : ℕ) (p : Parts) : Type 0 where
  pub some_action : 0 < length p.actions.items
  pub some_class : 0 < length p.classes.items
  pub actions : All (AreRows count) p.actions.items
  pub classes : All (IsListedClass width (whole - width) (length p.actions.items)) p.classes.items
  pub letters : AreNodes whole (length p.actions.items) p.letters.items
  pub some_letter : 0 < length p.letters.items
  pub firsts : AreNodes width (length p.classes.items) p.firsts.items
  pub some_first : 0 < length p.firsts.items

abbrev pub listed_at : Parts → ℕ → ClassData
listed_at p c = slice_index_or p.classes.items c no_class

-- classes and options are those of the letters: the least valuation of a class has the action of each of its letters
-- among the options, and each option of a first valuation is the action of its letter
pub record HasLetterParts (width : ℕ) (p : Parts) : Type 0 where
  pub least : (c second : ℕ) → c < length p.classes.items
      → (i : ℕ) × (i < length (listed_at p c).options) × ((option_at (listed_at p c) i).0 ≡ label_of p.letters.items ((listed_at p c).least + second * 2 ^ width))
  pub options : (first i : ℕ) → first < 2 ^ width → i < length (listed_at p (label_of p.firsts.items first)).options
      → (option_at (listed_at p (label_of p.firsts.items first)) i).0 ≡ label_of p.letters.items (first + (option_at (listed_at p (label_of p.firsts.items first)) i).1 * 2 ^ width)

-- the action of a letter of two valuations, and the class of a first one
abbrev pub part_answer : ℕ → ℕ → Bool → Parts → ℕ → ℕ → ℕ
part_answer inputs outputs lead p first second = label_of p.letters.items (first + second * 2 ^ leading inputs outputs lead)

abbrev pub part_class : Parts → ℕ → ℕ
part_class p first = label_of p.firsts.items first

abbrev pub AreSides : ℕ → ℕ → Bool → ℕ → ℕ → Type 0
AreSides inputs outputs lead first second = (first < 2 ^ leading inputs outputs lead) × (second < 2 ^ following inputs outputs lead)

-- letters of the same edges have one action
abbrev pub HasSameActions : ℕ → ℕ → Bool → AutomatonData → Parts → Type 0
HasSameActions inputs outputs lead a p =
    (x bits y others : ℕ) → IsLetterOf inputs outputs lead x bits → IsLetterOf inputs outputs lead y others → HasSameEdges a x y
    → label_of p.letters.items bits ≡ label_of p.letters.items others

-- a letter has this action, and each letter before it an earlier one
pub record HasPartLetter (inputs outputs : ℕ) (lead : Bool) (p : Parts) (action : ℕ) : Type 0 where
  pub first : ℕ
  pub second : ℕ
  pub within : AreSides inputs outputs lead first second
  pub has : part_answer inputs outputs lead p first second ≡ action
  pub before : (f s : ℕ) → AreSides inputs outputs lead f s → letter_number inputs lead f s < letter_number inputs lead first second → part_answer inputs outputs lead p f s < action

-- the options of a first valuation
pub record ArePartOptions (inputs outputs : ℕ) (lead : Bool) (p : Parts) (first : ℕ) (options : List (ℕ × ℕ)) : Type 0 where
  pub each : All (λ o. (o.1 < 2 ^ following inputs outputs lead) × (part_answer inputs outputs lead p first o.1 ≡ o.0)) options
  pub least : (second : ℕ) → second < 2 ^ following inputs outputs lead
      → (i : ℕ) × (i < length options) × ((slice_index_or options i (0, 0)).0 ≡ part_answer inputs outputs lead p first second) × ((slice_index_or options i (0, 0)).1 ≤ second)
  pub rising : AllPairs (λ o o'. (o.1 < o'.1) × (o.0 ≡ o'.0 → ⊥)) options

-- actions and classes are numbered by what has them first
pub record AreNumbered (inputs outputs : ℕ) (lead : Bool) (p : Parts) : Type 0 where
  pub actions : (action : ℕ) → action < length p.actions.items → HasPartLetter inputs outputs lead p action
  pub options : (first : ℕ) → first < 2 ^ leading inputs outputs lead → ArePartOptions inputs outputs lead p first (listed_at p (part_class p first)).options
  pub same_class : (f f' : ℕ) → f < 2 ^ leading inputs outputs lead → f' < 2 ^ leading inputs outputs lead → (listed_at p (part_class p f)).options ≡ (listed_at p (part_class p f')).options → part_class p f ≡ part_class p f'
  pub class_least : (c : ℕ) → c < length p.classes.items → part_class p (listed_at p c).least ≡ c
  pub class_before : (c first : ℕ) → c < length p.classes.items → first < (listed_at p c).least → part_class p first < c
