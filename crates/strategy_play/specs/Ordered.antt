-- Games whose classes and options are in the order of their valuations.
use Rattle.std.specs.Prelude.{◌≡◌, ℕ, ◌<◌, ◌≤◌, ◌^◌, length}
use Rattle.word_core.specs.declared.names.Kind.{Kind}
use Rattle.word_core.specs.declared.names.Kind.TheVariants.{First, Second}
use Rattle.game_form.specs.Game.{GameData, class_at, option_at, class_of, action_of, own_width, other_width}

-- no own valuation is below the least one of its class
abbrev pub HasLeastValuations : GameData → Type 0
HasLeastValuations g = (own : ℕ) → own < 2 ^ own_width g → (class_at g (class_of g own)).least ≤ own

-- classes ascend by their least valuations
abbrev pub HasAscendingClasses : GameData → Type 0
HasAscendingClasses g = (i j : ℕ) → i ≤ j → j < length g.classes → (class_at g i).least ≤ (class_at g j).least

-- each letter has the action of an option of its class with no greater valuation
abbrev pub HasLeastOptions : GameData → Type 0
HasLeastOptions g =
    (own other : ℕ) → own < 2 ^ own_width g → other < 2 ^ other_width g
    → (i : ℕ) × (i < length (class_at g (class_of g other)).options) × ((option_at (class_at g (class_of g other)) i).0 ≡ action_of g own other) × ((option_at (class_at g (class_of g other)) i).1 ≤ own)

-- the options of a class ascend by their valuations
abbrev pub HasAscendingOptions : GameData → Type 0
HasAscendingOptions g = (c i j : ℕ) → c < length g.classes → i ≤ j → j < length (class_at g c).options → (option_at (class_at g c) i).1 ≤ (option_at (class_at g c) j).1

abbrev pub order_of : Kind → GameData → Type 0
order_of First g = HasLeastValuations g × HasAscendingClasses g
order_of Second g = HasLeastOptions g × HasAscendingOptions g

abbrev pub IsInOrder : GameData → Type 0
IsInOrder g = order_of g.kind g
