-- Games whose classes have an option for each answer of the second mover.
use Rattle.std.specs.Prelude.{◌≡◌, ℕ, ◌<◌, ◌^◌, length}
use Rattle.word_core.specs.declared.names.Kind.{Kind}
use Rattle.word_core.specs.declared.names.Kind.TheVariants.{First, Second}
use Rattle.game_form.specs.Game.{GameData, class_at, option_at, class_of, action_of, own_width}

-- kind First: each option of an own valuation's class is the action of the letter with the option's valuation; kind
-- Second: each letter with the least valuation of a class has the action of one of its options
abbrev pub covering_of : Kind → GameData → Type 0
covering_of First g =
    (own i : ℕ) → own < 2 ^ own_width g → i < length (class_at g (class_of g own)).options
    → (option_at (class_at g (class_of g own)) i).0 ≡ action_of g own (option_at (class_at g (class_of g own)) i).1
covering_of Second g =
    (place own : ℕ) → place < length g.classes → own < 2 ^ own_width g
    → (i : ℕ) × (i < length (class_at g place).options) × ((option_at (class_at g place) i).0 ≡ action_of g own (class_at g place).least)

abbrev pub CoversLetters : GameData → Type 0
CoversLetters g = covering_of g.kind g
