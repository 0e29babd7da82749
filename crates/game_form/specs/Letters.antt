-- Games whose classes and options are those of their letters.
use Rattle.std.specs.Prelude.{◌≡◌, ℕ, ◌<◌, ◌^◌, length}
use Rattle.word_core.specs.declared.names.Kind.{Kind}
use Rattle.word_core.specs.declared.names.Kind.TheVariants.{First, Second}
use Rattle.game_form.specs.Game.{GameData, class_at, option_at, class_of, action_of, other_width}

-- kind First: each letter with the least valuation of a class has the action of one of its options; kind Second:
-- each option of a valuation's class is the action of the letter with the option's valuation
abbrev pub letters_of : Kind → GameData → Type 0
letters_of First g =
    (place other : ℕ) → place < length g.classes → other < 2 ^ other_width g
    → (i : ℕ) × (i < length (class_at g place).options) × ((option_at (class_at g place) i).0 ≡ action_of g (class_at g place).least other)
letters_of Second g =
    (other i : ℕ) → other < 2 ^ other_width g → i < length (class_at g (class_of g other)).options
    → (option_at (class_at g (class_of g other)) i).0 ≡ action_of g (option_at (class_at g (class_of g other)) i).1 other

abbrev pub HasLetters : GameData → Type 0
HasLetters g = letters_of g.kind g
