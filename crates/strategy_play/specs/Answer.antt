-- What the player does in an entry, where `next` says where actions lead from it.
use Rattle.std.specs.Prelude.{◌≡◌, ℕ, ◌<◌, ◌^◌, List, length, Option, Some}
use Rattle.std.specs.Option.{IsSomeAnd}
use Rattle.word_core.specs.declared.names.Kind.{Kind}
use Rattle.word_core.specs.declared.names.Kind.TheVariants.{First, Second}
use Rattle.word_core.specs.declared.machines.Line.{Line}
use Rattle.word_core.specs.Machine.{choice}
use Rattle.game_form.specs.Game.{GameData, class_at, class_of, action_of, option_at, other_width}
use Rattle.strategy_play.specs.Lead.{pick, leader}

-- kind First: the least valuation of the first class all of whose options lead to an entry, and the entry to which
-- the action leads, where an option of the class has it
pub record IsFirstAnswer (g : GameData) (next : ℕ → Option ℕ) (other own entry : ℕ) : Type 0 where
  pub place : ℕ
  pub leads : leader next g.classes ≡ Some place
  pub own_is : own ≡ (class_at g place).least
  pub entry_is : (i : ℕ) → i < length (class_at g place).options → (option_at (class_at g place) i).0 ≡ action_of g own other → next (action_of g own other) ≡ Some entry

-- kind Second: the first option of the class that leads to an entry
abbrev pub answer_of : Kind → GameData → (ℕ → Option ℕ) → ℕ → ℕ → ℕ → Type 0
answer_of First g next other own entry = IsFirstAnswer g next other own entry
answer_of Second g next other own entry = pick next (class_at g (class_of g other)).options ≡ Some (own, entry)

abbrev pub IsAnswer : GameData → (ℕ → Option ℕ) → ℕ → ℕ → ℕ → Type 0
IsAnswer g next other own entry = answer_of g.kind g next other own entry

-- the line that decides at a valuation of the other is the answer; what it leads to stands for an entry
abbrev pub Answers : GameData → (ℕ → Option ℕ) → (ℕ → ℕ) → List Line → Type 0
Answers g next entry_of lines = (other : ℕ) → other < 2 ^ other_width g → IsSomeAnd (choice lines other) (λ l. IsAnswer g next other l.own (entry_of l.next))
