-- Predecessors by classes and options, and what is left below a vector.
use Rattle.std.specs.Prelude.{◌≡◌, ℕ, ℤ, Bool, ◌&&◌, List}
use Rattle.std.specs.List.{list_any, list_all, AllByRecursion}
use Rattle.word_core.specs.declared.names.Kind.{Kind}
use Rattle.word_core.specs.declared.names.Kind.TheVariants.{First, Second}
use Rattle.game_form.specs.Game.{GameData, ClassData}
use Rattle.game_form.specs.Vector.{IsVector, successor}
use Rattle.antichain_list.specs.Antichain.{IsAntichain, covered}
use Rattle.counter_vec.specs.Counters.{at_or_below, lexicographic}

-- every entry is a vector of the game
abbrev pub AreVectors : GameData → List (List ℤ) → Type 0
AreVectors g list = AllByRecursion (IsVector g) list

-- under an action the successor of u is at or below an entry
abbrev pub action_works : GameData → List (List ℤ) → List ℤ → ℕ → Bool
action_works g list u a = covered at_or_below (successor g a u) list

-- some option of the class works, and all do
abbrev pub some_works : GameData → List (List ℤ) → List ℤ → ClassData → Bool
some_works g list u c = list_any (λ o. action_works g list u o.0) c.options

abbrev pub all_work : GameData → List (List ℤ) → List ℤ → ClassData → Bool
all_work g list u c = list_all (λ o. action_works g list u o.0) c.options

-- kind First: all options of some class work; kind Second: some option of every class works
abbrev pub answers_by : Kind → GameData → List (List ℤ) → List ℤ → Bool
answers_by First g list u = list_any (λ c. all_work g list u c) g.classes
answers_by Second g list u = list_all (λ c. some_works g list u c) g.classes

-- from u the player can answer one step so that the successor is at or below an entry
abbrev pub answers : GameData → List (List ℤ) → List ℤ → Bool
answers g list u = answers_by g.kind g list u

-- exactly the maximal vectors at or below f from which the player can answer, ascending
pub record AreLeft (g : GameData) (list : List (List ℤ)) (f : List ℤ) (left : List (List ℤ)) : Type 0 where
  pub vectors : AreVectors g left
  pub antichain : IsAntichain at_or_below lexicographic left
  pub covers : (u : List ℤ) → IsVector g u → covered at_or_below u left ≡ (at_or_below u f && answers g list u)
