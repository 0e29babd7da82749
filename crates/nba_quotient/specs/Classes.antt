-- Classes of states.
use Rattle.std.specs.Prelude.{◌≡◌, ℕ, ◌+◌, ◌<◌, ◌≤◌, ◌^◌, max, List, length, take, fold}
use Rattle.std.specs.List.{All}
use Rattle.word_core.specs.Automaton.{AutomatonData}
use Rattle.nba_quotient.specs.declared.classes.Classes.{Classes}
use Rattle.nba_quotient.specs.Ways.{class_at, Within}

-- how many classes there are, if they are numbered by their first states
abbrev pub known : List ℕ → ℕ
known of = fold (λ n c. max n (c + 1)) 0 of

-- each class is one of an earlier state, or the next one
abbrev pub AreOrdered : List ℕ → Type 0
AreOrdered of = (s : ℕ) → s < length of → class_at of s ≤ known (take s of)

-- a class for each of so many states, fewer than 2^32, and a state of each class
pub record AreClasses (count : ℕ) (c : Classes) : Type 0 where
  pub small : count < 2 ^ 32
  pub each : length c.of.items ≡ count
  pub few : length c.leasts.items ≤ count
  pub classes : All (λ n. n < length c.leasts.items) c.of.items
  pub leasts : All (λ q. q < count) c.leasts.items
  pub own : (s : ℕ) → s < count → class_at c.of.items (class_at c.leasts.items (class_at c.of.items s)) ≡ class_at c.of.items s
  pub ordered : AreOrdered c.of.items
  pub counted : known c.of.items ≡ length c.leasts.items

-- the states of one class have the same edges, up to classes
abbrev pub AreStable : AutomatonData → Classes → Type 0
AreStable a c =
    (s t : ℕ) → s < length a.states → t < length a.states → class_at c.of.items s ≡ class_at c.of.items t → Within a c.of.items s t
