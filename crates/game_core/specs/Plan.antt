-- Lists of actions, and the classes that a solver has to try.
use Rattle.std.specs.Prelude.{◌≡◌, ℕ, ℤ, ◌<◌, ◌≤◌, Bool, true, false, List, length, Vec}
use Rattle.std.specs.List.{All, list_any, list_all}
use Rattle.std.specs.declared.alloc.Global.{Global}
use Rattle.word_core.specs.declared.names.Kind.{Kind}
use Rattle.word_core.specs.declared.names.Kind.TheVariants.{First, Second}
use Rattle.game_form.specs.Game.{GameData, ClassData, action_at, row_at, lanes}
use Rattle.game_form.specs.Vector.{number}
use Rattle.cpre_step.specs.Refinement.{action_works}

-- each number is an action, of so many
abbrev pub AreActions : ℕ → List ℕ → Type 0
AreActions count = All (λ a. a < count)

-- under none of these actions the successor of f is at or below an entry
abbrev pub NoneWorks : GameData → List (List ℤ) → List ℤ → List ℕ → Type 0
NoneWorks g vectors f options = All (λ a. action_works g vectors f a ≡ false) options

-- no number of action a is above that of action b
abbrev pub IsAtMost : GameData → ℕ → ℕ → Type 0
IsAtMost g a b = (q p : ℕ) → q < lanes g → number (row_at (action_at g a) q) p ≤ number (row_at (action_at g b) q) p

-- option b needn't be tried where option a is
abbrev pub replaces_by : Kind → GameData → ℕ → ℕ → Type 0
replaces_by First g a b = IsAtMost g b a
replaces_by Second g a b = IsAtMost g a b

abbrev pub Replaces : GameData → ℕ → ℕ → Type 0
Replaces g a b = replaces_by g.kind g a b

-- an action passes the test where one that it replaces does
pub record Respects (g : GameData) (test : ℕ → Bool) : Type 0 where
  pub passes : (a b : ℕ) → a < length g.actions → b < length g.actions → Replaces g a b → test b ≡ true → test a ≡ true

-- some option of each class passes the test
abbrev pub each_planned : (ℕ → Bool) → List (Vec ℕ Global) → Bool
each_planned test plan = list_all (λ c. list_any test c.items) plan

abbrev pub each_class : (ℕ → Bool) → List ClassData → Bool
each_class test classes = list_all (λ c. list_any (λ o. test o.0) c.options) classes

-- lists of actions that stand for the classes of the game
pub record IsPlan (g : GameData) (plan : List (Vec ℕ Global)) : Type 0 where
  pub actions : All (λ c. AreActions (length g.actions) c.items) plan
  pub same : (test : ℕ → Bool) → Respects g test → each_planned test plan ≡ each_class test g.classes
