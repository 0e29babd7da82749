-- Where actions lead: the first entry at or above the successor; and which options lead somewhere.
use Rattle.std.specs.Prelude.{◌≡◌, ℕ, ◌<◌, ℤ, Bool, List, [], ◌∷◌, length, Option, Some, None, slice_index_or}
use Rattle.std.specs.List.{position_from, list_all}
use Rattle.std.specs.Option.{is_some}
use Rattle.counter_vec.specs.Counters.{at_or_below}
use Rattle.game_form.specs.Game.{GameData, ClassData, class_at}
use Rattle.game_form.specs.Vector.{successor}

-- the place of the first entry at or above a vector
abbrev pub place_above : List (List ℤ) → List ℤ → Option ℕ
place_above entries v = position_from (λ e. at_or_below v e) 0 entries

-- where an action leads from f
abbrev pub next_at : GameData → List (List ℤ) → List ℤ → ℕ → Option ℕ
next_at g entries f a = place_above entries (successor g a f)

-- where an action leads by a list of this for all actions
abbrev pub lead : List (Option ℕ) → ℕ → Option ℕ
lead nexts a = slice_index_or nexts a None

-- for each action where it leads from f
pub record AreNexts (g : GameData) (entries : List (List ℤ)) (f : List ℤ) (nexts : List (Option ℕ)) : Type 0 where
  pub count : length nexts ≡ length g.actions
  pub each : (a : ℕ) → a < length g.actions → lead nexts a ≡ next_at g entries f a

-- all that actions lead to is below a number
abbrev pub LeadBelow : ℕ → List (Option ℕ) → Type 0
LeadBelow count nexts = (a n : ℕ) → lead nexts a ≡ Some n → n < count

abbrev pub pick_or : ℕ → Option ℕ → Option (ℕ × ℕ) → Option (ℕ × ℕ)
pick_or own None rest = rest
pick_or own (Some n) rest = Some (own, n)

-- the valuation of the first option that leads to an entry, with the entry
abbrev pub pick : (ℕ → Option ℕ) → List (ℕ × ℕ) → Option (ℕ × ℕ)
pick next [] = None
pick next (o ∷ os) = pick_or o.1 (next o.0) (pick next os)

-- a pick for each class
pub record ArePicks (g : GameData) (next : ℕ → Option ℕ) (picks : List (ℕ × ℕ)) : Type 0 where
  pub count : length picks ≡ length g.classes
  pub each : (c : ℕ) → c < length g.classes → pick next (class_at g c).options ≡ Some (slice_index_or picks c (0, 0))

-- all options lead to an entry
abbrev pub all_lead : (ℕ → Option ℕ) → List (ℕ × ℕ) → Bool
all_lead next options = list_all (λ o. is_some (next o.0)) options

-- the first class all of whose options do
abbrev pub leader : (ℕ → Option ℕ) → List ClassData → Option ℕ
leader next classes = position_from (λ c. all_lead next c.options) 0 classes

-- for each action an entry: where it leads, if it is the action of an option
pub record AreTargets (nexts : List (Option ℕ)) (options : List (ℕ × ℕ)) (targets : List ℕ) : Type 0 where
  pub count : length targets ≡ length nexts
  pub below : (n : ℕ) → 0 < n → LeadBelow n nexts → (a : ℕ) → slice_index_or targets a 0 < n
  pub each : (i : ℕ) → i < length options → lead nexts (slice_index_or options i (0, 0)).0 ≡ Some (slice_index_or targets (slice_index_or options i (0, 0)).0 0)

-- a number for each pick, equal ones exactly for equal picks
pub record AreNumbers (picks : List (ℕ × ℕ)) (numbers : List ℕ) : Type 0 where
  pub count : length numbers ≡ length picks
  pub same : (i j : ℕ) → i < length picks → j < length picks → slice_index_or numbers i 0 ≡ slice_index_or numbers j 0 → slice_index_or picks i (0, 0) ≡ slice_index_or picks j (0, 0)
  pub once : (i j : ℕ) → i < length picks → j < length picks → slice_index_or picks i (0, 0) ≡ slice_index_or picks j (0, 0) → slice_index_or numbers i 0 ≡ slice_index_or numbers j 0
