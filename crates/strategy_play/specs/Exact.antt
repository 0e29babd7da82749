-- The machine of a list of vectors in terms of single valuations, without classes, options and actions.
use Rattle.std.specs.Prelude.{◌≡◌, ℕ, ◌<◌, ◌^◌, ℤ, List, [], length, take, Option, Some, slice_index, slice_index_or}
use Rattle.std.specs.List.{All, Contains, flat_map}
use Rattle.std.specs.Option.{IsSome, IsSomeAnd}
use Rattle.word_core.specs.declared.names.Kind.{Kind}
use Rattle.word_core.specs.declared.names.Kind.TheVariants.{First, Second}
use Rattle.word_core.specs.declared.machines.Line.{Line}
use Rattle.word_core.specs.Machine.{choice}
use Rattle.game_form.specs.Game.{GameData, action_of, own_width, other_width}
use Rattle.game_form.specs.Vector.{initial, successor}
use Rattle.strategy_play.specs.Lead.{place_above}
use Rattle.strategy_play.specs.Splitting.{AreSplit}
use Rattle.strategy_play.specs.Strategy.{entry_of_state}
use Rattle.strategy_play.specs.Walk.{InTurn, nexts_of}

-- the place of the first entry at or above the successor of f under a letter
abbrev pub led_to : GameData → List (List ℤ) → List ℤ → ℕ → ℕ → Option ℕ
led_to g entries f own other = place_above entries (successor g (action_of g own other) f)

-- kind First: at every valuation of the other an own valuation leads at or below an entry; kind Second: at this one
abbrev pub stays_by : Kind → GameData → List (List ℤ) → List ℤ → ℕ → ℕ → Type 0
stays_by First g entries f other own = (x : ℕ) → x < 2 ^ other_width g → IsSome (led_to g entries f own x)
stays_by Second g entries f other own = IsSome (led_to g entries f own other)

abbrev pub Stays : GameData → List (List ℤ) → List ℤ → ℕ → ℕ → Type 0
Stays g entries f other own = stays_by g.kind g entries f other own

-- the least own valuation that stays, and the entry to which it leads
pub record IsLeast (g : GameData) (entries : List (List ℤ)) (f : List ℤ) (other own entry : ℕ) : Type 0 where
  pub within : own < 2 ^ own_width g
  pub stays : Stays g entries f other own
  pub least : (x : ℕ) → x < own → Stays g entries f other x → ⊥
  pub leads : led_to g entries f own other ≡ Some entry

-- each state is an entry, no two are the same one, the first is the first entry at or above the initial vector; at each
-- valuation of the other a state has the least own valuation that stays, and goes on to the entry to which it leads; its lines
-- are the splitting of what they decide; states are numbered breadth first: line by line of state by state each next is a
-- number before, or the next number, and each state but the first is the next of a line of a state before it
pub record IsMachineOfList (g : GameData) (entries : List (List ℤ)) (states : List (List Line)) : Type 0 where
  pub order : List ℕ
  pub count : length order ≡ length states
  pub within : All (λ e. e < length entries) order
  pub once : (i j : ℕ) → i < length order → j < length order → slice_index order i ≡ slice_index order j → i ≡ j
  pub first : place_above entries (initial g) ≡ Some (slice_index order 0)
  pub choices : (s other : ℕ) → s < length states → other < 2 ^ other_width g
      → IsSomeAnd (choice (slice_index_or states s []) other) (λ l. IsLeast g entries (entry_of_state entries order s) other l.own (slice_index order l.next))
  pub lines : All (AreSplit (other_width g)) states
  pub breadth_first : InTurn 1 (flat_map nexts_of states) (length states)
  pub met : (s : ℕ) → 0 < s → s < length states → Contains (flat_map nexts_of (take s states)) s
