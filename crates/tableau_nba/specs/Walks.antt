-- Tableaus: states are sets of formulas with levels, numbered breadth first.
use Rattle.std.specs.Prelude.{ℕ, zero, suc, ◌+◌, ◌^◌, Bool, true, false, ◌&&◌, if◌then◌else◌, nat_eq, nat_le, bit_or, List, [], ◌∷◌, length, map, fold, drop, Option, Some, None, slice_get}
use Rattle.std.specs.List.{filter, flat_map, position_or_len, range_with_len}
use mathlib.Core.Bool.{beq}
use Rattle.indexmap.specs.IndexSet.{insert_all}
use Rattle.ltl_form.specs.declared.normals.Node.{Node}
use Rattle.ltl_form.specs.declared.normals.Node.TheVariants.{Lit, Until}
use Rattle.word_core.specs.declared.automata.Edge.{Edge}
use Rattle.word_core.specs.declared.cubes.Cube.{Cube}
use Rattle.word_core.specs.Automaton.{AutomatonData}
use Rattle.cover_sets.specs.Bits.{set_of}
use Rattle.cover_sets.specs.Cover.{TableData, covers_in, table_of}
use Rattle.cover_sets.specs.Covers.{CoverSets, Row, node_at}
use Rattle.cover_sets.specs.Numbers.{has}
use Rattle.tableau_nba.specs.declared.cubes.Literal.{Literal}
use Rattle.tableau_nba.specs.declared.places.Place.{Place}
use Rattle.tableau_nba.specs.Tableau.{WalkData}

-- a set of formulas that hold from here on, and a level
pub record Spot : Type 0 where
  pub set : ℕ
  pub level : ℕ

abbrev pub spot_of : Place → Spot
spot_of p = record { set = set_of p.set; level = p.level }

abbrev pub same_spot : Spot → Spot → Bool
same_spot a b = nat_eq a.set b.set && nat_eq a.level b.level

-- ---- what is looked up

abbrev pub is_until : Node → Bool
is_until (Until f g) = true
is_until _ = false

-- the numbers of the untils, ascending
abbrev pub untils_in : List Node → List ℕ
untils_in nodes = filter (λ n. is_until (node_at nodes n)) (range_with_len 0 (length nodes))

abbrev pub literal_at : ℕ → Node → List Literal
literal_at n (Lit signal positive) = record { number = n; signal = signal; positive = positive } ∷ []
literal_at n _ = []

-- the literals with their numbers
abbrev pub literals_in : List Node → List Literal
literals_in nodes = flat_map (λ n. literal_at n (node_at nodes n)) (range_with_len 0 (length nodes))

abbrev pub walker_of : TableData → List Literal → List ℕ → ℕ → WalkData
walker_of table literals untils signals = record { table = table; literals = literals; untils = untils; signals = signals }

abbrev pub walk_data : List Node → ℕ → WalkData
walk_data nodes signals = walker_of (table_of nodes) (literals_in nodes) (untils_in nodes) signals

-- ---- the edge of a cover

-- how many untils in a row are not put off
abbrev pub met : List ℕ → ℕ → ℕ
met [] postponed = 0
met (u ∷ us) postponed = if has postponed u then 0 else suc (met us postponed)

-- the level rises as long as the next until is not put off
abbrev pub risen : List ℕ → ℕ → CoverSets → ℕ
risen untils level c = level + met (drop level untils) c.postponed

-- past the last until the edge is marked
abbrev pub is_marked : List ℕ → ℕ → CoverSets → Bool
is_marked untils level c = nat_le (length untils) (risen untils level c)

-- where the edge leads: with a mark the level is 0 again
abbrev pub target : List ℕ → ℕ → CoverSets → Spot
target untils level c = record { set = c.next; level = if is_marked untils level c then 0 else risen untils level c }

abbrev pub with_literal : Cube → Literal → Cube
with_literal cube l = record { care = bit_or cube.care (2 ^ l.signal); want = if l.positive then bit_or cube.want (2 ^ l.signal) else cube.want }

-- the letters that meet the literals in a set
abbrev pub cube_in : List Literal → ℕ → Cube
cube_in literals set = fold (λ cube l. if has set l.number then with_literal cube l else cube) (record { care = 0; want = 0 }) literals

abbrev pub edge_in : List Literal → List ℕ → List Spot → ℕ → CoverSets → Edge
edge_in literals untils spots level c = record {
  cube = cube_in literals c.literals;
  next = position_or_len (same_spot (target untils level c)) spots;
  marked = is_marked untils level c;
}

abbrev pub same_edge : Edge → Edge → Bool
same_edge a b = (nat_eq a.cube.care b.cube.care && nat_eq a.cube.want b.cube.want) && (nat_eq a.next b.next && beq a.marked b.marked)

-- the different edges of these covers, in their order
abbrev pub edges_in : List Literal → List ℕ → List Spot → ℕ → List CoverSets → List Edge
edges_in literals untils spots level list = insert_all same_edge [] (map (edge_in literals untils spots level) list)

-- ---- the walk

-- the places with those to which the covers lead
abbrev pub grown : List ℕ → ℕ → List CoverSets → List Spot → List Spot
grown untils level list spots = insert_all same_spot spots (map (target untils level) list)

pub data Outcome : Type 0 where
  found : List Spot → Outcome
  too_wide : Outcome
  too_many : Outcome

-- behind a state whose set has this list of covers
abbrev pub behind : (List Spot → Outcome) → WalkData → ℕ → List Spot → Row → Outcome
behind rest walker level spots None = too_wide
behind rest walker level spots (Some list) = if nat_le (length (grown walker.untils level list spots)) 4096 then rest (grown walker.untils level list spots) else too_many

-- from the state with a number, if there is one
abbrev pub from_state : (List Spot → Outcome) → WalkData → List Spot → Option Spot → Outcome
from_state rest walker spots None = found spots
from_state rest walker spots (Some s) = behind rest walker s.level spots (covers_in walker.table s.set)

-- the states from the one numbered `at` on, at most n of them, each with the places to which its covers lead
unfoldable pub walk : WalkData → ℕ → ℕ → List Spot → Outcome
walk walker zero at spots = found spots
walk walker (suc n) at spots = from_state (walk walker n (at + 1)) walker spots (slice_get spots at)

-- from the formula with this number alone, at level 0
abbrev pub first_spot : ℕ → Spot
first_spot root = record { set = 2 ^ root; level = 0 }

abbrev pub all_spots : WalkData → ℕ → Outcome
all_spots walker root = walk walker 4096 0 (first_spot root ∷ [])

abbrev pub list_in : Row → List CoverSets
list_in None = []
list_in (Some list) = list

-- the edges of a state
abbrev pub state_in : WalkData → List Spot → Spot → List Edge
state_in walker spots s = edges_in walker.literals walker.untils spots s.level (list_in (covers_in walker.table s.set))

-- the automaton of these states
abbrev pub automaton_in : WalkData → List Spot → AutomatonData
automaton_in walker spots = record { signals = walker.signals; states = map (state_in walker spots) spots; init = Some 0 }
