-- The product of a machine and an automaton.
use Rattle.std.specs.Prelude.{◌≡◌, ℕ, ◌/◌, ◌%◌, ◌<◌, ◌^◌, true, List, [], length, take, slice_index_or, Some, None, bit_and, bit_or, slice_get, Bool}
use Rattle.std.specs.List.{All, Contains}
use Rattle.word_core.specs.declared.cubes.Cube.{Cube}
use Rattle.word_core.specs.declared.automata.Edge.{Edge}
use Rattle.word_core.specs.declared.machines.Line.{Line}
use Rattle.word_core.specs.declared.names.Player.{Player}
use Rattle.word_core.specs.declared.names.Player.TheVariants.{System, Environment}
use Rattle.word_core.specs.Automaton.{AutomatonData, edges_at}
use Rattle.word_core.specs.Cube.{holds}
use Rattle.word_core.specs.Machine.{MachineData, lines_at, choice, other_of}
use Rattle.word_core.specs.Play.{letter_of}
use Rattle.witness_check.specs.declared.products.Node.{Node}
use Rattle.witness_check.specs.declared.products.Arc.{Arc}

-- a state of each of the two
abbrev pub IsNode : ℕ → ℕ → Node → Type 0
IsNode states places n = (n.state < states) × (n.place < places)

-- an arc that leads to one of so many nodes
abbrev pub LeadsWithin : ℕ → Arc → Type 0
LeadsWithin count arc = arc.to < count

-- the part of a cube of letters for the player's own signals
abbrev pub own_side : Player → ℕ → Cube → Cube
own_side System inputs c = record { care = c.care / 2 ^ inputs; want = c.want / 2 ^ inputs }
own_side Environment inputs c = record { care = c.care % 2 ^ inputs; want = c.want % 2 ^ inputs }

-- and for the other's
abbrev pub other_side : Player → ℕ → Cube → Cube
other_side System inputs c = record { care = c.care % 2 ^ inputs; want = c.want % 2 ^ inputs }
other_side Environment inputs c = record { care = c.care / 2 ^ inputs; want = c.want / 2 ^ inputs }

-- the cube of what two cubes hold, where they agree
abbrev pub joined_of : Cube → Cube → Cube
joined_of a b = record { care = bit_or a.care b.care; want = bit_or a.want b.want }

-- an edge holds a letter that a line decides: with the line's own part, and an other part that no earlier line holds
abbrev pub IsTaken : MachineData → Edge → Line → List Line → Type 0
IsTaken m e l earlier =
    (x : ℕ) × (x < 2 ^ other_of m) × (holds l.when x ≡ true) × (choice earlier x ≡ None) × (holds e.cube (letter_of m.player m.inputs (record { own = l.own; other = x })) ≡ true)

-- the want of a cube is a part of its care
abbrev pub IsPart : Cube → Type 0
IsPart c = bit_and c.want c.care ≡ c.want

-- some valuation is held by two cubes and by none of the lines
abbrev pub HasGap : Cube → Cube → List Line → Type 0
HasGap a b lines = (x : ℕ) × (holds a x ≡ true) × (holds b x ≡ true) × (choice lines x ≡ None)

-- no two of the lines hold a valuation in common: what one holds no earlier one does
abbrev pub AreApart : List Line → Type 0
AreApart lines =
    (i : ℕ) (l : Line) → slice_get lines i ≡ Some l → (x : ℕ) → holds l.when x ≡ true → choice (take i lines) x ≡ None

-- a step of the product: an edge of the automaton takes a letter that a line of the machine decides
pub record IsStep (a : AutomatonData) (m : MachineData) (n n' : Node) (marked : Bool) : Type 0 where
  pub number : ℕ
  pub line : Line
  pub edge : Edge
  pub stands : slice_get (lines_at m n.state) number ≡ Some line
  pub leaves : Contains (edges_at a n.place) edge
  pub taken : IsTaken m edge line (take number (lines_at m n.state))
  pub ends : n' ≡ record { state = line.next; place = edge.next }
  pub mark : marked ≡ edge.marked

-- an arc from a node is a step to the node of its number
abbrev pub IsArc : AutomatonData → MachineData → List Node → Node → Arc → Type 0
IsArc a m keys n arc = (n' : Node) × (slice_get keys arc.to ≡ Some n') × IsStep a m n n' arc.marked

-- some arc leads to a node with a mark
abbrev pub HasArc : List Node → List Arc → Node → Bool → Type 0
HasArc keys arcs n' marked = (arc : Arc) × Contains arcs arc × (slice_get keys arc.to ≡ Some n') × (arc.marked ≡ marked)

-- the arcs of a node are its steps
pub record AreArcs (a : AutomatonData) (m : MachineData) (keys : List Node) (n : Node) (arcs : List Arc) : Type 0 where
  pub sound : All (IsArc a m keys n) arcs
  pub whole : (n' : Node) (marked : Bool) → IsStep a m n n' marked → HasArc keys arcs n' marked

-- every node keeps its number
abbrev pub Extends : List Node → List Node → Type 0
Extends keys keys' = (i : ℕ) (n : Node) → slice_get keys i ≡ Some n → slice_get keys' i ≡ Some n

-- the product, as far as it is reached from state 0 and the first state
pub record IsProduct (a : AutomatonData) (m : MachineData) (init : ℕ) (keys : List Node) (arcs : List (List Arc)) : Type 0 where
  pub first : slice_get keys 0 ≡ Some (record { state = 0; place = init })
  pub counted : length arcs ≡ length keys
  pub each : (i : ℕ) (n : Node) → slice_get keys i ≡ Some n → AreArcs a m keys n (slice_index_or arcs i [])
