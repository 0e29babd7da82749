-- Steps and arcs under a growing list of nodes.
use Rattle.std.proofs.Common.{◌≡◌, ℕ, ◌+◌, ◌<◌, ◌≤◌, ◌⊎◌, Bool, true, List, [], ◌∷◌, ◌++◌, length, get_or, take, Some, refl, sym, ap, subst, ◌∙◌, inl, inr, arith}
use Rattle.std.specs.Prelude.{slice_get}
use Rattle.std.specs.List.{All, Contains}
use Rattle.std.proofs.lemmas.List.Elements.{All-push, Contains-append_left, Contains-get_or}
use Rattle.std.proofs.lemmas.Option.{slice_get-get_or, slice_get_within, get_or_from_slice_get, same_Some}
use Rattle.std.proofs.lemmas.List.{get_or_append_left, get_or_push}
use Rattle.std.proofs.lemmas.Bool.{cases_lt}
use Rattle.word_core.specs.declared.automata.Edge.{Edge}
use Rattle.word_core.specs.declared.machines.Line.{Line}
use Rattle.word_core.specs.Automaton.{AutomatonData, edges_at}
use Rattle.word_core.specs.Cube.{holds}
use Rattle.word_core.specs.Machine.{MachineData, choice, lines_at}
use Rattle.witness_check.specs.declared.products.Node.{Node}
use Rattle.witness_check.specs.declared.products.Arc.{Arc}
use Rattle.witness_check.specs.Product.{IsNode, IsTaken, IsStep, IsArc, HasArc, AreArcs, Extends}

pub extends_self : (keys : List Node) → Extends keys keys
extends_self keys = λ i n e. e

pub extends_more : (k k' k'' : List Node) → Extends k k' → Extends k' k'' → Extends k k''
extends_more k k' k'' h g = λ i n e. g i n (h i n e)

pub extends_arc : (a : AutomatonData) (m : MachineData) (k k' : List Node) (n : Node) (arc : Arc) → Extends k k' → IsArc a m k n arc → IsArc a m k' n arc
extends_arc a m k k' n arc h x = (x.0, h arc.to x.0 x.1, x.2)

pub extends_arcs : (a : AutomatonData) (m : MachineData) (k k' : List Node) (n : Node) (arcs : List Arc) → Extends k k' → All (IsArc a m k n) arcs → All (IsArc a m k' n) arcs
extends_arcs a m k k' n arcs h all = λ i d l. extends_arc a m k k' n (get_or arcs i d) h (all i d l)

pub extends_has : (k k' : List Node) (arcs : List Arc) (n : Node) (b : Bool) → Extends k k' → HasArc k arcs n b → HasArc k' arcs n b
extends_has k k' arcs n b h x = (x.0, x.1, h x.0.to n x.2, x.3)

pub are_arcs_extend : (a : AutomatonData) (m : MachineData) (k k' : List Node) (n : Node) (arcs : List Arc) → Extends k k' → AreArcs a m k n arcs → AreArcs a m k' n arcs
are_arcs_extend a m k k' n arcs h x = record {
  sound = extends_arcs a m k k' n arcs h x.sound;
  whole = λ n' b s. extends_has k k' arcs n' b h (x.whole n' b s);
}

-- an arc added, or found
abbrev Added : List Arc → List Arc → Arc → Type 0
Added old new arc = (new ≡ old) ⊎ (new ≡ old ++ arc ∷ [])

pub added_all : (P : Arc → Type 0) (old new : List Arc) (arc : Arc) → (new ≡ old) ⊎ (new ≡ old ++ arc ∷ []) → P arc → All P old → All P new
added_all P old new arc (inl e) p all = subst (All P) (sym e) all
added_all P old new arc (inr e) p all = subst (All P) (sym e) (All-push P old arc all p)

pub added_kept : (old new : List Arc) (arc b : Arc) → (new ≡ old) ⊎ (new ≡ old ++ arc ∷ []) → Contains old b → Contains new b
added_kept old new arc b (inl e) c = subst (λ xs. Contains xs b) (sym e) c
added_kept old new arc b (inr e) c = subst (λ xs. Contains xs b) (sym e) (Contains-append_left old (arc ∷ []) b c)

pub added_has : (k : List Node) (old new : List Arc) (arc : Arc) (n : Node) (b : Bool) → (new ≡ old) ⊎ (new ≡ old ++ arc ∷ []) → HasArc k old n b → HasArc k new n b
added_has k old new arc n b s x = (x.0, added_kept old new arc x.0 s x.1, x.2, x.3)

-- what is taken depends on the earlier lines alone where the line holds
pub taken_same : (m : MachineData) (e : Edge) (l : Line) (earlier earlier' : List Line) → ((x : ℕ) → holds l.when x ≡ true → choice earlier x ≡ choice earlier' x) → IsTaken m e l earlier → IsTaken m e l earlier'
taken_same m e l earlier earlier' same t = (t.0, t.1, t.2, sym (same t.0 t.2) ∙ t.3, t.4)

pub same_back : (l : Line) (a b : List Line) → ((x : ℕ) → holds l.when x ≡ true → choice a x ≡ choice b x) → (x : ℕ) → holds l.when x ≡ true → choice b x ≡ choice a x
same_back l a b same x h = sym (same x h)

-- an element at a place, which is contained
pub contains_at : {X : Type 0} (xs : List X) (i : ℕ) (x : X) → slice_get xs i ≡ Some x → Contains xs x
contains_at xs i x e = (i, slice_get_within xs i x e, get_or_from_slice_get xs i x x e)

pub place_of : {X : Type 0} (xs : List X) (x : X) → Contains xs x → (i : ℕ) × (i < length xs) × (slice_get xs i ≡ Some x)
place_of xs x c = (c.0, c.1, slice_get-get_or xs c.0 x c.1 ∙ ap Some c.2)

-- what the loop over the edges of one line knows
module _ (a : AutomatonData) (m : MachineData) (node : Node) (number : ℕ) (lines : List Line) (edges : List Edge) (earlier : List Line) (dl : Line) (de : Edge) (is_lines : lines ≡ lines_at m node.state) (is_edges : edges ≡ edges_at a node.place) (in_lines : number < length lines) (same : (l : Line) → slice_get (lines_at m node.state) number ≡ Some l → (x : ℕ) → holds l.when x ≡ true → choice earlier x ≡ choice (take number (lines_at m node.state)) x) where
  abbrev this : Line
  this = get_or lines number dl

  stands : slice_get (lines_at m node.state) number ≡ Some this
  stands = subst (λ ls. slice_get ls number ≡ Some this) is_lines (slice_get-get_or lines number dl in_lines)

  -- a taken edge is a step
  pub step_of : (i : ℕ) → i < length edges → IsTaken m (get_or edges i de) (get_or lines number dl) earlier → IsStep a m node (record { state = (get_or lines number dl).next; place = (get_or edges i de).next }) (get_or edges i de).marked
  step_of i h t = record {
    number = number;
    line = get_or lines number dl;
    edge = get_or edges i de;
    stands = stands;
    leaves = subst (λ es. Contains es (get_or edges i de)) is_edges (Contains-get_or edges i de h);
    taken = taken_same m (get_or edges i de) (get_or lines number dl) earlier (take number (lines_at m node.state)) (same (get_or lines number dl) stands) t;
    ends = refl;
    mark = refl;
  }

  -- the edge at a place
  pub edge_at : (i : ℕ) (e : Edge) → slice_get (edges_at a node.place) i ≡ Some e → get_or edges i de ≡ e
  edge_at i e s = get_or_from_slice_get edges i e de (subst (λ es. slice_get es i ≡ Some e) (sym is_edges) s)

  -- every edge that the line takes is among those seen
  pub seen_whole : (keys : List Node) (list : List Arc) (i : ℕ) → length edges ≤ i → ((k : ℕ) (e : Edge) → k < i → slice_get (edges_at a node.place) k ≡ Some e → IsTaken m e (get_or lines number dl) earlier → HasArc keys list (record { state = (get_or lines number dl).next; place = e.next }) e.marked) → (l : Line) (e : Edge) → slice_get (lines_at m node.state) number ≡ Some l → Contains (edges_at a node.place) e → IsTaken m e l (take number (lines_at m node.state)) → HasArc keys list (record { state = l.next; place = e.next }) e.marked
  seen_whole keys list i h seen l e s c t =
      let same_line : get_or lines number dl ≡ l = get_or_from_slice_get lines number l dl (subst (λ ls. slice_get ls number ≡ Some l) (sym is_lines) s) in
      let p = place_of (edges_at a node.place) e c in
      let q : p.0 < i = omega (arith, ap length is_edges, p.1) in
      let back = same_back l earlier (take number (lines_at m node.state)) (same l s) in
      let t' : IsTaken m e (get_or lines number dl) earlier = subst (λ y. IsTaken m e y earlier) (sym same_line) (taken_same m e l (take number (lines_at m node.state)) earlier back t) in
      subst (λ y. HasArc keys list (record { state = y.next; place = e.next }) e.marked) same_line (seen p.0 e q p.2 t')

-- one more edge: those seen before, and this one
pub seen_edge : (m : MachineData) (keys : List Node) (list : List Arc) (edges : List Edge) (line : Line) (earlier : List Line) (i : ℕ) (here : Edge) → ((e : Edge) → slice_get edges i ≡ Some e → here ≡ e) → ((k : ℕ) (e : Edge) → k < i → slice_get edges k ≡ Some e → IsTaken m e line earlier → HasArc keys list (record { state = line.next; place = e.next }) e.marked) → (IsTaken m here line earlier → HasArc keys list (record { state = line.next; place = here.next }) here.marked) → (k : ℕ) (e : Edge) → k < i + 1 → slice_get edges k ≡ Some e → IsTaken m e line earlier → HasArc keys list (record { state = line.next; place = e.next }) e.marked
seen_edge m keys list edges line earlier i here at seen now k e l s t =
    elim (cases_lt k i) [
      | inl lt ↦ seen k e lt s t
      | inr ge ↦ (let is : k ≡ i = omega arith in
          let same : here ≡ e = at e (subst (λ x. slice_get edges x ≡ Some e) is s) in
          subst (λ y. HasArc keys list (record { state = line.next; place = y.next }) y.marked) same (now (subst (λ y. IsTaken m y line earlier) (sym same) t)))
    ]

-- one more line: those seen before, and this one
pub seen_line : (m : MachineData) (keys : List Node) (list : List Arc) (edges : List Edge) (lines : List Line) (i : ℕ) → ((k : ℕ) (y : Line) (e : Edge) → k < i → slice_get lines k ≡ Some y → Contains edges e → IsTaken m e y (take k lines) → HasArc keys list (record { state = y.next; place = e.next }) e.marked) → ((y : Line) (e : Edge) → slice_get lines i ≡ Some y → Contains edges e → IsTaken m e y (take i lines) → HasArc keys list (record { state = y.next; place = e.next }) e.marked) → (k : ℕ) (y : Line) (e : Edge) → k < i + 1 → slice_get lines k ≡ Some y → Contains edges e → IsTaken m e y (take k lines) → HasArc keys list (record { state = y.next; place = e.next }) e.marked
seen_line m keys list edges lines i seen now k y e l s c t =
    elim (cases_lt k i) [
      | inl lt ↦ seen k y e lt s c t
      | inr ge ↦ (let is : k ≡ i = omega arith in
          now y e (subst (λ x. slice_get lines x ≡ Some y) is s) c (subst (λ x. IsTaken m e y (take x lines)) is t))
    ]

-- the arcs of all lines are all steps
pub all_lines : (a : AutomatonData) (m : MachineData) (keys : List Node) (node : Node) (list : List Arc) (i : ℕ) → length (lines_at m node.state) ≤ i → All (IsArc a m keys node) list → ((k : ℕ) (y : Line) (e : Edge) → k < i → slice_get (lines_at m node.state) k ≡ Some y → Contains (edges_at a node.place) e → IsTaken m e y (take k (lines_at m node.state)) → HasArc keys list (record { state = y.next; place = e.next }) e.marked) → AreArcs a m keys node list
all_lines a m keys node list i h sound whole = record {
  sound = sound;
  whole = λ n' b s.
      (let w = slice_get_within (lines_at m node.state) s.number s.line s.stands in
      let x = whole s.number s.line s.edge (omega arith) s.stands s.leaves s.taken in
      subst (λ n. HasArc keys list n b) (sym s.ends) (subst (HasArc keys list (record { state = s.line.next; place = s.edge.next })) (sym s.mark) x));
}

-- the arcs of one more node
pub each_more : (a : AutomatonData) (m : MachineData) (keys keys' : List Node) (node : Node) (arcs : List (List Arc)) (list : List Arc) (at : ℕ) → Extends keys keys' → length arcs ≡ at → at ≤ length keys → slice_get keys at ≡ Some node → ((i : ℕ) (n : Node) → i < at → slice_get keys i ≡ Some n → AreArcs a m keys n (get_or arcs i [])) → AreArcs a m keys' node list → (i : ℕ) (n : Node) → i < at + 1 → slice_get keys' i ≡ Some n → AreArcs a m keys' n (get_or (arcs ++ list ∷ []) i [])
each_more a m keys keys' node arcs list at ext counted few stands each here i n l s =
    elim (cases_lt i at) [
      | inl lt ↦ (let h : i < length keys = omega arith in
          let old = slice_get-get_or keys i n h in
          let same : get_or keys i n ≡ n = same_Some _ _ (sym (ext i (get_or keys i n) old) ∙ s) in
          let h' : i < length arcs = omega arith in
          let found = subst (λ x. AreArcs a m keys x (get_or arcs i [])) same (each i (get_or keys i n) lt old) in
          subst (AreArcs a m keys' n) (sym (get_or_append_left arcs (list ∷ []) [] i h')) (are_arcs_extend a m keys keys' n (get_or arcs i []) ext found))
      | inr ge ↦ (let is : i ≡ at = omega arith in
          let same : node ≡ n = same_Some _ _ (sym (ext at node stands) ∙ subst (λ x. slice_get keys' x ≡ Some n) is s) in
          let put : get_or (arcs ++ list ∷ []) i [] ≡ list = get_or_push arcs list [] i (omega arith) in
          subst (λ x. AreArcs a m keys' x (get_or (arcs ++ list ∷ []) i [])) same (subst (AreArcs a m keys' node) (sym put) here))
    ]

-- a stored node is in range
pub node_in : (keys : List Node) (at states places : ℕ) (node : Node) → slice_get keys at ≡ Some node → All (IsNode states places) keys → IsNode states places node
node_in keys at states places node e all =
    subst (IsNode states places) (get_or_from_slice_get keys at node node e) (all at node (slice_get_within keys at node e))
