-- The parts of a game make one.
use Rattle.std.proofs.Common.{◌≡◌, ℕ, zero, ◌+◌, ◌-◌, ◌^◌, ◌<◌, ◌≤◌, ◌⊎◌, inl, inr, List, [], ◌∷◌, length, sym, ◌∙◌, ap, subst, arith}
use Rattle.std.specs.Prelude.{ℤ, pos, ◌≤ℤ◌, slice_get, slice_index_or, Option, Some, None, IfSome}
use Rattle.std.specs.Option.{ForSome}
use Rattle.std.specs.List.{All}
use Rattle.std.proofs.lemmas.Option.{slice_get_cases}
use Rattle.word_core.specs.declared.branches.Branch.{Branch}
use Rattle.word_core.specs.declared.branches.Branch.TheVariants.{Leaf, Split}
use Rattle.word_core.specs.Tree.{IsNodeAt, LabelHas, TestsBelow}
use Rattle.game_form.specs.declared.actions.Step.{Step}
use Rattle.game_form.specs.Tree.{IsTreeOver}
use Rattle.word_core.specs.declared.names.Kind.{Kind}
use Rattle.word_core.specs.declared.names.Kind.TheVariants.{First, Second}
use Rattle.word_core.specs.declared.names.Player.{Player}
use Rattle.word_core.specs.declared.names.Player.TheVariants.{System, Environment}
use Rattle.word_core.specs.Machine.{own_width, other_width}
use Rattle.game_form.specs.Game.{IsGame, IsAction, lanes_of, of_first, of_second, no_class}
use Rattle.action_groups.specs.declared.games.Parts.{Parts}
use Rattle.action_groups.specs.Parts.{AreParts}
use Rattle.action_groups.specs.Part.{AreNodes, IsNodeOver}
use Rattle.action_groups.specs.Row.{AreRows}

node_placed : (width count place : ℕ) (x : Branch) → width ≤ 64 → IsNodeOver width count place x → IsNodeAt place (Some x)
node_placed width count place (Leaf label) le h = tt
node_placed width count place (Split signal low high) le h = (omega (arith, h.0), h.1, h.2)

node_tests : (width count place : ℕ) (x : Branch) → IsNodeOver width count place x → TestsBelow width (Some x)
node_tests width count place (Leaf label) h = tt
node_tests width count place (Split signal low high) h = h.0

node_label : (width count place : ℕ) (x : Branch) → IsNodeOver width count place x → LabelHas (λ l. l < count) (Some x)
node_label width count place (Leaf label) h = h
node_label width count place (Split signal low high) h = tt

-- what holds of each node, and of none, holds at each place
at_places : (P : Option Branch → Type 0) (width count : ℕ) (nodes : List Branch) (place : ℕ) → AreNodes width count nodes → ((x : Branch) → IsNodeOver width count place x → P (Some x)) → P None → P (slice_get nodes place)
at_places P width count nodes place h some none = go (slice_get_cases nodes place).1
  where
    go : ((x : Branch) × (place < length nodes) × (slice_get nodes place ≡ Some x) × (slice_index_or nodes place x ≡ x)) ⊎ ((length nodes ≤ place) × (slice_get nodes place ≡ None)) → P (slice_get nodes place)
    go (inl w) =
        let Q : Branch → Type 0 = λ z. IsNodeOver width count place z in
        subst P (sym w.2) (some w.0 (subst Q w.3 (h place w.0 w.1)))
    go (inr w) = subst P (sym w.1) none

pub placed_nodes : (width count : ℕ) (nodes : List Branch) → width ≤ 64 → AreNodes width count nodes → (place : ℕ) → IsNodeAt place (slice_get nodes place)
placed_nodes width count nodes le h place = at_places (IsNodeAt place) width count nodes place h (λ x k. node_placed width count place x le k) tt

pub tree_over : (width count : ℕ) (nodes : List Branch) → width ≤ 64 → AreNodes width count nodes → 0 < length nodes → IsTreeOver width count nodes
tree_over width count nodes le h some = record {
  tree = record {
    some = some;
    placed = placed_nodes width count nodes le h;
  };
  signals = λ place. at_places (TestsBelow width) width count nodes place h (node_tests width count place) tt;
  labels = λ place. at_places (LabelHas (λ l. l < count)) width count nodes place h (node_label width count place) tt;
}

-- the number of lanes is that of the rows
pub lanes_are : (count : ℕ) (actions : List (List (List Step))) → 0 < length actions → All (AreRows count) actions → lanes_of actions ≡ count
lanes_are count [] some h = absurd (omega arith)
lanes_are count (a ∷ rest) some h = (h zero a (omega arith)).0

pub is_action : (count : ℕ) (rows : List (List Step)) → AreRows count rows → IsAction count rows
is_action count rows h = record {
  height = h.0;
  row = λ q lt. h.1 q [] lt;
}

second_is : (player : Player) (kind : Kind) (i o : ℕ) → of_second kind (own_width player i o) (other_width player i o) ≡ i + o - of_first kind (own_width player i o) (other_width player i o)
second_is System First i o = omega arith
second_is System Second i o = omega arith
second_is Environment First i o = omega arith
second_is Environment Second i o = omega arith

start_known : (init : Option ℕ) (n : ℕ) → IfSome init (λ q. q < n) → ForSome init (λ q. q < n)
start_known None n h = λ x e. absurd (cc)
start_known (Some q) n h = λ x e. let f : q ≡ x = cc in omega (arith, f, h)

pub is_game : (player : Player) (kind : Kind) (i o : ℕ) (k : ℤ) (init : Option ℕ) (count width : ℕ) (p : Parts) → i + o ≤ 40 → pos 0 ≤ℤ k → k ≤ℤ pos 10000 → IfSome init (λ q. q < count) → width ≡ of_first kind (own_width player i o) (other_width player i o) → width ≤ i + o → AreParts count (i + o) width p → IsGame (record {
  player = player;
  kind = kind;
  inputs = i;
  outputs = o;
  k = k;
  init = init;
  actions = p.actions.items;
  classes = p.classes.items;
  letters = p.letters.items;
  firsts = p.firsts.items;
})
is_game player kind i o k init count width p narrow low high start w le h =
    let e : lanes_of p.actions.items ≡ count = lanes_are count p.actions.items h.some_action h.actions in
    let s : of_second kind (own_width player i o) (other_width player i o) ≡ i + o - width = second_is player kind i o ∙ ap (λ n. i + o - n) (sym w) in
    record {
      widths = narrow;
      low = low;
      high = high;
      some_action = h.some_action;
      some_class = h.some_class;
      actions = λ a lt. (let P : ℕ → Type 0 = λ n. IsAction n (slice_index_or p.actions.items a []) in subst P (sym e) (is_action count _ (h.actions a [] lt)));
      init = (let P : ℕ → Type 0 = λ n. ForSome init (λ q. q < n) in subst P (sym e) (start_known init count start));
      classes = λ c lt. (
          let known = h.classes c no_class lt in
          record {
            least = (let P : ℕ → Type 0 = λ n. (slice_index_or p.classes.items c no_class).least < 2 ^ n in subst P w known.least);
            some = known.some;
            action = λ j below. (known.options j (0, 0) below).0;
            reply = λ j below. (let P : ℕ → Type 0 = λ n. (slice_index_or (slice_index_or p.classes.items c no_class).options j (0, 0)).1 < 2 ^ n in subst P (sym s) (known.options j (0, 0) below).1);
          });
      letters = tree_over (i + o) (length p.actions.items) p.letters.items (omega arith) h.letters h.some_letter;
      firsts = (let P : ℕ → Type 0 = λ n. IsTreeOver n (length p.classes.items) p.firsts.items in subst P w (tree_over width (length p.classes.items) p.firsts.items (omega arith) h.firsts h.some_first));
    }
