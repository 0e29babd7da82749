-- Counters of classes stand for counters of states.
use Rattle.std.proofs.Common.{◌≡◌, ℕ, zero, suc, ◌+◌, ◌<◌, ◌≤◌, Bool, true, false, min, List, length, refl, sym, ◌∙◌, ap, subst, arith}
use Rattle.std.specs.Prelude.{ℤ, pos, negsuc, ◌≤ℤ◌}
use Rattle.std.specs.List.{All}
use Rattle.std.proofs.lemmas.Int.{ints}
use Rattle.std.proofs.lemmas.List.Elements.{All-contains}
use Rattle.word_core.specs.Automaton.{AutomatonData, IsAutomaton, IsEdge, edges_at}
use Rattle.game_form.specs.declared.actions.Step.{Step}
use Rattle.game_form.specs.Game.{row_at}
use Rattle.game_form.specs.Vector.{lane, number, brought, arrived}
use Rattle.counter_vec.proofs.Vectors.{arrived_low}
use Rattle.action_groups.specs.Numbers.{mark_number}
use Rattle.action_groups.specs.Rows.{edge_number}
use Rattle.nba_quotient.specs.Folding.{IsFolding}
use Rattle.nba_quotient.specs.Ways.{class_at}
use Rattle.dual_game.proofs.Counted.{number_of_mark, edge_counts, arrives}
use Rattle.dual_game.proofs.Reached.{edge_taken, arrived_from, brought_from}

-- a counter for each class: the greatest of its states
pub record IsShadow (of : List ℕ) (n m : ℕ) (v w : List ℤ) : Type 0 where
  pub long : length v ≡ n
  pub short : length w ≡ m
  pub below : (s : ℕ) → s < n → lane v s ≤ℤ lane w (class_at of s)
  pub reached : (c : ℕ) → c < m → (s : ℕ) × (s < n) × (class_at of s ≡ c) × (lane w c ≤ℤ lane v s)

mark_grows : (b c : Bool) → (b ≡ true → c ≡ true) → mark_number b ≤ mark_number c
mark_grows true c h = rw (h refl) (omega arith)
mark_grows false true h = omega arith
mark_grows false false h = omega arith

-- the numbers between states are at most those between their classes, and each of these is one from each state to one of the class
module _ (a q : AutomatonData) (of : List ℕ) (folding : IsFolding a of q) (well : IsAutomaton a) where
  pub number_up : (s p x : ℕ) → s < length a.states → edge_number (edges_at a s) x p ≤ edge_number (edges_at q (class_at of s)) x (class_at of p)
  number_up s p x l = by (edge_number (edges_at a s) x p) refl
    where
      by : (n : ℕ) → edge_number (edges_at a s) x p ≡ n → n ≤ edge_number (edges_at q (class_at of s)) x (class_at of p)
      by zero e = omega arith
      by (suc r) e =
          let t = edge_taken (edges_at a s) x p r e in
          let f = folding.begins s t.edge l t.contained in
          let counts : mark_number f.0.marked ≤ edge_number (edges_at q (class_at of s)) x f.0.next =
          edge_counts (edges_at q (class_at of s)) f.0 x f.1.0 f.1.1 f.1.2 (f.3.cube x t.held) in
          let end : f.0.next ≡ class_at of p = f.2 ∙ ap (class_at of) t.next in
          let more : mark_number t.edge.marked ≤ mark_number f.0.marked = mark_grows t.edge.marked f.0.marked f.3.marked in
          let size : mark_number t.edge.marked ≡ suc r = number_of_mark t.edge.marked ∙ ap suc t.marks in
          subst (λ d. suc r ≤ edge_number (edges_at q (class_at of s)) x d) end (omega (arith, counts, more, size))

  pub number_down : (s d x r : ℕ) → s < length a.states → edge_number (edges_at q (class_at of s)) x d ≡ suc r
      → (p : ℕ) × (p < length a.states) × (class_at of p ≡ d) × (suc r ≤ edge_number (edges_at a s) x p)
  number_down s d x r l e =
      let t = edge_taken (edges_at q (class_at of s)) x d r e in
      let f = folding.ends s t.edge l t.contained in
      let counts : mark_number f.0.marked ≤ edge_number (edges_at a s) x f.0.next = edge_counts (edges_at a s) f.0 x f.1.0 f.1.1 f.1.2 (f.3.cube x t.held) in
      let all : All (IsEdge a.signals (length a.states)) (edges_at a s) = well.ranged s _ l in
      let more : mark_number t.edge.marked ≤ mark_number f.0.marked = mark_grows t.edge.marked f.0.marked f.3.marked in
      let size : mark_number t.edge.marked ≡ suc r = number_of_mark t.edge.marked ∙ ap suc t.marks in
      (f.0.next, (All-contains (IsEdge a.signals (length a.states)) (edges_at a s) f.0 all f.1).1, f.2 ∙ t.next, omega (arith, counts, more, size))

brought_low : (k : ℕ) (x : ℤ) (r : ℕ) → negsuc 0 ≤ℤ brought k x r
brought_low k (negsuc n) r = grind (arith, ints)
brought_low k (pos n) zero = grind (arith, ints)
brought_low k (pos n) (suc r) = grind (arith, ints)

brought_grows : (k : ℕ) (x y : ℤ) (r t : ℕ) → x ≤ℤ y → r ≤ t → brought k x r ≤ℤ brought k y t
brought_grows k (negsuc n) y r t h l = brought_low k y t
brought_grows k (pos n) y zero t h l = brought_low k y t
brought_grows k (pos n) (negsuc i) (suc r) t h l = absurd (impossible n i h)
  where
    impossible : (n i : ℕ) → pos n ≤ℤ negsuc i → ⊥
    impossible n i h = grind (arith, ints)
brought_grows k (pos n) (pos i) (suc r) zero h l = absurd (omega (arith, l))
brought_grows k (pos n) (pos i) (suc r) (suc t) h l = lifted (min (k + 1) (n + r)) (min (k + 1) (i + t)) (sums (lowered n i h))
  where
    lowered : (a b : ℕ) → pos a ≤ℤ pos b → a ≤ b
    lowered a b h = grind (arith, ints)

    lifted : (a b : ℕ) → a ≤ b → pos a ≤ℤ pos b
    lifted a b h = grind (arith, ints)

    sums : n ≤ i → min (k + 1) (n + r) ≤ min (k + 1) (i + t)
    sums h = omega arith

at_most : (x y z : ℤ) → x ≤ℤ y → y ≤ℤ z → x ≤ℤ z
at_most x y z h k = grind (arith, ints)

nothing_least : (n : ℕ) (z : ℤ) → negsuc 0 ≤ℤ z → negsuc n ≤ℤ z
nothing_least n z h = grind (arith, ints)

same_least : (x y z : ℤ) → x ≡ y → x ≤ℤ z → y ≤ℤ z
same_least x y z e h = subst (λ u. u ≤ℤ z) e h

-- what arrives at a state is at most what arrives at its class, and what arrives at a class arrives at one of its states
module _ (k : ℕ) (rows small : List (List Step)) (of : List ℕ) (n m : ℕ) (height : length rows ≡ n) (height_small : length small ≡ m)
    (classes : (s : ℕ) → s < n → class_at of s < m) (firsts : (c : ℕ) → c < m → (s : ℕ) × (s < n) × (class_at of s ≡ c))
    (ups : (s p : ℕ) → s < n → number (row_at rows s) p ≤ number (row_at small (class_at of s)) (class_at of p))
    (downs : (s d r : ℕ) → s < n → number (row_at small (class_at of s)) d ≡ suc r → (p : ℕ) × (p < n) × (class_at of p ≡ d) × (suc r ≤ number (row_at rows s) p))
    (v w : List ℤ) (shadow : IsShadow of n m v w) where
  pub arrived_below : (p : ℕ) → arrived k rows v p ≤ℤ arrived k small w (class_at of p)
  arrived_below p = by (arrived k rows v p) refl
    where
      by : (x : ℤ) → arrived k rows v p ≡ x → arrived k rows v p ≤ℤ arrived k small w (class_at of p)
      by (negsuc i) e = same_least _ _ _ (sym e) (nothing_least i _ (arrived_low k small w (class_at of p)))
      by (pos i) e =
          let f = arrived_from k rows v p i e in
          let within : f.0 < n = omega (arith, f.1, height) in
          let class : class_at of f.0 < m = classes f.0 within in
          let more = brought_grows k (lane v f.0) (lane w (class_at of f.0)) (number (row_at rows f.0) p) (number (row_at small (class_at of f.0)) (class_at of p)) (shadow.below f.0 within) (ups f.0 p within) in
          same_least _ _ _ (f.3 ∙ sym e) (arrives k small w (class_at of f.0) (class_at of p) _ (omega (arith, class, height_small)) (omega (arith, class, shadow.short)) more)

  pub arrived_reached : (d : ℕ) → d < m → (p : ℕ) × (p < n) × (class_at of p ≡ d) × (arrived k small w d ≤ℤ arrived k rows v p)
  arrived_reached d l = by (arrived k small w d) refl
    where
      by : (x : ℤ) → arrived k small w d ≡ x → (p : ℕ) × (p < n) × (class_at of p ≡ d) × (arrived k small w d ≤ℤ arrived k rows v p)
      by (negsuc i) e =
          let f = firsts d l in
          (f.0, f.1, f.2, same_least _ _ _ (sym e) (nothing_least i _ (arrived_low k rows v f.0)))
      by (pos i) e =
          let f = arrived_from k small w d i e in
          let number_is = (brought_from k (lane w f.0) (number (row_at small f.0) d) i f.3).number_is in
          let r : ℕ = (brought_from k (lane w f.0) (number (row_at small f.0) d) i f.3).more in
          let within : f.0 < m = omega (arith, f.1, height_small) in
          let s = shadow.reached f.0 within in
          let p = downs s.0 d r s.1 (subst (λ c. number (row_at small c) d ≡ suc r) (sym s.2) number_is) in
          let grows : number (row_at small f.0) d ≤ number (row_at rows s.0) p.0 = omega (arith, number_is, p.3) in
          let more = brought_grows k (lane w f.0) (lane v s.0) (number (row_at small f.0) d) (number (row_at rows s.0) p.0) s.3 grows in
          (p.0, p.1, p.2, same_least _ _ _ (f.3 ∙ sym e) (arrives k rows v s.0 p.0 _ (omega (arith, s.1, height)) (omega (arith, s.1, shadow.long)) more))
