-- The edges of an automaton as one list.
use Rattle.std.proofs.Common.{◌≡◌, ℕ, ◌+◌, ◌<◌, ◌≤◌, ◌⊎◌, inl, inr, Bool, true, false, cond, ◌&&◌, List, [], ◌∷◌, ◌++◌, length, map, max, refl, sym, ap, ◌∙◌, subst, arith}
use Rattle.std.specs.Prelude.{nat_eq}
use Rattle.std.specs.List.{All, filter}
use Rattle.std.proofs.lemmas.Bool.{cases_eq, cases_lt}
use Rattle.std.proofs.lemmas.List.{map-append}
use Rattle.std.proofs.lemmas.List.Elements.{All-append, All-map, All-weaker}
use Rattle.word_core.specs.declared.automata.Edge.{Edge}
use Rattle.word_core.specs.Automaton.{AutomatonData, IsEdge, edges_at}
use Rattle.word_core.specs.Cube.{holds, IsCube}
use Rattle.action_groups.specs.declared.ways.Way.{Way}
use Rattle.action_groups.specs.Numbers.{step_number, steps_number, step_of, mark_number}
use Rattle.action_groups.specs.Rows.{edge_number, way_from, HasEdges}
use Rattle.action_groups.proofs.Steps.{numbers_append}
use Rattle.action_groups.proofs.RowNumbers.{here_number, there_number}

held : ℕ → List Way → List (ℕ × ℕ × Bool)
held bits ways = map step_of (filter (λ w. holds w.edge.cube bits) ways)

filter_append : (f : Way → Bool) (xs ys : List Way) → filter f (xs ++ ys) ≡ filter f xs ++ filter f ys
filter_append f [] ys = refl
filter_append f (x ∷ xs) ys = go (f x) (filter_append f xs ys)
  where
    go : (b : Bool) → filter f (xs ++ ys) ≡ filter f xs ++ filter f ys → cond b (x ∷ filter f (xs ++ ys)) (filter f (xs ++ ys)) ≡ cond b (x ∷ filter f xs) (filter f xs) ++ filter f ys
    go true e = ap (λ l. x ∷ l) e
    go false e = e

held_append : (bits : ℕ) (xs ys : List Way) (q p : ℕ) → steps_number (held bits (xs ++ ys)) q p ≡ max (steps_number (held bits xs) q p) (steps_number (held bits ys) q p)
unfolding held
held_append bits xs ys q p =
    let f : Way → Bool = λ w. holds w.edge.cube bits in
    ap (λ (l : List Way). steps_number (map step_of l) q p) (filter_append f xs ys)
    ∙ ap (λ (l : List (ℕ × ℕ × Bool)). steps_number l q p) (map-append step_of (filter f xs) (filter f ys))
    ∙ numbers_append (map step_of (filter f xs)) (map step_of (filter f ys)) q p

held_own : (q bits p : ℕ) (es : List Edge) → steps_number (held bits (map (way_from q) es)) q p ≡ edge_number es bits p
unfolding held
held_own q bits p [] = refl
held_own q bits p (e ∷ es) = go (holds e.cube bits) (filter (λ w. holds w.edge.cube bits) (map (way_from q) es)) (held_own q bits p es)
  where
    none : (n : ℕ) → n ≡ max 0 n
    none n = omega arith

    go : (b : Bool) (r : List Way) → steps_number (map step_of r) q p ≡ edge_number es bits p → steps_number (map step_of (cond b (way_from q e ∷ r) r)) q p ≡ max (cond (b && nat_eq e.next p) (mark_number e.marked) 0) (edge_number es bits p)
    go true r f = ap (λ n. max n (steps_number (map step_of r) q p)) (here_number (q, e.next, e.marked) q p refl) ∙ ap (max (cond (nat_eq e.next p) (mark_number e.marked) 0)) f
    go false r f = f ∙ none (edge_number es bits p)

held_other : (k q bits p : ℕ) (es : List Edge) → (k ≡ q → ⊥) → steps_number (held bits (map (way_from k) es)) q p ≡ 0
unfolding held
held_other k q bits p [] n = refl
held_other k q bits p (e ∷ es) n = go (holds e.cube bits) (filter (λ w. holds w.edge.cube bits) (map (way_from k) es)) (held_other k q bits p es n)
  where
    both : (a b : ℕ) → a ≡ 0 → b ≡ 0 → max a b ≡ 0
    both a b f g = omega arith

    go : (b : Bool) (r : List Way) → steps_number (map step_of r) q p ≡ 0 → steps_number (map step_of (cond b (way_from k e ∷ r) r)) q p ≡ 0
    go true r f = both (step_number (k, e.next, e.marked) q p) (steps_number (map step_of r) q p) (there_number (k, e.next, e.marked) q p n) f
    go false r f = f

-- the edges of the first states
pub record HasEdgesUpto (a : AutomatonData) (upto : ℕ) (ways : List Way) : Type 0 where
  pub cubes : All (λ w. IsCube a.signals w.edge.cube) ways
  pub before : (bits q p : ℕ) → q < upto → steps_number (map step_of (filter (λ w. holds w.edge.cube bits) ways)) q p ≡ edge_number (edges_at a q) bits p
  pub behind : (bits q p : ℕ) → upto ≤ q → steps_number (map step_of (filter (λ w. holds w.edge.cube bits) ways)) q p ≡ 0

pub edges_more : (a : AutomatonData) (k : ℕ) (ways now : List Way) → All (IsEdge a.signals (length a.states)) (edges_at a k) → now ≡ ways ++ map (way_from k) (edges_at a k) → HasEdgesUpto a k ways → HasEdgesUpto a (k + 1) now
unfolding held
edges_more a k ways now ranged e h =
    let P : Way → Type 0 = λ w. IsCube a.signals w.edge.cube in
    let Q : Edge → Type 0 = λ x. P (way_from k x) in
    subst (HasEdgesUpto a (k + 1)) (sym e) (record {
      cubes = All-append P ways (map (way_from k) (edges_at a k)) h.cubes (All-map P (way_from k) (edges_at a k) (All-weaker (IsEdge a.signals (length a.states)) Q (λ x r. r.0) (edges_at a k) ranged));
      before = λ bits q p lt. before bits q p lt (cases_eq k q);
      behind = λ bits q p le. behind bits q p le;
    })
  where
    left : (a b c : ℕ) → a ≡ c → b ≡ 0 → max a b ≡ c
    left a b c e f = omega arith

    right : (a b c : ℕ) → a ≡ 0 → b ≡ c → max a b ≡ c
    right a b c e f = omega arith

    below : (q : ℕ) → q < k + 1 → (k ≡ q → ⊥) → q < k
    below q lt n = go (cases_lt q k)
      where
        go : (q < k) ⊎ (k ≤ q) → q < k
        go (inl l) = l
        go (inr l) = absurd (n (omega arith))

    before : (bits q p : ℕ) → q < k + 1 → (k ≡ q) ⊎ (k ≡ q → ⊥) → steps_number (map step_of (filter (λ w. holds w.edge.cube bits) (ways ++ map (way_from k) (edges_at a k)))) q p ≡ edge_number (edges_at a q) bits p
    before bits q p lt (inl f) =
        held_append bits ways (map (way_from k) (edges_at a k)) q p
        ∙ right (steps_number (held bits ways) q p) (steps_number (held bits (map (way_from k) (edges_at a k))) q p) (edge_number (edges_at a q) bits p) (h.behind bits q p (omega arith))
        (subst (λ n. steps_number (held bits (map (way_from k) (edges_at a k))) n p ≡ edge_number (edges_at a n) bits p) f (held_own k bits p (edges_at a k)))
    before bits q p lt (inr n) =
        held_append bits ways (map (way_from k) (edges_at a k)) q p
        ∙ left (steps_number (held bits ways) q p) (steps_number (held bits (map (way_from k) (edges_at a k))) q p) (edge_number (edges_at a q) bits p) (h.before bits q p (below q lt n)) (held_other k q bits p (edges_at a k) n)

    behind : (bits q p : ℕ) → k + 1 ≤ q → steps_number (map step_of (filter (λ w. holds w.edge.cube bits) (ways ++ map (way_from k) (edges_at a k)))) q p ≡ 0
    behind bits q p le =
        held_append bits ways (map (way_from k) (edges_at a k)) q p
        ∙ left (steps_number (held bits ways) q p) (steps_number (held bits (map (way_from k) (edges_at a k))) q p) 0 (h.behind bits q p (omega arith)) (held_other k q bits p (edges_at a k) (λ f. omega arith))

pub edges_all : (a : AutomatonData) (k : ℕ) (ways : List Way) → length a.states ≤ k → HasEdgesUpto a k ways → HasEdges a ways
edges_all a k ways le h = record {
  cubes = h.cubes;
  numbers = λ bits q p lt. h.before bits q p (omega arith);
}
