-- Edges to some of so many states are edges to some of more of them.
use Rattle.std.proofs.Common.{◌≡◌, ℕ, ◌+◌, ◌<◌, ◌≤◌, Bool, true, false, if◌then◌else◌, List, [], ◌∷◌, ◌++◌, length, All, ap, sym, ◌∙◌, subst, arith}
use Rattle.std.specs.List.{list_any}
use Rattle.std.proofs.lemmas.List.{length_push}
use Rattle.std.proofs.lemmas.List.Elements.{All-push}
use Rattle.indexmap.specs.IndexSet.{insert_key}
use Rattle.word_core.specs.declared.automata.Edge.{Edge}
use Rattle.word_core.specs.Automaton.{IsEdge}

pub edge_more : (signals n m : ℕ) (edges : List Edge) → n ≤ m → All (IsEdge signals n) edges → All (IsEdge signals m) edges
edge_more signals n m edges h all = λ k d l. let p = all k d l in (p.0, omega arith)

pub edges_more : (signals n m : ℕ) (states : List (List Edge)) → n ≤ m → All (All (IsEdge signals n)) states → All (All (IsEdge signals m)) states
edges_more signals n m states h all = λ k d l j e i. let p = all k d l j e i in (p.0, omega arith)

-- an edge is put into a set of edges
pub edges_inserted : (eq : Edge → Edge → Bool) (signals n : ℕ) (edges : List Edge) (edge : Edge) → All (IsEdge signals n) edges → IsEdge signals n edge
    → All (IsEdge signals n) (insert_key eq edges edge)
edges_inserted eq signals n edges edge all own = by (list_any (eq edge) edges)
  where
    by : (b : Bool) → All (IsEdge signals n) (if b then edges else edges ++ edge ∷ [])
    by true = all
    by false = All-push (IsEdge signals n) edges edge all own

-- the states of a walk: so many of the n places were visited
pub record Visited (signals n at : ℕ) (states : List (List Edge)) : Type 0 where
  pub each : length states ≡ at
  pub place : at ≤ n
  pub few : n ≤ 4096
  pub some : 0 < n
  pub ranged : All (All (IsEdge signals n)) states

-- the edges of the next place
pub visited_more : (signals n m at : ℕ) (states : List (List Edge)) (edges : List Edge) (new : List (List Edge))
    → Visited signals n at states → at < n → n ≤ m → m ≤ 4096 → All (IsEdge signals m) edges → new ≡ states ++ edges ∷ []
    → Visited signals m (at + 1) new
visited_more signals n m at states edges new v here more few own is = record {
  each = ap length is ∙ length_push states edges ∙ ap (λ k. k + 1) v.each;
  place = omega arith;
  few = few;
  some = omega (arith, v.some);
  ranged = subst (All (All (IsEdge signals m))) (sym is) (All-push (All (IsEdge signals m)) states edges (edges_more signals n m states more v.ranged) own);
}
