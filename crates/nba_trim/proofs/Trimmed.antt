-- What is kept of an automaton is one.
use Rattle.std.proofs.Common.{◌≡◌, ℕ, zero, suc, ◌+◌, ◌<◌, ◌≤◌, ◌^◌, List, [], ◌∷◌, ◌++◌, length, map, take, get_or, All, Option, Some, None, IfSome, ap, sym, ◌∙◌, subst, arith}
use Rattle.std.specs.List.{cons_option}
use Rattle.std.proofs.lemmas.List.{take_more}
use Rattle.std.proofs.lemmas.List.Elements.{filter_map-append}
use Rattle.word_core.specs.declared.automata.Edge.{Edge}
use Rattle.word_core.specs.Automaton.{AutomatonData, IsAutomaton, IsEdge, edges_at}
use Rattle.nba_trim.specs.Trimmed.{number_if, edge_to, kept_edge, kept_edges, restricted}

pub automaton_from : (signals old : ℕ) (states : List (List Edge)) (init : Option ℕ) (kept : ℕ)
    → signals ≡ old → signals ≤ 64 → length states ≡ kept → length states < 2 ^ 32
    → All (All (IsEdge old kept)) states → IfSome init (λ k. k < kept)
    → IsAutomaton (record { signals = signals; states = states; init = init })
automaton_from signals old states init kept same narrow count counted ranged begins = record {
  narrow = narrow;
  counted = counted;
  ranged = subst (λ s. All (All (IsEdge s (length states))) states) (sym same) (subst (λ n. All (All (IsEdge old n)) states) (sym count) ranged);
  begins = subst (λ n. IfSome init (λ k. k < n)) (sym count) begins;
}

pub edges_more : (kept : List ℕ) (edges : List Edge) (i : ℕ) (d : Edge) → i < length edges
    → kept_edges kept (take (i + 1) edges) ≡ kept_edges kept (take i edges) ++ cons_option (kept_edge kept (get_or edges i d)) []
edges_more kept edges i d l = ap (kept_edges kept) (take_more edges i d l) ∙ filter_map-append (kept_edge kept) (take i edges) (get_or edges i d ∷ [])

pub edge_fits : (signals count kept : ℕ) (e : Edge) (o : Option ℕ) → IsEdge signals count e → IfSome o (λ k. k < kept) → All (IsEdge signals kept) (cons_option (edge_to e o) [])
edge_fits signals count kept e None h k i d l = absurd (omega arith)
edge_fits signals count kept e (Some n) h k i d l = first i l
  where
    first : (i : ℕ) → i < 1 → IsEdge signals kept (get_or (record { cube = e.cube; next = n; marked = e.marked } ∷ []) i d)
    first zero l = (h.0, k)
    first (suc i) l = absurd (omega arith)

pub restricted_is : (a t : AutomatonData) (kept : List ℕ) (signals : ℕ) (states : List (List Edge)) (init : Option ℕ) → t ≡ record { signals = signals; states = states; init = init }
    → signals ≡ a.signals → states ≡ map (λ q. kept_edges kept (edges_at a q)) kept → init ≡ number_if kept a.init → t ≡ restricted a kept
restricted_is a t kept signals states init is h k m =
    let one : record { signals = signals; states = states; init = init } ≡ record { signals = a.signals; states = states; init = init } = ap (λ s. record { signals = s; states = states; init = init }) h in
    let two : record { signals = a.signals; states = states; init = init } ≡ record { signals = a.signals; states = map (λ q. kept_edges kept (edges_at a q)) kept; init = init } =
    ap (λ s. record { signals = a.signals; states = s; init = init }) k in
    let three : record { signals = a.signals; states = map (λ q. kept_edges kept (edges_at a q)) kept; init = init } ≡ restricted a kept =
    ap (λ o. record { signals = a.signals; states = map (λ q. kept_edges kept (edges_at a q)) kept; init = o }) m in
    is ∙ one ∙ two ∙ three
