use Rattle.std.proofs.Common.{◌≡◌, ◌<◌, ◌≤◌, length, get_or, true, Some, ap, sym, ◌∙◌, subst, arith}
use Rattle.std.specs.List.{Contains}
use Rattle.word_core.specs.Automaton.{edges_at}
use Rattle.nba_trim.specs.Search.{Finds, Reached, first_state, edge_on, ends, at, AreReached}
use Rattle.nba_trim.proofs.Finding.{spread_begin, spread_step, spread_end}
use Rattle.nba_trim.proofs.Paths.{reached_closed}
use Rattle.nba_trim.proofs.reaches.reached_states.Goals as goal

pub on-init : goal.on-init
on-init c =
    let a = c.args.a.now in
    let live = c.args.live.now in
    let count : length c.in_ok-search.search.found ≡ length live = omega (arith, c.in_ok-search.ensures.count, c.requires, ap length c.states.ensures.value) in
    spread_begin (λ p. (a.init ≡ Some p) × (at live p ≡ true)) (λ p q. Contains (ends (edges_at a p)) q × (at live q ≡ true)) (Reached a live) (length live)
    c.in_ok-search.search c.add_first.new.search count c.in_ok-search.ensures.none c.in_ok-add_first.ensures (λ q h. first_state q h.0 h.1)

pub on-preserved : goal.on-preserved
on-preserved c =
    let a = c.args.a.now in
    let live = c.args.live.now in
    let old = c.on.search in
    let within : c.on.done < length old.queue = omega (arith, c.on-test.true, c.len.ensures.value) in
    let q_is : edges_at a c.at-q.result ≡ edges_at a (get_or old.queue c.on.done 0) = ap (edges_at a) c.at-q.ensures.value in
    spread_step (λ p. (a.init ≡ Some p) × (at live p ≡ true)) (λ p q. Contains (ends (edges_at a p)) q × (at live q ≡ true)) (Reached a live) (length live)
    c.on.done old c.add_ends.new.search c.len.ensures.search within
    (subst (λ edges. Finds (λ p. Contains (ends edges) p × (at live p ≡ true)) old c.add_ends.new.search) (c.edges.ensures.value ∙ q_is) c.in_ok-add_ends.ensures)
    (λ p q r h. edge_on p q r h.0 h.1) c.on.invariant

pub returns-clause-exact : goal.returns-clause-exact
returns-clause-exact c =
    let a = c.args.a.now in
    let live = c.args.live.now in
    let s = c.on.search in
    let all : length s.queue ≤ c.on.done = omega (arith, c.on-test.false, c.len.ensures.value) in
    let closed = spread_end (λ p. (a.init ≡ Some p) × (at live p ≡ true)) (λ p q. Contains (ends (edges_at a p)) q × (at live q ≡ true)) (Reached a live) (length live)
    c.on.done s c.len.ensures.search all c.on.invariant in
    subst (AreReached a live) (sym c.into_found.ensures) record {
      count = c.on.invariant.count;
      sound = c.on.invariant.sound;
      complete = reached_closed a live s.found c.on.invariant.started closed;
    }
