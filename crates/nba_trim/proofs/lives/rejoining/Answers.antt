use Rattle.std.proofs.Common.{◌≡◌, ◌<◌, ◌≤◌, length, get_or, true, [], ap, sym, ◌∙◌, subst, arith}
use Rattle.std.specs.List.{Contains}
use Rattle.std.proofs.lemmas.List.{get_or_read}
use Rattle.nba_trim.specs.Search.{Finds, Rejoins, marked_edge, edge_back, at, is_start, AreRejoining}
use Rattle.nba_trim.proofs.Trues.{true_within}
use Rattle.nba_trim.proofs.Finding.{spread_begin, spread_step, spread_end}
use Rattle.nba_trim.proofs.Paths.{rejoins_closed, start_live}
use Rattle.nba_trim.proofs.lives.rejoining.Goals as goal

pub back-init : goal.back-init
back-init c =
    let a = c.args.a.now in
    let live = c.args.live.now in
    spread_begin (λ p. (p < length a.states) × (is_start a live p ≡ true)) (λ p q. Contains (get_or c.args.before.now p []) q × (at live q ≡ true)) (Rejoins a live) (length live)
    c.in_ok-search.search c.add_marked.new.search c.in_ok-search.ensures.count c.in_ok-search.ensures.none c.in_ok-add_marked.ensures (λ q h. marked_edge q h.1)

pub back-preserved : goal.back-preserved
back-preserved c =
    let a = c.args.a.now in
    let live = c.args.live.now in
    let before = c.args.before.now in
    let old = c.back.search in
    let within : c.back.done < length old.queue = omega (arith, c.back-test.true, c.len.ensures.value) in
    let p = get_or old.queue c.back.done 0 in
    let at_q : c.at-q.result < length before = omega (arith, c.at-q.ensures.state, c.back.invariant.count, c.requires.live, c.requires.before.each) in
    let sources : c.as_slice.result.now ≡ get_or before p [] =
    c.as_slice.ensures ∙ get_or_read before c.at-q.result c.index-before-q.result at_q c.index-before-q.is [] ∙ ap (λ q. get_or before q []) c.at-q.ensures.value in
    spread_step (λ p. (p < length a.states) × (is_start a live p ≡ true)) (λ p q. Contains (get_or before p []) q × (at live q ≡ true)) (Rejoins a live) (length live)
    c.back.done old c.add_live.new.search c.len.ensures.search within
    (subst (λ xs. Finds (λ p. Contains xs p × (at live p ≡ true)) old c.add_live.new.search) sources c.in_ok-add_live.ensures)
    (λ p q r h. edge_back q p h.1 (c.requires.sources.sound p q h.0) r) c.back.invariant

pub returns : goal.returns
returns c =
    let a = c.args.a.now in
    let live = c.args.live.now in
    let before = c.args.before.now in
    let s = c.back.search in
    let all : length s.queue ≤ c.back.done = omega (arith, c.back-test.false, c.len.ensures.value) in
    let closed = spread_end (λ p. (p < length a.states) × (is_start a live p ≡ true)) (λ p q. Contains (get_or before p []) q × (at live q ≡ true)) (Rejoins a live) (length live)
    c.back.done s c.len.ensures.search all c.back.invariant in
    subst (AreRejoining a live) (sym c.into_found.ensures) record {
      count = c.back.invariant.count;
      sound = c.back.invariant.sound;
      complete = rejoins_closed a live s.found
          (λ q h. c.back.invariant.started q (let l = true_within live q (start_live a live q h) in omega (arith, l, c.requires.live), h))
          (λ p q found h. closed p q found (c.requires.sources.complete p q (let l = true_within live q h.1 in omega (arith, l, c.requires.live)) h.0, h.1));
    }
