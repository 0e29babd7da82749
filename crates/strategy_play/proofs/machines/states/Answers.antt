use Rattle.std.proofs.Common.{Vec, Global, ◌≡◌, ◌<◌, ◌≤◌, ◌∙◌, ℕ, sym, ap, subst, length, map, take, arith, List, [], get_or, Some}
use Rattle.std.specs.List.{All, AllZip, Contains, flat_map}
use Rattle.std.proofs.lemmas.List.{map_push, length_push, length-map, get_or_read}
use Rattle.std.proofs.lemmas.List.Elements.{All-push}
use Rattle.word_core.specs.declared.machines.Line.{Line}
use Rattle.strategy_play.specs.Answer.{Answers}
use Rattle.strategy_play.specs.Lead.{next_at}
use Rattle.strategy_play.specs.State.{IsState}
use Rattle.strategy_play.specs.Strategy.{entry_of_state, AnswersEach}
use Rattle.strategy_play.specs.Walk.{IsWalk, IsRenumbered, InTurn, nexts_of}
use Rattle.strategy_play.proofs.Faults.{lines_in}
use Rattle.strategy_play.proofs.Reached.{met_more}
use Rattle.strategy_play.proofs.Played.{answers_renumbered, answers_more}
use Rattle.strategy_play.proofs.Walked.{states_turn, extends_at, walk_once, extends_length, states_grow, state_renumbered}
use Rattle.strategy_play.proofs.machines.states.Goals as goal

pub walking-preserved : goal.walking-preserved
walking-preserved c =
    let game = c.args.g.now in
    let before = c.walking.walk.order.items in
    let order = c.renumbered.new.walk.order.items in
    let states = c.walking.states.items in
    let made = c.in_ok-renumbered.field-0 in
    let kept = c.in_ok-renumbered.ensures in
    let longer : length before ≤ length order = extends_length before order kept.extends in
    let zip : AllZip (IsRenumbered order) c.in_ok-lines.lines.items made.items = subst (λ ls. AllZip (IsRenumbered order) ls made.items) c.deref.ensures.value kept.lines in
    let state = state_renumbered game (length c.args.d.now) order c.in_ok-lines.lines.items made.items (walk_once (length c.walking.walk.numbers.items) c.renumbered.new.walk.numbers.items order kept.walk) zip c.in_ok-lines.ensures.state in
    let more = length_push states made in
    let seen = c.walking-test.true in
    let size : c.len-in-walking-3.result ≡ length states = omega (arith, c.len-in-walking-3.ensures) in
    let here : length states < length before = omega arith in
    let place : c.index.result.now ≡ get_or before (length states) 0 =
    get_or_read before (length states) c.index.result.now here (c.index.ensures ∙ ap (λ i. get_or before i c.index.result.now) size) 0 in
    let within : c.index.result.now < length c.args.d.now = subst (λ e. e < length c.args.d.now) (sym place) (c.walking.invariant.walk.entries (length states) 0 here) in
    let at : c.entry-entry.result.now ≡ entry_of_state c.args.d.now before (length states) =
    get_or_read c.args.d.now c.index.result.now c.entry-entry.result.now within c.entry-entry.ensures [] ∙ ap (λ e. get_or c.args.d.now e []) place in
    let answers = answers_renumbered game (next_at game c.args.d.now c.entry-entry.result.now) order c.in_ok-lines.lines.items made.items zip c.in_ok-lines.ensures.answers in
    record {
      walk = subst (λ n. IsWalk n c.renumbered.new.walk.numbers.items order) c.walking.invariant.walk.counted kept.walk;
      some = omega (arith, c.walking.invariant.some);
      begins = c.walking.invariant.begins ∙ ap (λ n. Some n) (sym (extends_at before order 0 kept.extends c.walking.invariant.some));
      seen = omega (arith, more, ap (λ (l : List (Vec Line Global)). length l) c.in_ok-push.ensures.items);
      states = subst (All (IsState game (length order))) (sym (ap (map lines_in) c.in_ok-push.ensures.items ∙ map_push lines_in states made))
          (All-push (IsState game (length order)) (map lines_in states) made.items (states_grow game (length before) (length order) (map lines_in states) longer c.walking.invariant.states) state);
      answers = subst (AnswersEach game c.args.d.now order) (sym (ap (map lines_in) c.in_ok-push.ensures.items ∙ map_push lines_in states made))
          (answers_more game c.args.d.now before order (map lines_in states) made.items kept.extends (omega (arith, length-map states lines_in)) c.walking.invariant.states c.walking.invariant.answers
          (subst (λ f. Answers game (next_at game c.args.d.now f) (λ n. get_or order n 0) made.items) (at ∙ ap (entry_of_state c.args.d.now before) (sym (length-map states lines_in))) answers));
      met = subst (λ vs. (s : ℕ) → 0 < s → s < length vs → Contains (flat_map nexts_of (take s (map lines_in vs))) s) (sym c.in_ok-push.ensures.items)
          (met_more states made (length before) here c.walking.invariant.turns c.walking.invariant.met);
      turns = subst (λ lss. InTurn 1 (flat_map nexts_of lss) (length order)) (sym (ap (map lines_in) c.in_ok-push.ensures.items ∙ map_push lines_in states made))
          (states_turn 1 (map lines_in states) (length before) (length order) made.items c.walking.invariant.turns kept.turns);
    }

pub returns-clause-states : goal.returns-clause-states
returns-clause-states c =
    let same : length c.walking.walk.order.items ≡ length c.walking.states.items = omega (arith, c.walking.invariant.seen) in
    subst (λ n. All (IsState c.args.g.now n) (map lines_in c.walking.states.items)) same c.walking.invariant.states

pub returns-clause-strategy : goal.returns-clause-strategy
returns-clause-strategy c =
    let same : length c.walking.walk.order.items ≡ length c.walking.states.items = omega (arith, c.walking.invariant.seen) in
    record {
      order = c.walking.walk.order.items;
      count = same ∙ sym (length-map c.walking.states.items lines_in);
      within = c.walking.invariant.walk.entries;
      once = walk_once (length c.args.d.now) c.walking.walk.numbers.items c.walking.walk.order.items c.walking.invariant.walk;
      first = c.walking.invariant.begins;
      answers = c.walking.invariant.answers;
      met = λ s some less. c.walking.invariant.met s some (omega (arith, less, length-map c.walking.states.items lines_in));
      breadth_first = subst (InTurn 1 (flat_map nexts_of (map lines_in c.walking.states.items))) (same ∙ sym (length-map c.walking.states.items lines_in)) c.walking.invariant.turns;
    }
