use Rattle.std.proofs.Common.{sym, subst, arith}
use Rattle.nba_trim.specs.Search.{AreReached}
use Rattle.nba_trim.specs.Numbers.{AreTrue}
use Rattle.nba_trim.specs.Trimmed.{AcceptSame}
use Rattle.nba_trim.proofs.Trimmed.{automaton_from, restricted_is}
use Rattle.nba_trim.proofs.Accepted.{kept_are, accept_same, none_left}
use Rattle.nba_trim.proofs.trims.trim.Goals as goal

pub unreachable-requires : goal.unreachable-requires
unreachable-requires c =
    let states = c.in_ok-states.states.items in
    c.in-None.ensures
    (automaton_from c.signals.result c.args.a.now.signals states c.new_first.result _
    c.signals.ensures.value c.signals.ensures.narrow c.in_ok-states.ensures.count
    (omega (arith, c.in_ok-states.ensures.count, c.in_ok-numbers.ensures.kept.fewer, c.in_ok-reached.ensures.counted))
    c.in_ok-states.ensures.edges c.new_first.ensures.within)

pub returns-clause-exact : goal.returns-clause-exact
returns-clause-exact c =
    let a = c.args.a.now in
    let kept = c.in_ok-numbers.numbers.kept in
    let live = c.in_ok-live.live.items in
    let reached = c.in_ok-reached.reached.items in
    let on : AreReached a live reached = subst (λ l. AreReached a l reached) c.deref.ensures.value c.in_ok-reached.ensures.exact in
    let these : AreTrue reached kept = subst (λ l. AreTrue l kept) c.deref-2.ensures.value c.in_ok-numbers.ensures.kept in
    record {
      kept = kept;
      are = kept_are a live reached kept c.in_ok-live.ensures on these;
      is = restricted_is a c.in-Some.trimmed kept c.signals.result c.in_ok-states.states.items c.new_first.result c.in-Some.ensures c.signals.ensures.value c.in_ok-states.ensures.value c.new_first.ensures.value;
    }

pub returns-clause-none : goal.returns-clause-none
returns-clause-none c = λ dead.
    let a = c.args.a.now in
    let kept = c.in_ok-numbers.numbers.kept in
    let live = c.in_ok-live.live.items in
    let reached = c.in_ok-reached.reached.items in
    let on : AreReached a live reached = subst (λ l. AreReached a l reached) c.deref.ensures.value c.in_ok-reached.ensures.exact in
    let these : AreTrue reached kept = subst (λ l. AreTrue l kept) c.deref-2.ensures.value c.in_ok-numbers.ensures.kept in
    none_left a live reached kept c.in_ok-live.ensures on these c.in-Some.trimmed
    (restricted_is a c.in-Some.trimmed kept c.signals.result c.in_ok-states.states.items c.new_first.result c.in-Some.ensures c.signals.ensures.value c.in_ok-states.ensures.value c.new_first.ensures.value)
    dead

pub returns-clause-accepts : goal.returns-clause-accepts
returns-clause-accepts c =
    let a = c.args.a.now in
    let kept = c.in_ok-numbers.numbers.kept in
    let live = c.in_ok-live.live.items in
    let reached = c.in_ok-reached.reached.items in
    let on : AreReached a live reached = subst (λ l. AreReached a l reached) c.deref.ensures.value c.in_ok-reached.ensures.exact in
    let these : AreTrue reached kept = subst (λ l. AreTrue l kept) c.deref-2.ensures.value c.in_ok-numbers.ensures.kept in
    subst (AcceptSame a)
    (sym (restricted_is a c.in-Some.trimmed kept c.signals.result c.in_ok-states.states.items c.new_first.result c.in-Some.ensures c.signals.ensures.value c.in_ok-states.ensures.value c.new_first.ensures.value))
    (accept_same a live reached kept c.in_ok-live.ensures on these)
