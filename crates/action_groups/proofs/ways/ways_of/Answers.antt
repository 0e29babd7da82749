use Rattle.std.proofs.Common.{◌≡◌, ◌<◌, ◌≤◌, ◌++◌, List, [], length, map, subst}
use Rattle.word_core.specs.Automaton.{edges_at}
use Rattle.action_groups.specs.Rows.{way_from}
use Rattle.word_core.specs.declared.automata.Edge.{Edge}
use Rattle.action_groups.proofs.Edges.{edges_all, edges_more}
use Rattle.action_groups.proofs.ways.ways_of.Goals as goal

pub returns-clause-exact : goal.returns-clause-exact
returns-clause-exact c =
    let end : length c.args.a.now.states ≤ c.loop-q.q = subst (λ (l : List (List Edge)). length l ≤ c.loop-q.q) c.states-q-end.ensures.value c.loop-q-test.false in
    edges_all c.args.a.now c.loop-q.q c.loop-q.ways.items end c.loop-q.invariant.1

pub loop-q-preserved : goal.loop-q-preserved
loop-q-preserved c =
    let a = c.args.a.now in
    let q = c.loop-q.q in
    let lt : q < length a.states = subst (λ (l : List (List Edge)). q < length l) c.states-q-end.ensures.value c.loop-q-test.true in
    let added : c.add_ways.new.ways.items ≡ c.loop-q.ways.items ++ map (way_from q) (edges_at a q) = c.in_ok-add_ways.ensures.value in
    (c.in_ok-add_ways.ensures.ways, edges_more a q c.loop-q.ways.items c.add_ways.new.ways.items (c.states-q-end.ensures.valid.ranged q [] lt) added c.loop-q.invariant.1)
