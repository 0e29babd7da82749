use Rattle.std.proofs.Common.{◌≤◌, length, ap, arith}
use Rattle.word_core.specs.Automaton.{edges_at}
use Rattle.word_core.specs.Machine.{lines_at, other_of}
use Rattle.witness_check.proofs.ProductLaws.{extends_more, seen_line, all_lines}
use Rattle.witness_check.proofs.products.arcs_of.Goals as goal

pub push_arcs-requires-clause-earlier_in : goal.push_arcs-requires-clause-earlier_in
push_arcs-requires-clause-earlier_in c = c.before-earlier.ensures.ranged (other_of c.args.m.now) (λ k d l. (c.lines-lines.ensures.ranged k d l).0)

pub loop-number-preserved : goal.loop-number-preserved
loop-number-preserved c =
    let m = c.args.m.now in
    let keys = c.loop-number.nodes.keys in
    let more = c.push_arcs.new.nodes.keys in
    record {
      extends = extends_more c.args.nodes.now.keys keys more c.loop-number.invariant.extends c.in_ok-push_arcs.ensures.extends;
      ranged = c.in_ok-push_arcs.ensures.ranged;
      sound = c.in_ok-push_arcs.ensures.sound c.loop-number.invariant.sound;
      whole = seen_line m more c.push_arcs.new.list.items (edges_at c.args.a.now c.args.node.place) (lines_at m c.args.node.state) c.loop-number.number
          (λ k y e l s w t. c.in_ok-push_arcs.ensures.kept (record { state = y.next; place = e.next }) e.marked (c.loop-number.invariant.whole k y e l s w t))
          (λ y e s w t. c.in_ok-push_arcs.ensures.whole y e s w t);
    }

pub returns-clause-arcs : goal.returns-clause-arcs
returns-clause-arcs c =
    let m = c.args.m.now in
    let l : length (lines_at m c.args.node.state) ≤ c.loop-number.number = omega (arith, ap length c.lines-lines.ensures.value, c.loop-number-test.false) in
    all_lines c.args.a.now m c.loop-number.nodes.keys c.args.node c.loop-number.list.items c.loop-number.number l c.loop-number.invariant.sound c.loop-number.invariant.whole
