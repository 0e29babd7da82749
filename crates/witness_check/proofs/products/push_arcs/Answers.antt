use Rattle.std.proofs.Common.{◌<◌, false, length, get_or, refl, sym, subst, arith}
use Rattle.word_core.specs.declared.automata.Edge.{Edge}
use Rattle.word_core.specs.declared.machines.Line.{Line}
use Rattle.word_core.specs.Automaton.{edges_at}
use Rattle.witness_check.specs.declared.products.Arc.{Arc}
use Rattle.witness_check.specs.Product.{IsArc}
use Rattle.witness_check.proofs.ProductLaws.{extends_self, extends_more, extends_arcs, extends_has, added_all, added_has, step_of, edge_at, seen_whole, seen_edge}
use Rattle.witness_check.proofs.products.push_arcs.Goals as goal

abbrev no_line : Line
no_line = record { when = record { care = 0; want = 0 }; own = 0; next = 0 }

abbrev no_edge : Edge
no_edge = record { cube = record { care = 0; want = 0 }; next = 0; marked = false }

pub loop-edge-init : goal.loop-edge-init
loop-edge-init c = record {
  extends = extends_self c.args.nodes.now.keys;
  ranged = c.requires.ranged;
  sound = λ all. all;
  kept = λ n b h. h;
  whole = λ k e l s t. absurd (omega arith);
}

pub returns-in_err-to-clause-ranged : goal.returns-in_err-to-clause-ranged
returns-in_err-to-clause-ranged c =
    let nl : c.args.number < length c.lines.result.now = subst (λ ls. c.args.number < length ls) (sym c.lines.ensures.value) c.requires.number_in in
    c.number_of.ensures.ranged (length c.args.m.now.states) (length c.args.a.now.states) c.loop-edge.invariant.ranged ((c.lines.ensures.ranged c.args.number no_line nl).2, (c.edges-edge-items.ensures.ranged c.loop-edge.edge-index no_edge c.loop-edge-test.true).1)

pub returns-in_err-push_new-clause-ranged : goal.returns-in_err-push_new-clause-ranged
returns-in_err-push_new-clause-ranged c =
    let nl : c.args.number < length c.lines.result.now = subst (λ ls. c.args.number < length ls) (sym c.lines.ensures.value) c.requires.number_in in
    c.number_of.ensures.ranged (length c.args.m.now.states) (length c.args.a.now.states) c.loop-edge.invariant.ranged ((c.lines.ensures.ranged c.args.number no_line nl).2, (c.edges-edge-items.ensures.ranged c.loop-edge.edge-index no_edge c.loop-edge-test.true).1)

pub loop-edge-preserved-then-not-is_taken : goal.loop-edge-preserved-then-not-is_taken
loop-edge-preserved-then-not-is_taken c =
    let nl : c.args.number < length c.lines.result.now = subst (λ ls. c.args.number < length ls) (sym c.lines.ensures.value) c.requires.number_in in
    let a = c.args.a.now in
    let m = c.args.m.now in
    let line = get_or c.lines.result.now c.args.number no_line in
    let edge = get_or c.edges-edge-items.result.now c.loop-edge.edge-index no_edge in
    record {
      extends = c.loop-edge.invariant.extends;
      ranged = c.loop-edge.invariant.ranged;
      sound = c.loop-edge.invariant.sound;
      kept = c.loop-edge.invariant.kept;
      whole = seen_edge m c.loop-edge.nodes.keys c.loop-edge.list.items (edges_at a c.args.node.place) line c.args.earlier.now c.loop-edge.edge-index edge
          (λ e s. edge_at a m c.args.node c.args.number c.lines.result.now c.edges-edge-items.result.now c.args.earlier.now no_line no_edge c.lines.ensures.value c.edges-edge-items.ensures.value nl c.requires.same c.loop-edge.edge-index e s)
          c.loop-edge.invariant.whole
          (λ t. (let r = c.is_taken.ensures.1 t in let n = c.if-not-is_taken.true in absurd cc));
    }

pub loop-edge-preserved : goal.loop-edge-preserved
loop-edge-preserved c =
    let nl : c.args.number < length c.lines.result.now = subst (λ ls. c.args.number < length ls) (sym c.lines.ensures.value) c.requires.number_in in
    let a = c.args.a.now in
    let m = c.args.m.now in
    let line = get_or c.lines.result.now c.args.number no_line in
    let edge = get_or c.edges-edge-items.result.now c.loop-edge.edge-index no_edge in
    let keys = c.loop-edge.nodes.keys in
    let more = c.number_of.new.nodes.keys in
    let ext = c.number_of.ensures.extends in
    let old = c.loop-edge.list.items in
    let new = c.push_new.new.list.items in
    let arc : Arc = record { to = c.in_ok-to.to; marked = edge.marked } in
    let added = c.in_ok-push_new.ensures.same in
    let step = step_of a m c.args.node c.args.number c.lines.result.now c.edges-edge-items.result.now c.args.earlier.now no_line no_edge c.lines.ensures.value c.edges-edge-items.ensures.value nl c.requires.same c.loop-edge.edge-index c.loop-edge-test.true (c.is_taken.ensures.0 c.if-not-is_taken.false) in
    record {
      extends = extends_more c.args.nodes.now.keys keys more c.loop-edge.invariant.extends ext;
      ranged = c.number_of.ensures.ranged (length m.states) (length a.states) c.loop-edge.invariant.ranged ((c.lines.ensures.ranged c.args.number no_line nl).2, (c.edges-edge-items.ensures.ranged c.loop-edge.edge-index no_edge c.loop-edge-test.true).1);
      sound = λ all. added_all (IsArc a m more c.args.node) old new arc added (record { state = line.next; place = edge.next }, c.in_ok-to.ensures.stored, step) (extends_arcs a m keys more c.args.node old ext (c.loop-edge.invariant.sound all));
      kept = λ n b h. added_has more old new arc n b added (extends_has keys more old n b ext (c.loop-edge.invariant.kept n b h));
      whole = seen_edge m more new (edges_at a c.args.node.place) line c.args.earlier.now c.loop-edge.edge-index edge
          (λ e s. edge_at a m c.args.node c.args.number c.lines.result.now c.edges-edge-items.result.now c.args.earlier.now no_line no_edge c.lines.ensures.value c.edges-edge-items.ensures.value nl c.requires.same c.loop-edge.edge-index e s)
          (λ k e l s t. added_has more old new arc (record { state = line.next; place = e.next }) e.marked added (extends_has keys more old (record { state = line.next; place = e.next }) e.marked ext (c.loop-edge.invariant.whole k e l s t)))
          (λ t. (arc, c.in_ok-push_new.ensures.has, c.in_ok-to.ensures.stored, refl));
    }

pub returns-clause-whole : goal.returns-clause-whole
returns-clause-whole c =
    let nl : c.args.number < length c.lines.result.now = subst (λ ls. c.args.number < length ls) (sym c.lines.ensures.value) c.requires.number_in in
    seen_whole c.args.a.now c.args.m.now c.args.node c.args.number c.lines.result.now c.edges-edge-items.result.now c.args.earlier.now no_line no_edge c.lines.ensures.value c.edges-edge-items.ensures.value nl c.requires.same c.loop-edge.nodes.keys c.loop-edge.list.items c.loop-edge.edge-index c.loop-edge-test.false c.loop-edge.invariant.whole
