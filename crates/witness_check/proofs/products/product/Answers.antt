use Rattle.std.proofs.Common.{◌≡◌, ◌≤◌, List, [], Vec, Global, map, length, get_or, sym, ap, subst, ◌∙◌, inl, inr, arith}
use Rattle.std.proofs.lemmas.Bool.{cases_lt}
use Rattle.std.proofs.lemmas.List.{length-map, map_push}
use Rattle.std.proofs.lemmas.Option.{slice_get_within}
use Rattle.witness_check.specs.declared.products.Arc.{Arc}
use Rattle.witness_check.specs.Product.{AreArcs}
use Rattle.witness_check.proofs.ProductLaws.{each_more, node_in}
use Rattle.witness_check.proofs.products.product.Goals as goal

abbrev items_of : Vec Arc Global → List Arc
items_of v = v.items

pub loop-at-init : goal.loop-at-init
loop-at-init c =
    let z : length c.new-nodes.result.keys ≡ 0 = c.new-nodes.ensures.len in
    record {
      counted = ap length c.new-arcs.ensures.items;
      few = omega arith;
      first = c.in_ok-number_of.ensures.first c.new-nodes.ensures.empty;
      ranged = c.number_of.ensures.ranged (length c.args.m.now.states) (length c.args.a.now.states) (λ k d h. absurd (omega arith)) (c.in_ok-apart.ensures.valid.begins, c.requires.init_in);
      each = λ i n l s. absurd (omega arith);
    }

pub index-is_apart-requires : goal.index-is_apart-requires
index-is_apart-requires c =
    let n = node_in c.loop-at.nodes.keys c.loop-at.at (length c.args.m.now.states) (length c.args.a.now.states) c.in-Some.node.now (sym c.in-Some.ensures.key) c.loop-at.invariant.ranged in
    omega (arith, n.0, c.in_ok-apart.ensures.all, c.in_ok-apart.apart.ok.0)

pub arcs_of-requires-clause-from : goal.arcs_of-requires-clause-from
arcs_of-requires-clause-from c =
    node_in c.loop-at.nodes.keys c.loop-at.at (length c.args.m.now.states) (length c.args.a.now.states) c.in-Some.node.now (sym c.in-Some.ensures.key) c.loop-at.invariant.ranged

pub loop-at-preserved : goal.loop-at-preserved
loop-at-preserved c =
    let a = c.args.a.now in
    let m = c.args.m.now in
    let keys = c.loop-at.nodes.keys in
    let more = c.arcs_of.new.nodes.keys in
    let node = c.in-Some.node.now in
    let stands = sym c.in-Some.ensures.key in
    let inside = slice_get_within more c.loop-at.at node (c.in_ok-list.ensures.extends c.loop-at.at node stands) in
    let old = map items_of c.loop-at.arcs.items in
    let counted : length old ≡ c.loop-at.at = length-map c.loop-at.arcs.items items_of ∙ c.loop-at.invariant.counted in
    let pushed = ap (map items_of) c.in_ok-push.ensures.items ∙ map_push items_of c.loop-at.arcs.items c.in_ok-list.list in
    record {
      counted = omega (arith, ap length c.in_ok-push.ensures.items, c.in_ok-push.ensures.len);
      few = omega arith;
      first = c.in_ok-list.ensures.extends 0 _ c.loop-at.invariant.first;
      ranged = c.in_ok-list.ensures.ranged;
      each = λ i n l s. subst (λ xs. AreArcs a m more n (get_or xs i [])) (sym pushed) (each_more a m keys more node old c.in_ok-list.list.items c.loop-at.at c.in_ok-list.ensures.extends counted c.loop-at.invariant.few stands c.loop-at.invariant.each c.in_ok-list.ensures.arcs i n l s);
    }

pub returns-in_default-clause-product : goal.returns-in_default-clause-product
returns-in_default-clause-product c =
    let keys = c.loop-at.nodes.keys in
    let arcs = c.loop-at.arcs.items in
    let e = length-map arcs items_of in
    let few : length keys ≤ c.loop-at.at = elim (cases_lt c.loop-at.at (length keys)) [ inl lt ↦ (let t = c.in_default.ensures.found.1 lt in absurd cc) | inr ge ↦ ge ] in (
      keys,
      record {
        first = c.loop-at.invariant.first;
        counted = omega (arith, c.loop-at.invariant.counted, c.loop-at.invariant.few);
        each = λ i n s. c.loop-at.invariant.each i n (let w = slice_get_within keys i n s in omega arith) s;
      },
    )
