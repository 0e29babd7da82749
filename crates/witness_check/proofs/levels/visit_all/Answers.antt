use Rattle.std.proofs.Common.{◌<◌, false, length, get_or, refl, ◌∙◌, inl, inr, arith}
use Rattle.std.proofs.lemmas.List.{take_all, get_or_default}
use Rattle.std.proofs.lemmas.List.Elements.{Contains-get_or}
use Rattle.witness_check.specs.declared.products.Arc.{Arc}
use Rattle.witness_check.specs.Levels.{IsAsked}
use Rattle.witness_check.proofs.ProductLaws.{place_of}
use Rattle.witness_check.proofs.TableLaws.{visited_length, visited_kept, visited_in, visited_sound, visited_order, visited_longer, visited_listed, order_more, asked_more}
use Rattle.witness_check.proofs.levels.visit_all.Goals as goal

abbrev no_arc : Arc
no_arc = record { to = 0; marked = false }

pub loop-arc-init : goal.loop-arc-init
loop-arc-init c = record {
  same = refl;
  listed = c.requires.listed;
  kept = λ i h. h;
  whole = λ k arc l s a. absurd (omega arith);
  sound = λ i h. inl h;
  order = take_all (length c.args.found.now.items) c.args.found.now.items (omega arith);
  longer = omega arith;
}

pub loop-arc-preserved-then-not-is_asked : goal.loop-arc-preserved-then-not-is_asked
loop-arc-preserved-then-not-is_asked c =
    let arcs = c.args.arcs.now in
    let i = c.loop-arc.arc-index in
    record {
      same = c.loop-arc.invariant.same;
      listed = c.loop-arc.invariant.listed;
      kept = c.loop-arc.invariant.kept;
      whole = asked_more arcs (IsAsked c.args.only_marked) c.loop-arc.reached.items i (get_or arcs i no_arc) c.loop-arc-test.true (λ d. get_or_default arcs i d no_arc c.loop-arc-test.true) c.loop-arc.invariant.whole
          (λ a. (let t = c.is_asked.ensures.1 a in let n = c.if-not-is_asked.true in absurd cc));
      sound = c.loop-arc.invariant.sound;
      order = c.loop-arc.invariant.order;
      longer = c.loop-arc.invariant.longer;
    }

pub loop-arc-preserved : goal.loop-arc-preserved
loop-arc-preserved c =
    let arcs = c.args.arcs.now in
    let i = c.loop-arc.arc-index in
    let arc = get_or arcs i no_arc in
    let t = c.loop-arc.reached.items in
    let f = c.loop-arc.found.items in
    let t' = c.visit.new.reached.items in
    let f' = c.visit.new.found.items in
    let v = c.in_ok-visit.ensures in
    let inside : arc.to < length t = omega (arith, c.requires.within i no_arc c.loop-arc-test.true, c.loop-arc.invariant.same) in
    record {
      same = visited_length arc.to t f t' f' inside v ∙ c.loop-arc.invariant.same;
      listed = visited_listed arc.to t f t' f' inside v c.loop-arc.invariant.listed;
      kept = λ j h. visited_kept arc.to t f t' f' inside v j (c.loop-arc.invariant.kept j h);
      whole = asked_more arcs (IsAsked c.args.only_marked) t' i arc c.loop-arc-test.true (λ d. get_or_default arcs i d no_arc c.loop-arc-test.true)
          (λ k b l s a. visited_kept arc.to t f t' f' inside v b.to (c.loop-arc.invariant.whole k b l s a))
          (λ a. visited_in arc.to t f t' f' inside v);
      sound = λ j h. elim (visited_sound arc.to t f t' f' inside v j h) [
        | inl o ↦ c.loop-arc.invariant.sound j o
        | inr e ↦ inr (arc, Contains-get_or arcs i no_arc c.loop-arc-test.true, c.is_asked.ensures.0 c.if-not-is_asked.false, e)
      ];
      order = order_more c.args.found.now.items f f' c.loop-arc.invariant.longer c.loop-arc.invariant.order (visited_order arc.to t f t' f' inside v);
      longer = let l = visited_longer arc.to t f t' f' inside v in let m = c.loop-arc.invariant.longer in omega arith;
    }

pub returns-clause-whole : goal.returns-clause-whole
returns-clause-whole c = λ arc h a.
    let p = place_of c.args.arcs.now arc h in
    c.loop-arc.invariant.whole p.0 arc (omega (arith, p.1, c.loop-arc-test.false)) p.2 a
