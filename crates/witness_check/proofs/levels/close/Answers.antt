use Rattle.std.proofs.Common.{◌≡◌, ℕ, ◌<◌, ◌≤◌, Bool, true, List, length, map, Vec, Global, sym, ap, subst, ◌∙◌, arith, rules}
use Rattle.std.specs.Prelude.{slice_get, Some}
use Rattle.std.proofs.lemmas.Option.{slice_get_within, get_or_from_slice_get}
use Rattle.witness_check.specs.declared.products.Arc.{Arc}
use Rattle.witness_check.specs.Levels.{is_in, seed, IsListed}
use Rattle.witness_check.proofs.TableLaws.{in_below, listed_few}
use Rattle.witness_check.proofs.CloseLaws.{past_end, arcs_are, arcs_length, arcs_within, close_sound, close_done, close_end}
use Rattle.witness_check.proofs.levels.close.Goals as goal

abbrev items_of : Vec Arc Global → List Arc
items_of v = v.items

found_in : (t : List Bool) (f : List ℕ) (at node : ℕ) → IsListed t f → slice_get f at ≡ Some node → is_in t node ≡ true
found_in t f at node h s = subst (λ x. is_in t x ≡ true) (get_or_from_slice_get f at node node s) (h.inside at node (slice_get_within f at node s))

pub loop-at-init : goal.loop-at-init
loop-at-init c = record {
  same = c.requires.same;
  listed = c.requires.listed;
  kept = λ i h. h;
  sound = λ i h. seed h;
  done = λ k node l s. absurd (omega arith);
}

pub bounds-arcs-node : goal.bounds-arcs-node
bounds-arcs-node c =
    let s = ap (λ f. slice_get f c.loop-at.at) c.deref.ensures.value in
    let i = found_in c.loop-at.reached.items c.loop-at.found.items c.loop-at.at c.in-Some.node c.loop-at.invariant.listed (sym s ∙ sym c.in-Some.ensures) in
    omega (arith, in_below c.loop-at.reached.items c.in-Some.node i, c.loop-at.invariant.same)

pub visit_all-requires-clause-within : goal.visit_all-requires-clause-within
visit_all-requires-clause-within c =
    let s = ap (λ f. slice_get f c.loop-at.at) c.deref.ensures.value in
    let i = found_in c.loop-at.reached.items c.loop-at.found.items c.loop-at.at c.in-Some.node c.loop-at.invariant.listed (sym s ∙ sym c.in-Some.ensures) in
    let l : c.in-Some.node < length c.args.arcs.now = omega (arith, in_below c.loop-at.reached.items c.in-Some.node i, c.loop-at.invariant.same) in
    let e = c.deref-in-loop-at.ensures.value ∙ arcs_are c.args.arcs.now c.in-Some.node c.index-arcs-node.result l c.index-arcs-node.is in
    arcs_within (map items_of c.args.arcs.now) c.in-Some.node c.deref-in-loop-at.result.now (length c.loop-at.reached.items) e (c.loop-at.invariant.same ∙ sym (arcs_length c.args.arcs.now)) c.requires.within

pub loop-at-preserved : goal.loop-at-preserved
loop-at-preserved c =
    let A = map items_of c.args.arcs.now in
    let t0 = c.args.reached.now.items in
    let t = c.loop-at.reached.items in
    let t' = c.visit_all.new.reached.items in
    let f = c.loop-at.found.items in
    let f' = c.visit_all.new.found.items in
    let node = c.in-Some.node in
    let list = c.deref-in-loop-at.result.now in
    let s : slice_get f c.loop-at.at ≡ Some node = sym (ap (λ x. slice_get x c.loop-at.at) c.deref.ensures.value) ∙ sym c.in-Some.ensures in
    let i = found_in t f c.loop-at.at node c.loop-at.invariant.listed s in
    let l : node < length c.args.arcs.now = omega (arith, in_below t node i, c.loop-at.invariant.same) in
    let e = c.deref-in-loop-at.ensures.value ∙ arcs_are c.args.arcs.now node c.index-arcs-node.result l c.index-arcs-node.is in
    record {
      same = c.in_ok-visit_all.ensures.same ∙ c.loop-at.invariant.same;
      listed = c.in_ok-visit_all.ensures.listed;
      kept = λ j h. c.in_ok-visit_all.ensures.kept j (c.loop-at.invariant.kept j h);
      sound = close_sound A t0 t t' node list i e c.loop-at.invariant.sound c.in_ok-visit_all.ensures.sound;
      done = close_done A t0 f f' t t' c.loop-at.at node list s c.in_ok-visit_all.ensures.order e c.in_ok-visit_all.ensures.kept c.in_ok-visit_all.ensures.whole c.loop-at.invariant.done;
    }

pub returns-in_default-clause-closed : goal.returns-in_default-clause-closed
returns-in_default-clause-closed c = λ i.
    let s = ap (λ f. slice_get f c.loop-at.at) c.deref.ensures.value in
    let l = past_end c.loop-at.found.items c.loop-at.at (sym s ∙ sym c.in_default.ensures) in (
      c.loop-at.invariant.sound i,
      close_end (map items_of c.args.arcs.now) c.args.reached.now.items c.loop-at.found.items c.loop-at.reached.items c.loop-at.at l c.loop-at.invariant.listed c.loop-at.invariant.kept c.loop-at.invariant.done i,
    )

pub returns-clause-closed : goal.returns-clause-closed
returns-clause-closed c = λ i.
    let few = listed_few c.loop-at.reached.items c.loop-at.found.items c.loop-at.invariant.listed in
    let same = c.loop-at.invariant.same in
    let l : length c.loop-at.found.items ≤ c.loop-at.at = omega arith in (
      c.loop-at.invariant.sound i,
      close_end (map items_of c.args.arcs.now) c.args.reached.now.items c.loop-at.found.items c.loop-at.reached.items c.loop-at.at l c.loop-at.invariant.listed c.loop-at.invariant.kept c.loop-at.invariant.done i,
    )

pub offset_bounds-arcs-node : goal.offset_bounds-arcs-node
offset_bounds-arcs-node c =
    let s = ap (λ f. slice_get f c.loop-at.at) c.deref.ensures.value in
    let i = found_in c.loop-at.reached.items c.loop-at.found.items c.loop-at.at c.in-Some.node c.loop-at.invariant.listed (sym s ∙ sym c.in-Some.ensures) in
    let l : c.in-Some.node < length c.args.arcs.now = omega (arith, in_below c.loop-at.reached.items c.in-Some.node i, c.loop-at.invariant.same) in
    search rules
