use Rattle.std.proofs.Common.{◌≡◌, true, false, inl, inr, List, length, replicate, map, Vec, Global, refl, sym, ap, subst, ◌∙◌, arith}
use Rattle.std.specs.List.{Contains}
use Rattle.std.proofs.lemmas.List.{length-replicate}
use Rattle.std.proofs.lemmas.Bool.{both_ways}
use Rattle.witness_check.specs.declared.products.Arc.{Arc}
use Rattle.witness_check.specs.Levels.{is_in}
use Rattle.witness_check.proofs.TableLaws.{none_listed, nothing_in, in_below}
use Rattle.witness_check.proofs.CloseLaws.{arcs_are, arcs_length, arcs_within, marked_more}
use Rattle.witness_check.proofs.PathLaws.{closed_behind, behind_closed}
use Rattle.witness_check.proofs.levels.next_level.Goals as goal

abbrev items_of : Vec Arc Global → List Arc
items_of v = v.items

pub loop-node-init : goal.loop-node-init
loop-node-init c =
    let t = c.in_ok-reached.reached.items in
    let n = length c.args.arcs.now in
    let e : t ≡ replicate n false = c.in_ok-reached.ensures.items_if_clones_equal (λ y h. h) in
    record {
      same = ap length e ∙ length-replicate n false;
      listed = none_listed t c.new-found.result.items n e c.new-found.ensures.items;
      sound = λ i h. absurd (nothing_in t n i e h);
      whole = λ j arc l h s m. absurd (omega arith);
    }

pub loop-node-preserved-then-not-from-node : goal.loop-node-preserved-then-not-from-node
loop-node-preserved-then-not-from-node c =
    record {
      same = c.loop-node.invariant.same;
      listed = c.loop-node.invariant.listed;
      sound = c.loop-node.invariant.sound;
      whole = marked_more (map items_of c.args.arcs.now) c.args.from.now c.loop-node.reached.items c.loop-node.node c.loop-node.invariant.whole
          (λ arc h s m. absurd (both_ways (is_in c.args.from.now c.loop-node.node) c.if-not-from-node.true h));
    }

pub visit_all-requires-clause-within : goal.visit_all-requires-clause-within
visit_all-requires-clause-within c =
    let node = c.loop-node.node in
    let e = c.deref.ensures.value ∙ arcs_are c.args.arcs.now node c.index-arcs-node.result c.loop-node-test.true c.index-arcs-node.is in
    arcs_within (map items_of c.args.arcs.now) node c.deref.result.now (length c.loop-node.reached.items) e (c.loop-node.invariant.same ∙ sym (arcs_length c.args.arcs.now)) c.requires.within

pub loop-node-preserved : goal.loop-node-preserved
loop-node-preserved c =
    let A = map items_of c.args.arcs.now in
    let node = c.loop-node.node in
    let list = c.deref.result.now in
    let e = c.deref.ensures.value ∙ arcs_are c.args.arcs.now node c.index-arcs-node.result c.loop-node-test.true c.index-arcs-node.is in
    let here : is_in c.args.from.now node ≡ true = c.if-not-from-node.false in
    record {
      same = c.in_ok-visit_all.ensures.same ∙ c.loop-node.invariant.same;
      listed = c.in_ok-visit_all.ensures.listed;
      sound = λ i h. elim (c.in_ok-visit_all.ensures.sound i h) [
        | inl o ↦ c.loop-node.invariant.sound i o
        | inr a ↦ (node, a.0, here, subst (λ xs. Contains xs a.0) e a.1, a.2 refl, a.3)
      ];
      whole = marked_more A c.args.from.now c.visit_all.new.reached.items node
          (λ j arc l h s m. c.in_ok-visit_all.ensures.kept arc.to (c.loop-node.invariant.whole j arc l h s m))
          (λ arc h s m. c.in_ok-visit_all.ensures.whole arc (subst (λ xs. Contains xs arc) (sym e) s) (λ t. m));
    }

pub returns-clause-level : goal.returns-clause-level
returns-clause-level c =
    let A = map items_of c.args.arcs.now in
    let t = c.loop-node.reached.items in
    let from = c.args.from.now in
    λ i. (
      λ h. closed_behind A t from c.loop-node.invariant.sound i ((c.in_ok-close.ensures.closed i).0 h),
      λ b. (c.in_ok-close.ensures.closed i).1 (behind_closed A t from (λ j arc h s m. c.loop-node.invariant.whole j arc (omega (arith, in_below from j h, c.requires.same, c.loop-node-test.false)) h s m) i b),
    )
