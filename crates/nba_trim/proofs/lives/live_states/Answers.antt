use Rattle.std.proofs.Common.{◌≡◌, suc, length, replicate, true, ap, ◌∙◌, subst, arith}
use Rattle.std.proofs.lemmas.List.{length-replicate}
use Rattle.nba_trim.specs.Search.{trues, AreRejoining}
use Rattle.nba_trim.proofs.Paths.{outside_all, bounded_more, live_when}
use Rattle.nba_trim.proofs.lives.live_states.Goals as goal

pub loop-live-init : goal.loop-live-init
loop-live-init c =
    let a = c.args.a.now in
    let live = c.in_ok-live.live.items in
    let is : live ≡ replicate (length a.states) true = c.in_ok-live.ensures.items_if_clones_equal (λ y e. e) ∙ ap (λ l. replicate (length l) true) c.states.ensures.value in
    record {
      each = ap length is ∙ length-replicate (length a.states) true;
      sizes = c.count_true-size.ensures ∙ ap trues c.deref.ensures.value;
      outside = (0, outside_all a live is);
    }

pub returns-then-fewer-size : goal.returns-then-fewer-size
returns-then-fewer-size c =
    let i = c.loop-live.invariant in
    let live = c.loop-live.live.items in
    let left = c.in_ok-left.left.items in
    let are : AreRejoining c.args.a.now live left = subst (λ l. AreRejoining c.args.a.now l left) c.deref-in-loop-live-2.ensures.value c.in_ok-left.ensures in
    let size : c.count_true-fewer.result ≡ trues left = c.count_true-fewer.ensures ∙ ap trues c.deref-in-loop-live-3.ensures.value in
    live_when c.args.a.now live left i.outside.0 i.each are (omega (arith, size, i.sizes, c.if-fewer-size.true)) i.outside.1

pub loop-live-preserved : goal.loop-live-preserved
loop-live-preserved c =
    let i = c.loop-live.invariant in
    let live = c.loop-live.live.items in
    let left = c.in_ok-left.left.items in
    let are : AreRejoining c.args.a.now live left = subst (λ l. AreRejoining c.args.a.now l left) c.deref-in-loop-live-2.ensures.value c.in_ok-left.ensures in
    record {
      each = are.count ∙ i.each;
      sizes = c.count_true-fewer.ensures ∙ ap trues c.deref-in-loop-live-3.ensures.value;
      outside = (suc i.outside.0, bounded_more c.args.a.now live left i.outside.0 are i.outside.1);
    }
