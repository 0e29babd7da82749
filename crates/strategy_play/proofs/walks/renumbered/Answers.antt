use Rattle.std.proofs.Common.{◌∙◌, sym, subst, take, get_or, refl, ◌+◌, length}
use Rattle.std.specs.List.{AllZip}
use Rattle.std.proofs.lemmas.List.{get_or_default}
use Rattle.std.proofs.lemmas.List.Elements.{all_zip_more}
use Rattle.word_core.specs.declared.machines.Line.{Line}
use Rattle.strategy_play.specs.Walk.{IsWalk, IsRenumbered, InTurn, nexts_of}
use Rattle.strategy_play.proofs.Walked.{extends_then, zip_extends, turn_more}
use Rattle.strategy_play.proofs.walks.renumbered.Goals as goal

pub loop-line-preserved : goal.loop-line-preserved
loop-line-preserved c =
    let lines = c.args.lines.now in
    let order = c.loop-line.walk.order.items in
    let order' = c.number_of.new.walk.order.items in
    let kept = c.in_ok-next.ensures in
    let zip = zip_extends order order' (take c.loop-line.line-index lines) c.loop-line.out.items kept.extends c.loop-line.invariant.lines in
    let line : Line = get_or lines c.loop-line.line-index (record { when = record { care = 0; want = 0 }; own = 0; next = 0 }) in
    let made : Line = record { when = line.when; own = line.own; next = c.in_ok-next.next } in
    let is : IsRenumbered order' line made = record { when = refl; own = refl; within = kept.within; next = kept.entry } in
    record {
      count = kept.count ∙ c.loop-line.invariant.count;
      walk = subst (λ n. IsWalk n c.number_of.new.walk.numbers.items order') c.loop-line.invariant.count kept.walk;
      extends = extends_then c.args.walk.now.order.items order order' c.loop-line.invariant.extends kept.extends;
      lines = subst (AllZip (IsRenumbered order') (take (c.loop-line.line-index + 1) lines)) (sym c.in_ok-push.ensures.items)
          (all_zip_more (IsRenumbered order') lines c.loop-line.out.items c.loop-line.line-index line made c.loop-line-test.true (get_or_default lines c.loop-line.line-index _ line c.loop-line-test.true) zip is);
      turns = subst (λ out. InTurn (length c.args.walk.now.order.items) (nexts_of out) (length order')) (sym c.in_ok-push.ensures.items)
          (turn_more (length c.args.walk.now.order.items) c.loop-line.out.items (length order) (length order') made c.loop-line.invariant.turns kept.turn.0 kept.turn.1);
    }
