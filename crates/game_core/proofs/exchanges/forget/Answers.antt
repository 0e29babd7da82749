use Rattle.std.proofs.Common.{◌≡◌, ◌<◌, ◌∙◌, length, vec_len, sym, subst, arith}
use Rattle.std.proofs.lemmas.List.Elements.{All-set}
use Rattle.std.proofs.lemmas.Grind.{common_steps}
use Rattle.game_core.specs.declared.fronts.Note.{Note}
use Rattle.game_core.proofs.exchanges.forget.Goals as goal
use Rattle.game_core.proofs.exchanges.forget.Goals.{then-forget_in, else-forget_in}

pub loop-at-preserved : goal.loop-at-preserved
loop-at-preserved c =
    let lt : c.loop-at.at < length c.loop-at.notes.items = grind (arith, common_steps) in (
      grind (arith, common_steps),
      elim c.if-forget_in.branch [ then-forget_in w ↦ grind (arith, common_steps) | else-forget_in w ↦ grind (arith, common_steps) ],
      λ slots h.
          let P : Note → Type 0 = λ n. vec_len n.answers ≡ slots in
          All-set P c.loop-at.notes.items c.loop-at.at c.forget_in.new.note
          (c.forget_in.ensures ∙ subst P (sym c.index_mut.ensures.value) (c.loop-at.invariant.2 slots h c.loop-at.at c.index_mut.result.now lt))
          (c.loop-at.invariant.2 slots h),
    )
