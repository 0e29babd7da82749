use Rattle.std.proofs.Common.{arith, ◌∙◌, ap, sym}
use Rattle.cover_sets.proofs.Orders.{numbers_push, numbers_no, numbers_are}
use Rattle.cover_sets.specs.Numbers.{joined}
use Rattle.cover_sets.proofs.number_sets.NumberSet.to_list.Goals as goal
use Rattle.cover_sets.proofs.number_sets.NumberSet.to_list.Goals.{then-contains+in_ok-push, else-contains}

pub loop-n-preserved : goal.loop-n-preserved
loop-n-preserved c =
    elim c.if-contains.branch [
      | then-contains+in_ok-push w ↦
          ap (λ v. v.items) w.numbers-is
          ∙ numbers_push (joined c.args.self.now.words) c.loop-n.n _ _ c.contains.result c.loop-n.invariant c.contains.ensures w.if-contains.true w.in_ok-push.ensures.items
      | else-contains w ↦
          ap (λ v. v.items) w.numbers-is
          ∙ numbers_no (joined c.args.self.now.words) c.loop-n.n _ c.loop-n.invariant (sym c.contains.ensures ∙ w.if-contains.false)
    ]

pub returns : goal.returns
returns c = c.loop-n.invariant ∙ numbers_are (joined c.args.self.now.words) c.loop-n.n (omega arith)
