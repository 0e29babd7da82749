use Rattle.std.proofs.Common.{arith, inl}
use Rattle.std.specs.Prelude.{[], map, string_bytes}
use Rattle.bonsai_words.specs.Ordered.{asked, ordered}
use Rattle.bonsai_run.specs.declared.faults.Fault.TheVariants.{Unwritten}
use Rattle.bonsai_run.proofs.Completing.{refused_for_memory}
use Rattle.bonsai_run.proofs.runs.run_alone.Goals as goal

pub returns-in-Ok-answer_of-clause-told : goal.returns-in-Ok-answer_of-clause-told
returns-in-Ok-answer_of-clause-told g c = λ h. ([], [], Unwritten, (c.tell_answer.ensures.unwritten h).0, c.tell_answer.ensures.told h)

pub returns-in-Ok-answer_of-clause-refused : goal.returns-in-Ok-answer_of-clause-refused
returns-in-Ok-answer_of-clause-refused g c = λ low high.
    let one = (c.tell_answer.ensures.unwritten (omega (arith, low), high)).0 in
    absurd (omega (arith, one, low))

pub returns-clause-complete : goal.returns-clause-complete
returns-clause-complete g c = λ told order tells is can calm quiet.
    inl (refused_for_memory told order (asked c.in-Ok.order) (ordered (map string_bytes c.args.words.now)) c.in-Ok.ensures.exact is can (g.H.Shelf.texts c.args.shelf.now) tells c.in-Err.fault c.in-Err.ensures.cause
    _ _ _ _ _ c.in-Err.ensures.blames calm c.refuse-in-Err.result c.refuse-in-Err.ensures.status)
