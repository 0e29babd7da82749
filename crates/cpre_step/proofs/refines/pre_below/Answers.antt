use Rattle.std.proofs.lemmas.Result.{IfOk-weaker}
use Rattle.cpre_step.proofs.ByValuations.{refines_by_valuations}
use Rattle.cpre_step.proofs.refines.pre_below.Goals as goal

pub returns-clause-valuations : goal.returns-clause-valuations
returns-clause-valuations g c letters covering =
    IfOk-weaker _ _ _ (refines_by_valuations c.args.g.now c.known.ensures letters covering (g.D.Downset.entries c.args.d.now) c.args.f.now) c.by_options.ensures
