use Rattle.bonsai_run.proofs.OneVerdict.{verdicts_are_alike, verdict_is_one}
use Rattle.bonsai_run.proofs.laws.verdict_is_one.Goals as goal

pub returns-clause-alike : goal.returns-clause-alike
returns-clause-alike c = verdicts_are_alike

pub returns-clause-one : goal.returns-clause-one
returns-clause-one c = verdict_is_one
