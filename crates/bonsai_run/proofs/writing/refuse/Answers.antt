use Rattle.bonsai_run.proofs.Appends.{tells, same_names}
use Rattle.bonsai_run.proofs.writing.refuse.Goals as goal

pub returns-clause-told : goal.returns-clause-told
returns-clause-told g c =
    tells _ _ _ _ _ c.write_fault.result (same_names _ _ _ _ _ _ _ _ _ _ c.as_bytes.ensures.value c.as_bytes-2.ensures.value c.write_fault.ensures)
