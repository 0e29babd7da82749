use Rattle.std.proofs.Common.{◌≤◌, sym, subst}
use Rattle.tlsf_basic.specs.Reads.{Fails}
use Rattle.tlsf_basic.specs.Mains.{read_text}
use Rattle.tlsf_basic.proofs.Kept.{fault_within}
use Rattle.tlsf_basic.proofs.specifications.whole_text.Goals as goal

pub returns-in-Err-Fault-clause-place : goal.returns-in-Err-Fault-clause-place
returns-in-Err-Fault-clause-place c =
    subst (λ place. place ≤ c.args.len) (sym c.place_of-place.ensures)
    (fault_within c.args.len c.args.lexemes.now c.in-Err-Fault.what c.in-Err-Fault.rest.now c.requires
    (subst (λ e. Fails e (read_text 256 c.args.lexemes.now)) c.in-Err-Fault.field-0-is c.in-Err-Fault.ensures))
