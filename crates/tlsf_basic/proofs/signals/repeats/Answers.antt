use Rattle.std.proofs.Common.{sym, ◌∙◌}
use Rattle.tlsf_basic.proofs.Numbers.{found_is}
use Rattle.tlsf_basic.proofs.signals.repeats.Goals as goal

pub returns-clause-found : goal.returns-clause-found
returns-clause-found c =
    found_is _ c.args.names.now.keys c.bytes_of.result _ _ c.in_ok-is_new.ensures.added c.bytes_of.ensures (sym c.is_declared.ensures ∙ c.if-not-is_declared.false)
