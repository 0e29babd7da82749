use Rattle.std.proofs.Common.{sym, ap, ◌∙◌}
use Rattle.std.specs.Str.{bytes_eq}
use Rattle.tlsf_basic.specs.declared.symbols.Symbol.TheVariants.{Signal}
use Rattle.tlsf_basic.specs.Signals.{signal_at}
use Rattle.tlsf_basic.proofs.Numbers.{position-seen, cut}
use Rattle.tlsf_basic.proofs.signals.symbol_of.Goals as goal

pub returns-in-Some-clause-value : goal.returns-in-Some-clause-value
returns-in-Some-clause-value c =
    ap Signal (c.unwrap_or.ensures ∙ cut c.try_from.result c.in-Some.index c.try_from.ensures)
    ∙ ap signal_at (c.in-Some.ensures.index ∙ sym (position-seen (bytes_eq c.args.name.now) c.args.names.now.keys))

pub returns-in-None-clause-value : goal.returns-in-None-clause-value
returns-in-None-clause-value c =
    ap signal_at (c.in-None.ensures.index ∙ sym (position-seen (bytes_eq c.args.name.now) c.args.names.now.keys))
