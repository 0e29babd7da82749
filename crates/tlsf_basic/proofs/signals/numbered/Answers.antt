use Rattle.std.proofs.Common.{◌≡◌, IfOk, map, ap, ◌∙◌, subst}
use Rattle.tlsf_basic.specs.Signals.{numbered_by, numbered}
use Rattle.tlsf_basic.proofs.Numbers.{seen, both_sides}
use Rattle.tlsf_basic.proofs.signals.numbered.Goals as goal

pub returns-clause-value : goal.returns-clause-value
unfolding numbered
returns-clause-value c =
    subst (λ names. IfOk c.numbered_by.result (λ w. w.items ≡ map (numbered_by c.args.text.now names) c.args.lexemes.now))
    (both_sides c.args.text.now c.args.lexemes.now _ _ _ _ _ (ap seen c.new-names.ensures.empty)
    (c.deref.ensures.value ∙ c.requires.are_inputs) (c.deref-2.ensures.value ∙ c.requires.are_outputs)
    c.in_ok-add_names.ensures.names c.in_ok-add_names-2.ensures.names)
    c.numbered_by.ensures.value
