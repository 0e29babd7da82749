use Rattle.std.proofs.Common.{◌∙◌, sym, ap, map, drop, string_bytes}
use Rattle.bonsai_words.specs.Ordered.{ordered_behind}
use Rattle.bonsai_words.proofs.OrderLemmas.{answers_at, ordered_first, ordered_none, no_command}
use Rattle.bonsai_words.proofs.NameLemmas.{order_names}
use Rattle.bonsai_words.proofs.readers.read_words.Goals as goal

pub returns-in_default-clause-exact : goal.returns-in_default-clause-exact
returns-in_default-clause-exact c = λ usage. ordered_none c.args.words.now (sym c.in_default.ensures.value)

pub returns-in-synth-clause-exact : goal.returns-in-synth-clause-exact
returns-in-synth-clause-exact c =
    let behind = drop 1 (map string_bytes c.args.words.now) in
    answers_at _ _ c.read_synth.result
    (ordered_first c.args.words.now c.in-Some.command.now c.as_str.result.now (sym c.in-Some.ensures.value) c.as_str.ensures.value
    ∙ ap (λ w. ordered_behind w behind) c.in-synth.is)
    c.read_synth.ensures.exact

pub returns-in-downset-clause-exact : goal.returns-in-downset-clause-exact
returns-in-downset-clause-exact c =
    let behind = drop 1 (map string_bytes c.args.words.now) in
    answers_at _ _ c.read_downset.result
    (ordered_first c.args.words.now c.in-Some.command.now c.as_str.result.now (sym c.in-Some.ensures.value) c.as_str.ensures.value
    ∙ ap (λ w. ordered_behind w behind) c.in-downset.is)
    c.read_downset.ensures.exact

pub returns-in-check-clause-exact : goal.returns-in-check-clause-exact
returns-in-check-clause-exact c =
    let behind = drop 1 (map string_bytes c.args.words.now) in
    answers_at _ _ c.read_check.result
    (ordered_first c.args.words.now c.in-Some.command.now c.as_str.result.now (sym c.in-Some.ensures.value) c.as_str.ensures.value
    ∙ ap (λ w. ordered_behind w behind) c.in-check.is)
    c.read_check.ensures.exact

pub returns-in-eval-clause-exact : goal.returns-in-eval-clause-exact
returns-in-eval-clause-exact c =
    let behind = drop 1 (map string_bytes c.args.words.now) in
    answers_at _ _ c.read_eval.result
    (ordered_first c.args.words.now c.in-Some.command.now c.as_str.result.now (sym c.in-Some.ensures.value) c.as_str.ensures.value
    ∙ ap (λ w. ordered_behind w behind) c.in-eval.is)
    c.read_eval.ensures.exact

pub returns-in-gen-clause-exact : goal.returns-in-gen-clause-exact
returns-in-gen-clause-exact c =
    let behind = drop 1 (map string_bytes c.args.words.now) in
    answers_at _ _ c.read_gen.result
    (ordered_first c.args.words.now c.in-Some.command.now c.as_str.result.now (sym c.in-Some.ensures.value) c.as_str.ensures.value
    ∙ ap (λ w. ordered_behind w behind) c.in-gen.is)
    c.read_gen.ensures.exact

pub returns-in_default-as_str-clause-exact : goal.returns-in_default-as_str-clause-exact
returns-in_default-as_str-clause-exact c = λ usage.
    let none = c.in_default-as_str in
    ordered_first c.args.words.now c.in-Some.command.now c.as_str.result.now (sym c.in-Some.ensures.value) c.as_str.ensures.value
    ∙ no_command c.as_str.result.now (drop 1 (map string_bytes c.args.words.now)) none.not-synth none.not-downset none.not-check none.not-eval none.not-gen

pub returns-in-synth-clause-names : goal.returns-in-synth-clause-names
returns-in-synth-clause-names c = order_names (map string_bytes c.args.words.now) c.read_synth.result (returns-in-synth-clause-exact c)

pub returns-in-downset-clause-names : goal.returns-in-downset-clause-names
returns-in-downset-clause-names c = order_names (map string_bytes c.args.words.now) c.read_downset.result (returns-in-downset-clause-exact c)

pub returns-in-check-clause-names : goal.returns-in-check-clause-names
returns-in-check-clause-names c = order_names (map string_bytes c.args.words.now) c.read_check.result (returns-in-check-clause-exact c)

pub returns-in-eval-clause-names : goal.returns-in-eval-clause-names
returns-in-eval-clause-names c = order_names (map string_bytes c.args.words.now) c.read_eval.result (returns-in-eval-clause-exact c)

pub returns-in-gen-clause-names : goal.returns-in-gen-clause-names
returns-in-gen-clause-names c = order_names (map string_bytes c.args.words.now) c.read_gen.result (returns-in-gen-clause-exact c)
