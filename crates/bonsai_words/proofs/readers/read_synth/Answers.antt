use Rattle.std.proofs.Common.{refl, map, drop, string_bytes}
use Rattle.bonsai_words.specs.Ordered.{synth_table, synth_of}
use Rattle.bonsai_words.proofs.OrderLemmas.{none_ordered, some_ordered, flag_given, answers_at, answers_err, synth_minds, synth_looks}
use Rattle.bonsai_words.proofs.readers.read_synth.Goals as goal

pub returns-in_err-matches-clause-exact : goal.returns-in_err-matches-clause-exact
returns-in_err-matches-clause-exact c =
    answers_err _ c.from_residual.result c.in_err-matches.field-0.0 c.from_residual.ensures.1
    (none_ordered synth_table synth_of synth_minds (drop 1 (map string_bytes c.args.words.now)) c.in_err-matches.field-0.0 c.in_err-matches.ensures)

pub returns-clause-exact : goal.returns-clause-exact
returns-clause-exact c =
    let m = c.in_ok-matches.matches in
    answers_at _ _ c.synth_order.result
    (some_ordered synth_table synth_of synth_minds synth_looks (drop 1 (map string_bytes c.args.words.now)) m c.get_flag.result c.in_ok-matches.ensures
    (flag_given synth_table synth_of m c.get_flag.result refl c.get_flag.ensures.value c.get_flag.ensures.other))
    c.synth_order.ensures.exact
