use Rattle.std.proofs.Common.{refl, map, drop, string_bytes}
use Rattle.bonsai_words.specs.Ordered.{downset_table, downset_of}
use Rattle.bonsai_words.proofs.OrderLemmas.{none_ordered, some_ordered, flag_given, answers_at, answers_err, downset_minds, downset_looks}
use Rattle.bonsai_words.proofs.readers.read_downset.Goals as goal

pub returns-in_err-matches-clause-exact : goal.returns-in_err-matches-clause-exact
returns-in_err-matches-clause-exact c =
    answers_err _ c.from_residual.result c.in_err-matches.field-0.0 c.from_residual.ensures.1
    (none_ordered downset_table downset_of downset_minds (drop 1 (map string_bytes c.args.words.now)) c.in_err-matches.field-0.0 c.in_err-matches.ensures)

pub returns-clause-exact : goal.returns-clause-exact
returns-clause-exact c =
    let m = c.in_ok-matches.matches in
    answers_at _ _ c.downset_order.result
    (some_ordered downset_table downset_of downset_minds downset_looks (drop 1 (map string_bytes c.args.words.now)) m c.get_flag.result c.in_ok-matches.ensures
    (flag_given downset_table downset_of m c.get_flag.result refl c.get_flag.ensures.value c.get_flag.ensures.other))
    c.downset_order.ensures.exact
