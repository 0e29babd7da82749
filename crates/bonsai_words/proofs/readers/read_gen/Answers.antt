use Rattle.std.proofs.Common.{refl, map, drop, string_bytes, true}
use Rattle.bonsai_words.specs.Ordered.{gen_table, gen_of}
use Rattle.bonsai_words.proofs.OrderLemmas.{none_ordered, some_ordered, answers_at, answers_err, gen_minds, gen_looks}
use Rattle.bonsai_words.proofs.readers.read_gen.Goals as goal

pub returns-in_err-matches-clause-exact : goal.returns-in_err-matches-clause-exact
returns-in_err-matches-clause-exact c =
    answers_err _ c.from_residual.result c.in_err-matches.field-0.0 c.from_residual.ensures.1
    (none_ordered gen_table gen_of gen_minds (drop 1 (map string_bytes c.args.words.now)) c.in_err-matches.field-0.0 c.in_err-matches.ensures)

pub returns-clause-exact : goal.returns-clause-exact
returns-clause-exact c =
    answers_at _ _ c.gen_order.result
    (some_ordered gen_table gen_of gen_minds gen_looks (drop 1 (map string_bytes c.args.words.now)) c.in_ok-matches.matches true c.in_ok-matches.ensures (λ g gives. refl))
    c.gen_order.ensures.exact
