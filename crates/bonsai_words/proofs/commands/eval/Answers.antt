use Rattle.std.proofs.Common.{refl, ap, subst, codes, map, string_bytes}
use Rattle.clap.specs.Words.{App, is_simple_and_free}
use Rattle.bonsai_words.specs.Parsing.{IsTaken}
use Rattle.bonsai_words.specs.Ordered.{eval_table}
use Rattle.bonsai_words.proofs.OrderLemmas.{sorted_from, eval_built}
use Rattle.bonsai_words.proofs.commands.eval.Goals as goal

pub returns : goal.returns
returns c =
    let is = c.in_ok-eval_command.ensures in
    let taken = c.sort.ensures (ap is_simple_and_free is) in
    sorted_from (codes "eval") eval_table refl eval_built c.args.words.now c.sort.result
    (subst (λ (a : App). IsTaken a (map string_bytes c.args.words.now) c.sort.result) is taken)
