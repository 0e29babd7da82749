use Rattle.std.proofs.Common.{refl, ap, subst, codes, map, string_bytes}
use Rattle.clap.specs.Words.{App, is_simple_and_free}
use Rattle.bonsai_words.specs.Parsing.{IsTaken}
use Rattle.bonsai_words.specs.Ordered.{synth_table}
use Rattle.bonsai_words.proofs.OrderLemmas.{sorted_from, synth_built}
use Rattle.bonsai_words.proofs.commands.synth.Goals as goal

pub returns : goal.returns
returns c =
    let is = c.in_ok-synth_command.ensures in
    let taken = c.sort.ensures (ap is_simple_and_free is) in
    sorted_from (codes "synth") synth_table refl synth_built c.args.words.now c.sort.result
    (subst (λ (a : App). IsTaken a (map string_bytes c.args.words.now) c.sort.result) is taken)
