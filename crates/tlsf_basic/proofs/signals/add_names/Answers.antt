use Rattle.std.proofs.Common.{sym, ap, ◌∙◌}
use Rattle.tlsf_basic.specs.Signals.{with_name}
use Rattle.tlsf_basic.proofs.Numbers.{seen, insert-seen, fold_more, len_more}
use Rattle.tlsf_basic.proofs.signals.add_names.Goals as goal

pub loop-lexeme-preserved : goal.loop-lexeme-preserved
loop-lexeme-preserved c =
    record {
      len = len_more _ _ _ _ _ c.in_ok-insert_full.ensures.len c.loop-lexeme.invariant.len;
      names =
          ap seen c.in_ok-insert_full.ensures.keys
          ∙ insert-seen c.loop-lexeme.names.keys c.bytes_of.result
          ∙ ap (λ z. with_name z c.bytes_of.result.now) c.loop-lexeme.invariant.names
          ∙ ap (with_name _) c.bytes_of.ensures
          ∙ sym (fold_more c.args.text.now (seen c.args.names.now.keys) c.args.lexemes.now c.loop-lexeme.lexeme-index _ c.loop-lexeme-test.true);
    }
