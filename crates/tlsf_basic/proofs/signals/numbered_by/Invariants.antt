use Rattle.std.proofs.Common.{◌≡◌, length, take, map}
use Rattle.std.specs.Prelude.{All}
use Rattle.indexmap.specs.IndexSet.{index_set_len, keys}
use Rattle.tlsf_basic.specs.Words.{SpanWithin}
use Rattle.tlsf_basic.specs.Signals.{IsSignalBelow, numbered_by}
use Rattle.tlsf_basic.proofs.signals.numbered_by.Given as goal

abbrev pub invariant-loop-lexeme : goal.invariant-loop-lexeme
invariant-loop-lexeme l = record {
  value : l.out.items ≡ map (numbered_by l.text (map (λ k. k.now) (keys l.names))) (take l.lexeme-index l.lexemes);
  within : All (SpanWithin (length l.text)) l.out.items;
  below : All (IsSignalBelow (index_set_len l.names)) l.out.items;
}
