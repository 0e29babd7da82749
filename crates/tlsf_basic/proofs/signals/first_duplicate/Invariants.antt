use Rattle.std.proofs.Common.{◌≡◌, ℕ, ◌<◌, false, Some, slice_get, take, map}
use Rattle.indexmap.specs.IndexSet.{keys}
use Rattle.tlsf_basic.specs.declared.symbols.Lexeme.{Lexeme}
use Rattle.tlsf_basic.specs.Signals.{names_among, is_repeated}
use Rattle.tlsf_basic.proofs.signals.first_duplicate.Given as goal

abbrev pub invariant-loop-lexeme : goal.invariant-loop-lexeme
invariant-loop-lexeme l = record {
  names : map (λ k. k.now) (keys l.names) ≡ names_among l.text (take l.lexeme-index l.lexemes);
  none : (k : ℕ) (m : Lexeme) → k < l.lexeme-index → slice_get l.lexemes k ≡ Some m → is_repeated l.text (take k l.lexemes) m ≡ false;
}
