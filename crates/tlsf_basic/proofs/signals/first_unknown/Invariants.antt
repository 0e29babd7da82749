use Rattle.std.proofs.Common.{◌≡◌, ℕ, ◌<◌, false, Some, slice_get, take}
use Rattle.std.specs.Prelude.{All}
use Rattle.tlsf_basic.specs.declared.symbols.Lexeme.{Lexeme}
use Rattle.tlsf_basic.specs.Signals.{IsKnown, is_undeclared}
use Rattle.tlsf_basic.proofs.signals.first_unknown.Given as goal

abbrev pub invariant-loop-lexeme : goal.invariant-loop-lexeme
invariant-loop-lexeme l = record {
  known : All IsKnown (take l.lexeme-index l.lexemes);
  none : (k : ℕ) (m : Lexeme) → k < l.lexeme-index → slice_get l.lexemes k ≡ Some m → is_undeclared (take k l.lexemes) m ≡ false;
}
