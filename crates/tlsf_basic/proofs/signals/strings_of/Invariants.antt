use Rattle.std.proofs.Common.{◌≡◌, vec_len, string_bytes, encode_utf8_all, map, take}
use Rattle.tlsf_basic.specs.Signals.{name_of}
use Rattle.tlsf_basic.proofs.signals.strings_of.Given as goal

abbrev pub invariant-loop-lexeme : goal.invariant-loop-lexeme
invariant-loop-lexeme l = record {
  len : vec_len l.names ≡ l.lexeme-index;
  names : map string_bytes l.names.items ≡ map encode_utf8_all (map (name_of l.text) (take l.lexeme-index l.lexemes));
}
