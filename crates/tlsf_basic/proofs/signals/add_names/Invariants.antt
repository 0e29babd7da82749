use Rattle.std.proofs.Common.{◌≡◌, ◌≤◌, ◌+◌, take, map}
use Rattle.std.specs.Prelude.{fold}
use Rattle.indexmap.specs.IndexSet.{index_set_len, keys}
use Rattle.tlsf_basic.specs.Signals.{name_of, with_name}
use Rattle.tlsf_basic.proofs.signals.add_names.Given as goal

abbrev pub invariant-loop-lexeme : goal.invariant-loop-lexeme
invariant-loop-lexeme l = record {
  len : index_set_len l.names ≤ index_set_len l.fn.names + l.lexeme-index;
  names : map (λ k. k.now) (keys l.names) ≡ fold with_name (map (λ k. k.now) (keys l.fn.names)) (map (name_of l.text) (take l.lexeme-index l.lexemes));
}
