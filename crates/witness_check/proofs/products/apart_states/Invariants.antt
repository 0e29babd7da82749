use Rattle.std.proofs.Common.{◌≡◌, ℕ, ◌<◌, true, false, length, slice_index_or}
use Rattle.word_core.specs.Machine.{lines_at}
use Rattle.witness_check.specs.Product.{AreApart}
use Rattle.witness_check.proofs.products.apart_states.Given as goal

abbrev pub invariant-loop-state : goal.invariant-loop-state
invariant-loop-state l = record {
  counted : length l.apart.items ≡ l.state;
  apart : (s : ℕ) → s < l.state → slice_index_or l.apart.items s false ≡ true → AreApart (lines_at l.m s);
}
