use Rattle.std.proofs.Common.{ℕ, ◌≡◌, ◌<◌, length, get_or}
use Rattle.letter_tree.specs.Cut.{end_at}
use Rattle.letter_tree.proofs.cuts.numbers.Given as goal

abbrev pub invariant-loop-number : goal.invariant-loop-number
invariant-loop-number l = record {
  count : length l.out.items ≡ l.count;
  numbers : (i : ℕ) → get_or l.out.items i 0 < length l.ends;
  places : (i : ℕ) → i < l.number → end_at l.ends (get_or l.out.items (end_at l.ends i) 0) ≡ end_at l.ends i;
}
