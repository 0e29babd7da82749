use Rattle.std.proofs.Common.{◌≡◌, ℕ, ◌-◌, ◌/◌, ◌^◌, ◌<◌, length}
use Rattle.std.specs.List.{All}
use Rattle.word_core.specs.Tree.{label_at}
use Rattle.letter_tree.specs.Diagram.{TreeData}
use Rattle.letter_tree.specs.Cut.{end_at, rest_label}
use Rattle.letter_tree.proofs.cuts.rests.Given as goal

abbrev pub invariant-loop-place : goal.invariant-loop-place
invariant-loop-place l = record {
  count : length l.out.items ≡ l.place-index;
  width : All (λ (t : TreeData). t.width ≡ l.whole - l.width) l.out.items;
  each : (i bits : ℕ) → i < l.place-index → rest_label l.out.items i (bits / 2 ^ l.width) ≡ label_at l.nodes (end_at l.ends i) bits;
}
