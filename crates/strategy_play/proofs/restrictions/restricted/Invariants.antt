use Rattle.std.proofs.Common.{◌≡◌, ℕ, ◌<◌, length, get_or}
use Rattle.word_core.specs.declared.branches.Branch.TheVariants.{Leaf}
use Rattle.strategy_play.specs.Restriction.{NodesFit, restricted_to}
use Rattle.strategy_play.proofs.restrictions.restricted.Given as goal

abbrev pub invariant-loop-node : goal.invariant-loop-node
invariant-loop-node l = record {
  count : length l.out.items ≡ l.node-index;
  fit : NodesFit l.other l.out.items;
  made : (k : ℕ) → k < length l.out.items → get_or l.out.items k (Leaf 0) ≡ restricted_to l.labels l.width l.own l.out.items (get_or l.nodes k (Leaf 0));
}
