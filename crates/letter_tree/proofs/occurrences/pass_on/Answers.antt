use Rattle.std.proofs.Common.{◌<◌, ap, arith, bit_or}
use Rattle.std.proofs.lemmas.Nat.{one_shl}
use Rattle.word_core.specs.declared.branches.Branch.TheVariants.{Leaf}
use Rattle.letter_tree.proofs.Copies.{read_at}
use Rattle.letter_tree.proofs.Joints.{fork_at}
use Rattle.letter_tree.proofs.SumSteps.{passing_split, passing_leaf}
use Rattle.letter_tree.proofs.occurrences.pass_on.Goals as goal

pub returns-in-Split : goal.returns-in-Split
returns-in-Split c =
    let e = read_at _ _ (Leaf 0) _ c.requires.place_in c.in-Split.is in
    let small : c.in-Split.signal < 64 = omega (arith, (fork_at _ _ _ _ _ _ c.requires.diagram e).signal_in, c.requires.diagram.narrow) in
    passing_split _ _ _ _ _ _ _ _ _ _ _ c.requires.diagram e c.requires.sum c.requires.passing (ap (bit_or c.args.sum) (one_shl c.in-Split.signal 64 small)) c.lower.ensures c.lower-in-Split.ensures

pub returns-in-Leaf : goal.returns-in-Leaf
returns-in-Leaf c = passing_leaf _ _ _ _ _ (read_at _ _ (Leaf 0) _ c.requires.place_in c.in-Leaf.is) c.requires.passing
