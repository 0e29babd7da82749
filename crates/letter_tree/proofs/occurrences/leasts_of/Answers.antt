use Rattle.std.proofs.Common.{ℕ, List, Option, length, sym, subst}
use Rattle.std.specs.List.{All}
use Rattle.std.proofs.lemmas.List.Sorted.{All-permutation}
use Rattle.word_core.specs.declared.branches.Branch.{Branch}
use Rattle.letter_tree.specs.Diagram.{HasLeaf, IsRooted}
use Rattle.letter_tree.specs.Occurrence.{AreLeasts}
use Rattle.letter_tree.specs.Sums.{ArePassing, ArePairsOf}
use Rattle.letter_tree.proofs.SumSteps.{leasts_exact, some_label, pair_leaves}
use Rattle.letter_tree.proofs.occurrences.leasts_of.Goals as goal

pub returns-clause-leaves : goal.returns-clause-leaves
returns-clause-leaves c =
    let made : ArePairsOf c.branches-nodes.result.now c.deref.result.now (length c.branches-nodes.result.now) c.in_ok-out.out.items = c.in_ok-out.ensures in
    subst (λ (n : List Branch). All (λ (p : ℕ × ℕ). HasLeaf n p.1) c.sort.new.self.items) c.branches-nodes.ensures.value
    (All-permutation (λ (p : ℕ × ℕ). HasLeaf c.branches-nodes.result.now p.1) _ _ c.in_ok-sort.ensures.permutation (pair_leaves _ _ _ _ made))

pub returns-clause-exact : goal.returns-clause-exact
returns-clause-exact c =
    let nodes = c.branches-nodes.result.now in
    let made : ArePairsOf nodes c.in_ok-sums.sums.items (length nodes) c.in_ok-out.out.items =
    subst (λ (l : List (Option ℕ)). ArePairsOf nodes l (length nodes) c.in_ok-out.out.items) c.deref.ensures.value c.in_ok-out.ensures in
    let passing : ArePassing c.args.t.now.width nodes 0 c.in_ok-sums.sums.items = subst (λ w. ArePassing w nodes 0 c.in_ok-sums.sums.items) c.width.ensures.width c.in_ok-sums.ensures in
    let rooted : IsRooted c.args.t.now.width nodes = subst (IsRooted c.args.t.now.width) (sym c.branches-nodes.ensures.value) c.branches-nodes.ensures.known in
    subst (λ (n : List Branch). AreLeasts c.args.t.now.width n c.sort.new.self.items) c.branches-nodes.ensures.value
    (leasts_exact c.args.t.now.width nodes c.in_ok-sums.sums.items c.in_ok-out.out.items c.sort.new.self.items rooted passing made c.in_ok-sort.ensures.permutation c.in_ok-sort.ensures.sorted)

pub returns-clause-some : goal.returns-clause-some
returns-clause-some c = some_label _ _ _ (returns-clause-exact c)
