use Rattle.letter_tree.proofs.reached_nodes.+visit.Given as goal

abbrev pub decreases-visit : goal.decreases-visit
decreases-visit l = l.at
