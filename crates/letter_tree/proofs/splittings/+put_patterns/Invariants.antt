use Rattle.letter_tree.proofs.splittings.+put_patterns.Given as goal

abbrev pub decreases-put_patterns : goal.decreases-put_patterns
decreases-put_patterns l = l.at
