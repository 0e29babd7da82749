use Rattle.std.proofs.Common.{◌+◌, ◌*◌, max, map, take}
use denote.Param.Weighed.{most}
use Rattle.ltl_form.proofs.formulas.Ltl.TheLaws.{the_size}
use Rattle.ltl_form.specs.Form.{MadePair}
use Rattle.ltl_form.specs.Tree.{sides, all_sides, any_sides}
use Rattle.ltl_form.proofs.pairs.+pairs.Given as goal

abbrev pub invariant-all_of-loop-f : goal.invariant-all_of-loop-f
invariant-all_of-loop-f l = MadePair l.fn.forms l.forms l.whole (all_sides (map sides (take l.f-index l.fs)))

abbrev pub invariant-any_of-loop-f : goal.invariant-any_of-loop-f
invariant-any_of-loop-f l = MadePair l.fn.forms l.forms l.whole (any_sides (map sides (take l.f-index l.fs)))

-- each formula is deeper than those inside it, with a step between for the functions of several
abbrev pub decreases-pair_of : goal.decreases-pair_of
decreases-pair_of l = 2 * the_size l.f.now

abbrev pub decreases-finally_of : goal.decreases-finally_of
decreases-finally_of l = 2 * the_size l.f.now + 1

abbrev pub decreases-globally_of : goal.decreases-globally_of
decreases-globally_of l = 2 * the_size l.f.now + 1

abbrev pub decreases-two_of : goal.decreases-two_of
decreases-two_of l = 2 * max (the_size l.f.now) (the_size l.g.now) + 1

abbrev pub decreases-all_of : goal.decreases-all_of
decreases-all_of l = 2 * most the_size l.fs.now + 1

abbrev pub decreases-any_of : goal.decreases-any_of
decreases-any_of l = 2 * most the_size l.fs.now + 1
