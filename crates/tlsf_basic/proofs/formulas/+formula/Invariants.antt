use Rattle.std.proofs.Common.{◌≡◌, ◌∷◌, [], length, ◌+◌, ◌-◌, ◌*◌}
use Rattle.tlsf_basic.specs.Reads.{turns}
use Rattle.tlsf_basic.specs.Marks.{is_and, is_or}
use Rattle.tlsf_basic.specs.Formulas.{read_unary, one_more, read_all, nested}
use Rattle.tlsf_basic.proofs.formulas.+formula.Given as goal

-- the levels of nesting that are left, and at one level the callers above the called
abbrev pub decreases-read_prefixed : goal.decreases-read_prefixed
decreases-read_prefixed l = l.left * 16 + 1

abbrev pub decreases-read_parens : goal.decreases-read_parens
decreases-read_parens l = l.left * 16 + 1

abbrev pub decreases-read_implied : goal.decreases-read_implied
decreases-read_implied l = l.left * 16 + 1

abbrev pub decreases-read_unary : goal.decreases-read_unary
decreases-read_unary l = l.left * 16 + 2

abbrev pub decreases-read_conjuncts : goal.decreases-read_conjuncts
decreases-read_conjuncts l = l.left * 16 + 3

abbrev pub decreases-read_second : goal.decreases-read_second
decreases-read_second l = l.left * 16 + 3

abbrev pub decreases-read_all_from : goal.decreases-read_all_from
decreases-read_all_from l = l.left * 16 + 4

abbrev pub decreases-read_all : goal.decreases-read_all
decreases-read_all l = l.left * 16 + 5

abbrev pub decreases-read_disjuncts : goal.decreases-read_disjuncts
decreases-read_disjuncts l = l.left * 16 + 6

abbrev pub decreases-read_any_from : goal.decreases-read_any_from
decreases-read_any_from l = l.left * 16 + 7

abbrev pub decreases-read_arrow_from : goal.decreases-read_arrow_from
decreases-read_arrow_from l = l.left * 16 + 8

abbrev pub decreases-read_arrow : goal.decreases-read_arrow
decreases-read_arrow l = l.left * 16 + 9

abbrev pub decreases-read_formula : goal.decreases-read_formula
decreases-read_formula l = l.left * 16 + 10

abbrev pub decreases-nested_unary : goal.decreases-nested_unary
decreases-nested_unary l = l.left * 16 + 0

abbrev pub decreases-nested_formula : goal.decreases-nested_formula
decreases-nested_formula l = l.left * 16 + 0

abbrev pub decreases-nested_arrow : goal.decreases-nested_arrow
decreases-nested_arrow l = l.left * 16 + 0

abbrev pub invariant-read_conjuncts-loop : goal.invariant-read_conjuncts-loop
invariant-read_conjuncts-loop l =
    turns is_and (one_more (read_unary (nested l.left))) (l.end - l.counter) l.operands l.rest
    ≡ turns is_and (one_more (read_unary (nested l.left))) (length l.tokens) (l.fn.first ∷ []) l.tokens

abbrev pub invariant-read_disjuncts-loop : goal.invariant-read_disjuncts-loop
invariant-read_disjuncts-loop l =
    turns is_or (one_more (read_all (nested l.left))) (l.end - l.counter) l.operands l.rest
    ≡ turns is_or (one_more (read_all (nested l.left))) (length l.tokens) (l.fn.first ∷ []) l.tokens
