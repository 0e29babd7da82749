use Rattle.std.proofs.Common.{◌≡◌, ℕ, ◌≤◌, ◌∙◌, Bool, List, length, map, sym, ap, subst, arith}
use Rattle.std.specs.Prelude.{Vec}
use Rattle.std.specs.declared.alloc.Global.{Global}
use Rattle.std.proofs.lemmas.List.{take_all}
use Rattle.std.proofs.lemmas.List.Sorted.{All-permutation}
use Rattle.std.proofs.lemmas.Result.{IfOk-weaker}
use Rattle.action_groups.specs.declared.ways.Way.{Way}
use Rattle.action_groups.specs.Numbers.{HasSameNumbers, step_of, steps_number}
use Rattle.action_groups.specs.Way.{IsStep}
use Rattle.action_groups.proofs.Steps.{AreSorted, sorted_steps, numbers_permuted}
use Rattle.action_groups.proofs.ways.effect.Goals as goal

pub marked_once-requires-clause-steps : goal.marked_once-requires-clause-steps
marked_once-requires-clause-steps c = rw c.deref.ensures.value (All-permutation (IsStep c.args.count) _ _ c.sort.ensures.permutation c.loop-way.invariant.0)

pub marked_once-requires-clause-sorted : goal.marked_once-requires-clause-sorted
marked_once-requires-clause-sorted c = subst AreSorted (sym c.deref.ensures.value) (sorted_steps c.sort.new.self.items c.in_ok-sort.ensures.sorted)

pub returns-clause-numbers : goal.returns-clause-numbers
returns-clause-numbers c =
    let steps = c.loop-way.steps.items in
    let sorted = c.sort.new.self.items in
    let ways = c.args.ways.now in
    let end : length ways ≤ c.loop-way.way-index = omega arith in
    let all : steps ≡ map step_of ways = c.loop-way.invariant.1 ∙ ap (λ (l : List Way). map step_of l) (take_all c.loop-way.way-index ways end) in
    let P : Vec (ℕ × ℕ × Bool) Global → Type 0 = λ v. HasSameNumbers v.items c.deref.result.now in
    let Q : Vec (ℕ × ℕ × Bool) Global → Type 0 = λ v. HasSameNumbers v.items (map step_of ways) in
    let step : (v : Vec (ℕ × ℕ × Bool) Global) → P v → Q v = λ v h q p.
    h q p
    ∙ ap (λ (l : List (ℕ × ℕ × Bool)). steps_number l q p) c.deref.ensures.value
    ∙ numbers_permuted steps sorted c.sort.ensures.permutation q p
    ∙ ap (λ (l : List (ℕ × ℕ × Bool)). steps_number l q p) all in
    IfOk-weaker _ P Q step c.marked_once.ensures.numbers
