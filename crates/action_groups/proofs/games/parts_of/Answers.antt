use Rattle.std.proofs.Common.{ℕ, ◌≤◌, ◌<◌, ◌+◌, Bool, List, length, sym, subst, arith}
use Rattle.std.specs.Prelude.{Vec}
use Rattle.std.specs.List.{All}
use Rattle.std.specs.declared.alloc.Global.{Global}
use Rattle.std.proofs.lemmas.Result.{IfOk-weaker}
use Rattle.word_core.specs.declared.automata.Edge.{Edge}
use Rattle.word_core.specs.Tree.{label_of}
use Rattle.action_groups.specs.declared.games.Parts.{Parts}
use Rattle.action_groups.specs.declared.ways.Way.{Way}
use Rattle.action_groups.specs.Actions.{HasEffectRows, HasPartRows, HasSameLabels}
use Rattle.action_groups.specs.Tests.{HasEffects}
use Rattle.action_groups.specs.Parts.{HasSameActions}
use Rattle.action_groups.specs.Memo.{Note}
use Rattle.action_groups.specs.Trees.{IsRestTree, IsFirstTree}
use Rattle.action_groups.specs.Way.{AreSteps}
use Rattle.std.proofs.lemmas.List.Elements.{All-nil}
use Rattle.action_groups.proofs.Acts.{part_rows}
use Rattle.action_groups.proofs.Grown.{label_below}
use Rattle.action_groups.proofs.SameEffects.{same_actions}
use Rattle.action_groups.proofs.games.parts_of.Goals as goal

pub returns-clause-rows : goal.returns-clause-rows
returns-clause-rows c =
    let nodes = c.split_first.new.letters.nodes.items in
    let effects = c.split_first.new.letters.effects.keys in
    let ways = c.in_ok-ways.ways.items in
    let exact : HasEffects c.args.order 0 (label_of nodes) effects ways = subst (λ (l : List Way). HasEffects c.args.order 0 (label_of nodes) effects l) c.deref.ensures.value c.in_ok-pairs.ensures.exact in
    let P : Parts → Type 0 = HasEffectRows (length c.states-count.result.now) nodes effects in
    let Q : Parts → Type 0 = HasPartRows c.args.order.inputs c.args.order.outputs c.args.order.inputs_first c.args.a.now in
    let step : (p : Parts) → P p → Q p = λ p h.
    part_rows c.args.order c.args.a.now nodes effects ways p c.requires.signals c.in_ok-ways.ensures.exact exact
    (subst (λ (l : List (List Edge)). HasEffectRows (length l) nodes effects p) c.states-count.ensures.value h) in
    IfOk-weaker _ P Q step c.numbered.ensures.rows

pub returns-clause-same : goal.returns-clause-same
returns-clause-same c =
    let order = c.args.order in
    let nodes = c.split_first.new.letters.nodes.items in
    let effects = c.split_first.new.letters.effects.keys in
    let ways = c.in_ok-ways.ways.items in
    let exact : HasEffects order 0 (label_of nodes) effects ways = subst (λ (l : List Way). HasEffects order 0 (label_of nodes) effects l) c.deref.ensures.value c.in_ok-pairs.ensures.exact in
    let steps : All (λ (e : Vec (ℕ × ℕ × Bool) Global). AreSteps (length c.args.a.now.states) e.items) effects =
    subst (λ (l : List (List Edge)). All (λ (e : Vec (ℕ × ℕ × Bool) Global). AreSteps (length l) e.items) effects) c.states-count.ensures.value c.in_ok-pairs.ensures.effects in
    let wide : order.inputs + order.outputs ≤ 64 = omega (arith, order.narrow) in
    let some : 0 < length nodes = omega (arith, c.in_ok-pairs.ensures.letters_grow) in
    let below = label_below (order.inputs + order.outputs) (length effects) nodes wide c.in_ok-pairs.ensures.letter_nodes some in
    IfOk-weaker _ (HasSameLabels nodes effects) (HasSameActions order.inputs order.outputs order.inputs_first c.args.a.now)
    (same_actions order c.args.a.now nodes effects ways c.requires.signals c.in_ok-ways.ensures.exact exact steps below) c.numbered.ensures.same

pub split_first-requires-clause-letter_trees : goal.split_first-requires-clause-letter_trees
split_first-requires-clause-letter_trees c =
    let P : Note → Type 0 = IsRestTree c.args.order c.new.result.items c.new-2.result.keys in
    subst (All P) (sym c.new-3.ensures) (All-nil P)

pub split_first-requires-clause-trees : goal.split_first-requires-clause-trees
split_first-requires-clause-trees c =
    let P : Note → Type 0 = IsFirstTree c.args.order c.new.result.items c.new-2.result.keys c.new-4.result.items c.new-5.result.keys in
    subst (All P) (sym c.new-6.ensures) (All-nil P)
