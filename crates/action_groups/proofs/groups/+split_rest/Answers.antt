use Rattle.std.proofs.Common.{◌≡◌, ℕ, ◌<◌, ◌≤◌, ◌+◌, ◌-◌, ◌++◌, ◌∙◌, List, false, length, refl, sym, ap, subst, arith}
use Rattle.std.proofs.lemmas.Grind.{common_steps}
use Rattle.word_core.specs.Tree.{label_at, label_of}
use Rattle.std.specs.Int.{bit_at}
use Rattle.std.specs.List.{All, Contains, filter}
use Rattle.std.specs.Prelude.{Option, IfSome}
use Rattle.action_groups.specs.Part.{ArePairs}
use Rattle.action_groups.specs.declared.memos.Subtree.{Subtree}
use Rattle.action_groups.specs.Tests.{HasEffects, allows, signal_of}
use Rattle.action_groups.specs.Thinned.{AllowSame}
use Rattle.action_groups.specs.declared.ways.Way.{Way}
use Rattle.action_groups.proofs.Allowed.{leaf_effects, rest_effects, split_effects}
use Rattle.action_groups.proofs.Grown.{split_of, label_below}
use Rattle.action_groups.proofs.Splits.{rest_labelled, split_labelled, once_labelled, lists_self}
use Rattle.action_groups.specs.Labels.{IsLabelled, shifted}
use Rattle.action_groups.specs.Memo.{Note, IsNoted, note_by, note_of}
use Rattle.action_groups.specs.Options.{IsOnce}
use Rattle.action_groups.specs.Trees.{IsRestTree}
use Rattle.action_groups.proofs.Notes.{all_noted}
use Rattle.action_groups.proofs.Pairs.{pairs_at}
use Rattle.action_groups.proofs.Subtrees.{labelled_same, rest_trees_kept}
use Rattle.std.proofs.lemmas.List.Elements.{All-contains}
use Rattle.action_groups.proofs.groups.+split_rest.Goals as goal

pub returns-then-not-is_tested-clause-labelled : goal.returns-then-not-is_tested-clause-labelled
returns-then-not-is_tested-clause-labelled t c =
    rest_labelled c.args.place (c.args.place + 1) (label_of c.split_rest.new.letters.nodes.items) c.in_ok-rest.rest.items c.in_ok-lifted.field-0.items refl
    (c.in_ok-lifted.ensures.value ∙ ap (shifted 0) c.deref.ensures.value)
    c.in_ok-rest.ensures.labelled

pub returns-in-Some-clause-labelled : goal.returns-in-Some-clause-labelled
returns-in-Some-clause-labelled t c =
    let letters = c.args.letters.now in
    let note : Note = note_of c.args.place c.args.ways.now c.in-Some.tree in
    let there : Contains letters.memo note = subst (λ (o : Option Subtree). IfSome o (λ x. Contains letters.memo (note_of c.args.place c.args.ways.now x))) c.in-Some.is c.in_ok-tree.ensures in
    let noted : IsRestTree c.args.order letters.nodes.items letters.effects.keys note = All-contains (IsRestTree c.args.order letters.nodes.items letters.effects.keys) letters.memo note c.requires.trees there in
    labelled_same c.args.place (label_at letters.nodes.items note.letter) (label_of c.push_copy.new.nodes.items) note.pairs c.in_ok-push_copy.ensures.copy noted.labelled

pub returns-in-Some-clause-trees : goal.returns-in-Some-clause-trees
returns-in-Some-clause-trees t c =
    let letters = c.args.letters.now in
    let effects = letters.effects.keys in
    let now = c.push_copy.new.nodes.items in
    let wide : c.args.order.inputs + c.args.order.outputs ≤ 64 = omega (arith, c.width-width.ensures.value, c.width-width.ensures.narrow) in
    let longer : length letters.nodes.items ≤ length now = omega (arith, c.in_ok-push_copy.ensures.grows) in
    rest_trees_kept c.args.order letters.nodes.items now effects effects letters.memo wide c.requires.nodes longer c.in_ok-push_copy.ensures.kept (omega arith) (lists_self effects) c.requires.trees

pub returns-clause-labelled : goal.returns-clause-labelled
returns-clause-labelled t c =
    let low = c.split_rest-2.new.letters.nodes.items in
    let high = c.split_rest-3.new.letters.nodes.items in
    let now = c.push_split.new.nodes.items in
    let some : 0 < length low = omega (arith, c.in_ok-low.ensures.grows) in
    let size : c.len-at.result ≡ length low = grind (arith, common_steps) in
    let split = split_of c.args.place (c.len-at.result - 1) low high now some (ap (λ n. n - 1) size) c.in_ok-high.ensures.kept c.in_ok-push_split.ensures.split in
    let all : List (ℕ × ℕ) = shifted 0 c.in_ok-low.low.items ++ shifted 1 c.in_ok-high.high.items in
    let pairs : shifted 0 c.deref-4.result.now ++ shifted 1 c.deref-5.result.now ≡ all =
    ap (λ (l : List (ℕ × ℕ)). shifted 0 l ++ shifted 1 c.deref-5.result.now) c.deref-4.ensures.value
    ∙ ap (λ (l : List (ℕ × ℕ)). shifted 0 c.in_ok-low.low.items ++ shifted 1 l) c.deref-5.ensures.value in
    let once : IsOnce all c.in_ok-pairs.pairs.items = subst (λ (l : List (ℕ × ℕ)). IsOnce l c.in_ok-pairs.pairs.items) pairs c.in_ok-pairs.ensures.once in
    once_labelled c.args.place (label_of now) all c.in_ok-pairs.pairs.items once
    (split_labelled c.args.place (c.args.place + 1) (label_of low) (label_of high) (label_of now) c.in_ok-low.low.items c.in_ok-high.high.items all refl split refl c.in_ok-low.ensures.labelled c.in_ok-high.ensures.labelled)

pub returns-then-place-width-clause-trees : goal.returns-then-place-width-clause-trees
returns-then-place-width-clause-trees t c =
    let letters = c.args.letters.now in
    let now = c.put_effect.new.letters in
    let done = c.in_ok-label.ensures in
    let wide : c.args.order.inputs + c.args.order.outputs ≤ 64 = omega (arith, c.width-width.ensures.value, c.width-width.ensures.narrow) in
    let longer : length letters.nodes.items ≤ length now.nodes.items = omega (arith, done.grows) in
    subst (All (IsRestTree c.args.order now.nodes.items now.effects.keys)) (sym c.put_effect.ensures.memo)
    (rest_trees_kept c.args.order letters.nodes.items now.nodes.items letters.effects.keys now.effects.keys letters.memo wide c.requires.nodes longer done.kept done.more done.lists c.requires.trees)

pub returns-then-place-width-clause-exact : goal.returns-then-place-width-clause-exact
returns-then-place-width-clause-exact t c =
    let none : c.args.order.inputs + c.args.order.outputs ≤ c.args.place = omega (arith, c.width-width.ensures.value, c.if-place-width.true) in
    leaf_effects c.args.order c.args.place c.in_ok-label.label (label_of c.put_effect.new.letters.nodes.items) c.put_effect.new.letters.effects.keys c.args.ways.now none c.in_ok-label.ensures.leaf c.in_ok-label.ensures.numbers

pub returns-then-not-is_tested-clause-exact : goal.returns-then-not-is_tested-clause-exact
returns-then-not-is_tested-clause-exact t c =
    let within : c.args.place < c.args.order.inputs + c.args.order.outputs = omega (arith, c.width-width.ensures.value, c.if-place-width.false) in
    let untested : c.is_tested.result ≡ false = c.if-not-is_tested.true in
    let free = subst (λ s. All (λ w. bit_at w.edge.cube.care s ≡ 0) c.args.ways.now) c.signal-signal.ensures.value (c.is_tested.ensures untested) in
    rest_effects c.args.order c.args.place (c.args.place + 1) (label_of c.split_rest.new.letters.nodes.items) c.split_rest.new.letters.effects.keys c.args.ways.now refl within free c.in_ok-rest.ensures.exact

pub returns-clause-exact : goal.returns-clause-exact
returns-clause-exact t c =
    let low = c.split_rest-2.new.letters.nodes.items in
    let high = c.split_rest-3.new.letters.nodes.items in
    let now = c.push_split.new.nodes.items in
    let before = c.split_rest-2.new.letters.effects.keys in
    let effects = c.split_rest-3.new.letters.effects.keys in
    let ways = c.args.ways.now in
    let signal = c.signal-signal.result in
    let wide : c.args.order.inputs + c.args.order.outputs ≤ 64 = omega (arith, c.width-width.ensures.value, c.width-width.ensures.narrow) in
    let within : c.args.place < c.args.order.inputs + c.args.order.outputs = omega (arith, c.width-width.ensures.value, c.if-place-width.false) in
    let some : 0 < length low = omega (arith, c.in_ok-low.ensures.grows) in
    let size : c.len-at.result ≡ length low = grind (arith, common_steps) in
    let split = split_of c.args.place (c.len-at.result - 1) low high now some (ap (λ n. n - 1) size) c.in_ok-high.ensures.kept c.in_ok-push_split.ensures.split in
    let unset : List Way = filter (λ w. allows w.edge.cube (signal_of c.args.order c.args.place) 0) ways in
    let set : List Way = filter (λ w. allows w.edge.cube (signal_of c.args.order c.args.place) 1) ways in
    let less : AllowSame c.args.order (c.args.place + 1) c.deref-2.result.now unset =
    subst (λ (l : List Way). AllowSame c.args.order (c.args.place + 1) l unset) (sym c.deref-2.ensures.value) c.in_ok-unset.ensures.same in
    let more : AllowSame c.args.order (c.args.place + 1) c.deref-3.result.now set =
    subst (λ (l : List Way). AllowSame c.args.order (c.args.place + 1) l set) (sym c.deref-3.ensures.value) c.in_ok-set.ensures.same in
    split_effects c.args.order c.args.place (c.args.place + 1) (label_of low) (label_of high) (label_of now) before effects ways unset set refl within split refl refl
    (label_below (c.args.order.inputs + c.args.order.outputs) (length before) low wide c.in_ok-low.ensures.nodes some)
    c.in_ok-high.ensures.lists
    (λ bits q p. c.in_ok-low.ensures.exact bits q p ∙ less bits q p) (λ bits q p. c.in_ok-high.ensures.exact bits q p ∙ more bits q p)

pub returns-clause-trees : goal.returns-clause-trees
returns-clause-trees t c =
    let order = c.args.order in
    let whole : ℕ = order.inputs + order.outputs in
    let letters = c.split_rest-3.new.letters in
    let effects = letters.effects.keys in
    let now = c.push_split.new.nodes.items in
    let pairs = c.in_ok-pairs.pairs.items in
    let wide : whole ≤ 64 = omega (arith, c.width-width.ensures.value, c.width-width.ensures.narrow) in
    let longer : length letters.nodes.items ≤ length now = omega (arith, c.in_ok-push_split.ensures.grows) in
    let size : c.len-last.result ≡ length now = grind (arith, common_steps) in
    let last : ℕ = c.len-last.result - 1 in
    let at : last ≡ length now - 1 = ap (λ n. n - 1) size in
    let rest : ℕ = c.width-width.result - c.args.place - 1 in
    let places : rest + 1 ≡ whole - c.args.place = omega (arith, c.width-width.ensures.value, c.if-place-width.false) in
    let same_count : length effects ≤ length effects = omega arith in
    let here : IsRestTree order now effects (note_by c.args.place c.args.ways.now last 0 pairs) = record {
      within = omega (arith, c.in_ok-push_split.ensures.grows);
      ranged = subst (λ n. ArePairs (whole - c.args.place) n pairs) c.len-3.ensures.len (pairs_at rest (whole - c.args.place) c.len-3.result pairs places c.in_ok-pairs.ensures.pairs);
      some = c.in_ok-pairs.ensures.some;
      labelled = subst (λ n. IsLabelled c.args.place (label_at now n) pairs) (sym at) (returns-clause-labelled t c);
      exact = subst (λ n. HasEffects order c.args.place (label_at now n) effects c.args.ways.now) (sym at) (returns-clause-exact t c);
    } in
    let noted = subst (λ (l : List (ℕ × ℕ)). IsNoted letters.memo c.note.new.self (note_by c.args.place c.args.ways.now last 0 l)) c.deref-6.ensures.value c.in_ok-note.ensures in
    all_noted (IsRestTree order now effects) letters.memo c.note.new.self (note_by c.args.place c.args.ways.now last 0 pairs) noted
    (rest_trees_kept order letters.nodes.items now effects effects letters.memo wide c.in_ok-high.ensures.nodes longer c.in_ok-push_split.ensures.kept same_count (lists_self effects) c.in_ok-high.ensures.trees) here
