use Rattle.std.proofs.Common.{◌≡◌, ℕ, ◌<◌, ◌≤◌, ◌+◌, ◌-◌, ◌++◌, ◌∙◌, List, length, refl, sym, ap, subst, arith}
use Rattle.std.specs.Int.{bit_at}
use Rattle.std.specs.List.{All, Contains, filter}
use Rattle.std.specs.Prelude.{Option, IfSome}
use Rattle.std.proofs.lemmas.Grind.{common_steps}
use Rattle.word_core.specs.Tree.{label_at, label_of}
use Rattle.action_groups.specs.Labels.{IsLabelled, shifted}
use Rattle.action_groups.specs.Memo.{Note, IsNoted, note_by, note_of}
use Rattle.action_groups.specs.Options.{IsOnce, HasOptions}
use Rattle.action_groups.specs.Part.{ArePairs}
use Rattle.action_groups.specs.Trees.{IsFirstTree}
use Rattle.action_groups.specs.declared.memos.Subtree.{Subtree}
use Rattle.action_groups.proofs.Notes.{all_noted}
use Rattle.action_groups.proofs.Pairs.{pairs_at}
use Rattle.action_groups.proofs.Subtrees.{labelled_same, effects_same, options_same, rest_trees_kept, first_trees_kept}
use Rattle.std.proofs.lemmas.List.Elements.{All-contains}
use Rattle.action_groups.specs.Sides.{leads}
use Rattle.action_groups.specs.Tests.{HasEffects, allows, signal_of}
use Rattle.action_groups.specs.Thinned.{AllowSame}
use Rattle.action_groups.specs.declared.ways.Way.{Way}
use Rattle.action_groups.proofs.Allowed.{rest_effects, split_effects}
use Rattle.action_groups.proofs.Grown.{split_of, label_below, labels_below}
use Rattle.action_groups.proofs.Splits.{rest_labelled, split_labelled, once_labelled, leaf_options, split_options, lists_self}
use Rattle.action_groups.proofs.firsts.+split_first.Goals as goal

pub returns-then-place-width-clause-chosen : goal.returns-then-place-width-clause-chosen
returns-then-place-width-clause-chosen t c =
    let letters = c.split_rest.new.letters.nodes.items in
    let rest = c.in_ok-rest.rest.items in
    let width : ℕ = leads c.args.order in
    let at : c.args.place ≡ width = omega (arith, c.requires.place, c.if-place-width.true, c.leads-width.ensures.value) in
    let labelled : IsLabelled width (label_of letters) rest = subst (λ n. IsLabelled n (label_of letters) rest) at c.in_ok-rest.ensures.labelled in
    leaf_options width c.in_ok-label.label (label_of letters) (label_of c.put_options.new.firsts.nodes.items) c.put_options.new.firsts.options.keys rest labelled c.in_ok-label.ensures.once c.in_ok-label.ensures.leaf

pub returns-then-not-is_tested-clause-labelled : goal.returns-then-not-is_tested-clause-labelled
returns-then-not-is_tested-clause-labelled t c =
    rest_labelled c.args.place (c.args.place + 1) (label_of c.split_first.new.firsts.nodes.items) c.in_ok-rest-2.rest.items c.in_ok-lifted.field-0.items refl
    (c.in_ok-lifted.ensures.value ∙ ap (shifted 0) c.deref.ensures.value)
    c.in_ok-rest-2.ensures.labelled

pub returns-clause-chosen : goal.returns-clause-chosen
returns-clause-chosen t c =
    let width : ℕ = leads c.args.order in
    let letters_low = c.split_first-2.new.letters.nodes.items in
    let letters_high = c.split_first-3.new.letters.nodes.items in
    let letters = c.push_split.new.nodes.items in
    let firsts_low = c.split_first-2.new.firsts.nodes.items in
    let firsts_high = c.split_first-3.new.firsts.nodes.items in
    let firsts = c.push_split-2.new.nodes.items in
    let lists_low = c.split_first-2.new.firsts.options.keys in
    let lists = c.split_first-3.new.firsts.options.keys in
    let some_letter : 0 < length letters_low = omega (arith, c.in_ok-low.ensures.letters_grow) in
    let some_first : 0 < length firsts_low = omega (arith, c.in_ok-low.ensures.grows) in
    let letter_size : c.len-letter_at.result ≡ length letters_low = grind (arith, common_steps) in
    let first_size : c.len-at.result ≡ length firsts_low = grind (arith, common_steps) in
    let narrow : width ≤ 64 = omega (arith, c.leads-width.ensures.value, c.leads-width.ensures.within, c.width-whole.ensures.value, c.width-whole.ensures.narrow) in
    let within : c.args.place < width = omega (arith, c.if-place-width.false, c.leads-width.ensures.value) in
    let letter_split = split_of c.args.place (c.len-letter_at.result - 1) letters_low letters_high letters some_letter (ap (λ n. n - 1) letter_size) c.in_ok-high.ensures.letters_kept c.in_ok-push_split.ensures.split in
    let first_split = split_of c.args.place (c.len-at.result - 1) firsts_low firsts_high firsts some_first (ap (λ n. n - 1) first_size) c.in_ok-high.ensures.kept c.in_ok-push_split-2.ensures.split in
    split_options width c.args.place (label_of letters_low) (label_of letters_high) (label_of letters) (label_of firsts_low) (label_of firsts_high) (label_of firsts) lists_low lists within letter_split first_split
    (label_below width (length lists_low) firsts_low narrow c.in_ok-low.ensures.nodes some_first)
    c.in_ok-high.ensures.lists c.in_ok-low.ensures.chosen c.in_ok-high.ensures.chosen

pub returns-clause-labelled : goal.returns-clause-labelled
returns-clause-labelled t c =
    let low = c.split_first-2.new.firsts.nodes.items in
    let high = c.split_first-3.new.firsts.nodes.items in
    let now = c.push_split-2.new.nodes.items in
    let some : 0 < length low = omega (arith, c.in_ok-low.ensures.grows) in
    let size : c.len-at.result ≡ length low = grind (arith, common_steps) in
    let split = split_of c.args.place (c.len-at.result - 1) low high now some (ap (λ n. n - 1) size) c.in_ok-high.ensures.kept c.in_ok-push_split-2.ensures.split in
    let all : List (ℕ × ℕ) = shifted 0 c.in_ok-low.low.items ++ shifted 1 c.in_ok-high.high.items in
    let pairs : shifted 0 c.deref-4.result.now ++ shifted 1 c.deref-5.result.now ≡ all =
    ap (λ (l : List (ℕ × ℕ)). shifted 0 l ++ shifted 1 c.deref-5.result.now) c.deref-4.ensures.value
    ∙ ap (λ (l : List (ℕ × ℕ)). shifted 0 c.in_ok-low.low.items ++ shifted 1 l) c.deref-5.ensures.value in
    let once : IsOnce all c.in_ok-pairs.pairs.items = subst (λ (l : List (ℕ × ℕ)). IsOnce l c.in_ok-pairs.pairs.items) pairs c.in_ok-pairs.ensures.once in
    once_labelled c.args.place (label_of now) all c.in_ok-pairs.pairs.items once
    (split_labelled c.args.place (c.args.place + 1) (label_of low) (label_of high) (label_of now) c.in_ok-low.low.items c.in_ok-high.high.items all refl split refl c.in_ok-low.ensures.labelled c.in_ok-high.ensures.labelled)

pub returns-then-place-width-clause-exact : goal.returns-then-place-width-clause-exact
returns-then-place-width-clause-exact t c = c.in_ok-rest.ensures.exact

pub returns-then-not-is_tested-clause-exact : goal.returns-then-not-is_tested-clause-exact
returns-then-not-is_tested-clause-exact t c =
    let within : c.args.place < c.args.order.inputs + c.args.order.outputs = omega (arith, c.leads-width.ensures.within, c.if-place-width.false) in
    let free = subst (λ s. All (λ w. bit_at w.edge.cube.care s ≡ 0) c.args.ways.now) c.signal-signal.ensures.value (c.is_tested.ensures c.if-not-is_tested.true) in
    rest_effects c.args.order c.args.place (c.args.place + 1) (label_of c.split_first.new.letters.nodes.items) c.split_first.new.letters.effects.keys c.args.ways.now refl within free c.in_ok-rest-2.ensures.exact

pub returns-clause-exact : goal.returns-clause-exact
returns-clause-exact t c =
    let low = c.split_first-2.new.letters.nodes.items in
    let high = c.split_first-3.new.letters.nodes.items in
    let now = c.push_split.new.nodes.items in
    let before = c.split_first-2.new.letters.effects.keys in
    let effects = c.split_first-3.new.letters.effects.keys in
    let ways = c.args.ways.now in
    let wide : c.args.order.inputs + c.args.order.outputs ≤ 64 = omega (arith, c.width-whole.ensures.value, c.width-whole.ensures.narrow) in
    let within : c.args.place < c.args.order.inputs + c.args.order.outputs = omega (arith, c.leads-width.ensures.within, c.if-place-width.false) in
    let some : 0 < length low = omega (arith, c.in_ok-low.ensures.letters_grow) in
    let size : c.len-letter_at.result ≡ length low = grind (arith, common_steps) in
    let split = split_of c.args.place (c.len-letter_at.result - 1) low high now some (ap (λ n. n - 1) size) c.in_ok-high.ensures.letters_kept c.in_ok-push_split.ensures.split in
    let unset : List Way = filter (λ w. allows w.edge.cube (signal_of c.args.order c.args.place) 0) ways in
    let set : List Way = filter (λ w. allows w.edge.cube (signal_of c.args.order c.args.place) 1) ways in
    let less : AllowSame c.args.order (c.args.place + 1) c.deref-2.result.now unset =
    subst (λ (l : List Way). AllowSame c.args.order (c.args.place + 1) l unset) (sym c.deref-2.ensures.value) c.in_ok-unset.ensures.same in
    let more : AllowSame c.args.order (c.args.place + 1) c.deref-3.result.now set =
    subst (λ (l : List Way). AllowSame c.args.order (c.args.place + 1) l set) (sym c.deref-3.ensures.value) c.in_ok-set.ensures.same in
    split_effects c.args.order c.args.place (c.args.place + 1) (label_of low) (label_of high) (label_of now) before effects ways unset set refl within split refl refl
    (label_below (c.args.order.inputs + c.args.order.outputs) (length before) low wide c.in_ok-low.ensures.letter_nodes some)
    c.in_ok-high.ensures.effect_lists
    (λ bits q p. c.in_ok-low.ensures.exact bits q p ∙ less bits q p) (λ bits q p. c.in_ok-high.ensures.exact bits q p ∙ more bits q p)

pub returns-then-place-width-clause-trees : goal.returns-then-place-width-clause-trees
returns-then-place-width-clause-trees t c =
    let order = c.args.order in
    let letters = c.args.letters.now in
    let letters_now = c.split_rest.new.letters in
    let firsts = c.args.firsts.now in
    let now = c.put_options.new.firsts in
    let rest = c.in_ok-rest.ensures in
    let done = c.in_ok-label.ensures in
    let wide : order.inputs + order.outputs ≤ 64 = omega (arith, c.width-whole.ensures.value, c.width-whole.ensures.narrow) in
    let narrow : leads order ≤ 64 = omega (arith, wide, c.leads-width.ensures.value, c.leads-width.ensures.within) in
    let longer : length letters.nodes.items ≤ length letters_now.nodes.items = omega (arith, rest.grows) in
    let more : length firsts.nodes.items ≤ length now.nodes.items = omega (arith, done.grows) in
    subst (All (IsFirstTree order letters_now.nodes.items letters_now.effects.keys now.nodes.items now.options.keys)) (sym c.put_options.ensures.memo)
    (first_trees_kept order letters.nodes.items letters_now.nodes.items letters.effects.keys letters_now.effects.keys firsts.nodes.items now.nodes.items firsts.options.keys now.options.keys firsts.memo
    wide c.requires.letter_nodes longer rest.kept rest.lists narrow c.requires.nodes more done.kept done.more done.lists c.requires.trees)

pub returns-in-Some-clause-labelled : goal.returns-in-Some-clause-labelled
returns-in-Some-clause-labelled t c =
    let firsts = c.args.firsts.now in
    let note : Note = note_of c.args.place c.args.ways.now c.in-Some.tree in
    let P : Note → Type 0 = IsFirstTree c.args.order c.args.letters.now.nodes.items c.args.letters.now.effects.keys firsts.nodes.items firsts.options.keys in
    let there : Contains firsts.memo note = subst (λ (o : Option Subtree). IfSome o (λ x. Contains firsts.memo (note_of c.args.place c.args.ways.now x))) c.in-Some.is c.in_ok-tree.ensures in
    let noted : P note = All-contains P firsts.memo note c.requires.trees there in
    labelled_same c.args.place (label_at firsts.nodes.items note.first) (label_of c.push_copy-in-Some.new.nodes.items) note.pairs c.in_ok-push_copy-2.ensures.copy noted.labelled

pub returns-in-Some-clause-exact : goal.returns-in-Some-clause-exact
returns-in-Some-clause-exact t c =
    let order = c.args.order in
    let letters = c.args.letters.now in
    let firsts = c.args.firsts.now in
    let effects = letters.effects.keys in
    let note : Note = note_of c.args.place c.args.ways.now c.in-Some.tree in
    let P : Note → Type 0 = IsFirstTree order letters.nodes.items effects firsts.nodes.items firsts.options.keys in
    let there : Contains firsts.memo note = subst (λ (o : Option Subtree). IfSome o (λ x. Contains firsts.memo (note_of c.args.place c.args.ways.now x))) c.in-Some.is c.in_ok-tree.ensures in
    let noted : P note = All-contains P firsts.memo note c.requires.trees there in
    let wide : order.inputs + order.outputs ≤ 64 = omega (arith, c.width-whole.ensures.value, c.width-whole.ensures.narrow) in
    effects_same order c.args.place (label_at letters.nodes.items note.letter) (label_of c.push_copy.new.nodes.items) effects effects c.args.ways.now c.in_ok-push_copy.ensures.copy
    (labels_below (order.inputs + order.outputs) (length effects) letters.nodes.items wide c.requires.letter_nodes note.letter noted.letter_within) (lists_self effects) noted.exact

pub returns-in-Some-clause-chosen : goal.returns-in-Some-clause-chosen
returns-in-Some-clause-chosen t c =
    let order = c.args.order in
    let letters = c.args.letters.now in
    let firsts = c.args.firsts.now in
    let lists = firsts.options.keys in
    let note : Note = note_of c.args.place c.args.ways.now c.in-Some.tree in
    let P : Note → Type 0 = IsFirstTree order letters.nodes.items letters.effects.keys firsts.nodes.items lists in
    let there : Contains firsts.memo note = subst (λ (o : Option Subtree). IfSome o (λ x. Contains firsts.memo (note_of c.args.place c.args.ways.now x))) c.in-Some.is c.in_ok-tree.ensures in
    let noted : P note = All-contains P firsts.memo note c.requires.trees there in
    let narrow : leads order ≤ 64 = omega (arith, c.leads-width.ensures.value, c.leads-width.ensures.within, c.width-whole.ensures.value, c.width-whole.ensures.narrow) in
    options_same (leads order) (label_at letters.nodes.items note.letter) (label_of c.push_copy.new.nodes.items) (label_at firsts.nodes.items note.first) (label_of c.push_copy-in-Some.new.nodes.items) lists lists
    c.in_ok-push_copy.ensures.copy c.in_ok-push_copy-2.ensures.copy
    (labels_below (leads order) (length lists) firsts.nodes.items narrow c.requires.nodes note.first noted.within) (lists_self lists) noted.chosen

pub returns-in-Some-clause-letter_trees : goal.returns-in-Some-clause-letter_trees
returns-in-Some-clause-letter_trees t c =
    let letters = c.args.letters.now in
    let effects = letters.effects.keys in
    let now = c.push_copy.new.nodes.items in
    let wide : c.args.order.inputs + c.args.order.outputs ≤ 64 = omega (arith, c.width-whole.ensures.value, c.width-whole.ensures.narrow) in
    let longer : length letters.nodes.items ≤ length now = omega (arith, c.in_ok-push_copy.ensures.grows) in
    rest_trees_kept c.args.order letters.nodes.items now effects effects letters.memo wide c.requires.letter_nodes longer c.in_ok-push_copy.ensures.kept (omega arith) (lists_self effects) c.requires.letter_trees

pub returns-in-Some-clause-trees : goal.returns-in-Some-clause-trees
returns-in-Some-clause-trees t c =
    let order = c.args.order in
    let letters = c.args.letters.now in
    let firsts = c.args.firsts.now in
    let letters_now = c.push_copy.new.nodes.items in
    let now = c.push_copy-in-Some.new.nodes.items in
    let wide : order.inputs + order.outputs ≤ 64 = omega (arith, c.width-whole.ensures.value, c.width-whole.ensures.narrow) in
    let narrow : leads order ≤ 64 = omega (arith, wide, c.leads-width.ensures.value, c.leads-width.ensures.within) in
    let longer : length letters.nodes.items ≤ length letters_now = omega (arith, c.in_ok-push_copy.ensures.grows) in
    let more : length firsts.nodes.items ≤ length now = omega (arith, c.in_ok-push_copy-2.ensures.grows) in
    let same_count : length firsts.options.keys ≤ length firsts.options.keys = omega arith in
    first_trees_kept order letters.nodes.items letters_now letters.effects.keys letters.effects.keys firsts.nodes.items now firsts.options.keys firsts.options.keys firsts.memo
    wide c.requires.letter_nodes longer c.in_ok-push_copy.ensures.kept (lists_self letters.effects.keys) narrow c.requires.nodes more c.in_ok-push_copy-2.ensures.kept same_count (lists_self firsts.options.keys) c.requires.trees

pub returns-clause-letter_trees : goal.returns-clause-letter_trees
returns-clause-letter_trees t c =
    let letters = c.split_first-3.new.letters in
    let effects = letters.effects.keys in
    let now = c.push_split.new.nodes.items in
    let wide : c.args.order.inputs + c.args.order.outputs ≤ 64 = omega (arith, c.width-whole.ensures.value, c.width-whole.ensures.narrow) in
    let longer : length letters.nodes.items ≤ length now = omega (arith, c.in_ok-push_split.ensures.grows) in
    let same_count : length effects ≤ length effects = omega arith in
    rest_trees_kept c.args.order letters.nodes.items now effects effects letters.memo wide c.in_ok-high.ensures.letter_nodes longer c.in_ok-push_split.ensures.kept same_count (lists_self effects) c.in_ok-high.ensures.letter_trees

pub returns-clause-trees : goal.returns-clause-trees
returns-clause-trees t c =
    let order = c.args.order in
    let letters = c.split_first-3.new.letters in
    let firsts = c.split_first-3.new.firsts in
    let effects = letters.effects.keys in
    let lists = firsts.options.keys in
    let letters_now = c.push_split.new.nodes.items in
    let now = c.push_split-2.new.nodes.items in
    let pairs = c.in_ok-pairs.pairs.items in
    let wide : order.inputs + order.outputs ≤ 64 = omega (arith, c.width-whole.ensures.value, c.width-whole.ensures.narrow) in
    let narrow : leads order ≤ 64 = omega (arith, wide, c.leads-width.ensures.value, c.leads-width.ensures.within) in
    let longer : length letters.nodes.items ≤ length letters_now = omega (arith, c.in_ok-push_split.ensures.grows) in
    let more : length firsts.nodes.items ≤ length now = omega (arith, c.in_ok-push_split-2.ensures.grows) in
    let letter_size : c.len-4.result ≡ length letters_now = grind (arith, common_steps) in
    let size : c.len-5.result ≡ length now = grind (arith, common_steps) in
    let letter : ℕ = c.len-4.result - 1 in
    let first : ℕ = c.len-5.result - 1 in
    let letter_at : letter ≡ length letters_now - 1 = ap (λ n. n - 1) letter_size in
    let at : first ≡ length now - 1 = ap (λ n. n - 1) size in
    let rest : ℕ = c.leads-width.result - c.args.place - 1 in
    let places : rest + 1 ≡ leads order - c.args.place = omega (arith, c.leads-width.ensures.value, c.if-place-width.false) in
    let same_count : length lists ≤ length lists = omega arith in
    let here : IsFirstTree order letters_now effects now lists (note_by c.args.place c.args.ways.now letter first pairs) = record {
      letter_within = omega (arith, letter_size, c.in_ok-push_split.ensures.grows);
      within = omega (arith, size, c.in_ok-push_split-2.ensures.grows);
      ranged = subst (λ n. ArePairs (leads order - c.args.place) n pairs) c.len-3.ensures.len (pairs_at rest (leads order - c.args.place) c.len-3.result pairs places c.in_ok-pairs.ensures.pairs);
      some = c.in_ok-pairs.ensures.some;
      labelled = subst (λ n. IsLabelled c.args.place (label_at now n) pairs) (sym at) (returns-clause-labelled t c);
      exact = subst (λ n. HasEffects order c.args.place (label_at letters_now n) effects c.args.ways.now) (sym letter_at) (returns-clause-exact t c);
      chosen = subst (λ n. HasOptions (leads order) (label_at letters_now n) (label_at now first) lists) (sym letter_at) (subst (λ n. HasOptions (leads order) (label_of letters_now) (label_at now n) lists) (sym at) (returns-clause-chosen t c));
    } in
    let noted = subst (λ (l : List (ℕ × ℕ)). IsNoted firsts.memo c.note.new.self (note_by c.args.place c.args.ways.now letter first l)) c.deref-6.ensures.value c.in_ok-note.ensures in
    all_noted (IsFirstTree order letters_now effects now lists) firsts.memo c.note.new.self (note_by c.args.place c.args.ways.now letter first pairs) noted
    (first_trees_kept order letters.nodes.items letters_now effects effects firsts.nodes.items now lists lists firsts.memo wide c.in_ok-high.ensures.letter_nodes longer c.in_ok-push_split.ensures.kept (lists_self effects)
    narrow c.in_ok-high.ensures.nodes more c.in_ok-push_split-2.ensures.kept same_count (lists_self lists) c.in_ok-high.ensures.trees) here
