use Rattle.std.proofs.Common.{◌≡◌, ℕ, ◌≤◌, ◌+◌, ◌-◌, ◌∙◌, List, length, get_or, sym, ap, subst, arith}
use Rattle.word_core.specs.declared.branches.Branch.{Branch}
use Rattle.word_core.specs.Tree.{label_of}
use Rattle.action_groups.specs.declared.games.Parts.{Parts}
use Rattle.action_groups.specs.First.{AreOptions}
use Rattle.action_groups.specs.Part.{ArePairs}
use Rattle.action_groups.specs.Rank.{IsNumbering}
use Rattle.action_groups.specs.Sides.{leads, follows, letters_of}
use Rattle.action_groups.proofs.Acts.{effect_rows}
use Rattle.action_groups.proofs.Chosen.{parts_chosen}
use Rattle.action_groups.proofs.Distinct.{lists_apart}
use Rattle.action_groups.proofs.Grouping.{all_met, parts_numbered}
use Rattle.action_groups.proofs.Grown.{label_below}
use Rattle.action_groups.proofs.Lists.{pair_decides, step_decides}
use Rattle.action_groups.proofs.games.numbered.Goals as goal

pub returns-clause-letters : goal.returns-clause-letters
returns-clause-letters c =
    let letters = c.args.letters.nodes.items in
    let firsts = c.args.firsts.nodes.items in
    let p : Parts = record {
      actions = c.in_ok-actions.field-0;
      classes = c.in_ok-class_list.field-0;
      letters = c.in_ok-relabelled.field-0;
      firsts = c.in_ok-relabelled-2.field-0;
    } in
    let letter : (bits : ℕ) → label_of p.letters.items bits ≡ get_or c.in_ok-labels.labels.numbers.items (label_of letters bits) 0 = λ bits.
    c.in_ok-relabelled.ensures.labels bits
    ∙ ap (λ (ns : List ℕ). get_or ns (label_of c.deref-2.result.now bits) 0) c.deref-3.ensures.value
    ∙ ap (λ (l : List Branch). get_or c.in_ok-labels.labels.numbers.items (label_of l bits) 0) c.deref-2.ensures.value in
    let first_of : (bits : ℕ) → label_of p.firsts.items bits ≡ get_or c.in_ok-classes.classes.numbers.items (label_of firsts bits) 0 = λ bits.
    c.in_ok-relabelled-2.ensures.labels bits
    ∙ ap (λ (ns : List ℕ). get_or ns (label_of c.deref-4.result.now bits) 0) c.deref-5.ensures.value
    ∙ ap (λ (l : List Branch). get_or c.in_ok-classes.classes.numbers.items (label_of l bits) 0) c.deref-4.ensures.value in
    parts_chosen (leads c.args.order) c.len-lists.result letters firsts c.args.firsts.options.keys c.args.pairs.items c.in_ok-classes.classes.order.items c.in_ok-classes.classes.numbers.items c.in_ok-labels.labels.numbers.items p
    c.requires.labelled c.requires.chosen c.in_ok-classes.ensures.numbering (subst (λ w. ArePairs w c.len-lists.result c.in_ok-classes.classes.order.items) c.leads-width.ensures.value c.in_ok-classes.ensures.ranked.order) c.in_ok-class_list.ensures.value letter first_of

pub returns-clause-rows : goal.returns-clause-rows
returns-clause-rows c =
    let letters = c.args.letters.nodes.items in
    let firsts = c.args.firsts.nodes.items in
    let p : Parts = record {
      actions = c.in_ok-actions.field-0;
      classes = c.in_ok-class_list.field-0;
      letters = c.in_ok-relabelled.field-0;
      firsts = c.in_ok-relabelled-2.field-0;
    } in
    let letter : (bits : ℕ) → label_of p.letters.items bits ≡ get_or c.in_ok-labels.labels.numbers.items (label_of letters bits) 0 = λ bits.
    c.in_ok-relabelled.ensures.labels bits
    ∙ ap (λ (ns : List ℕ). get_or ns (label_of c.deref-2.result.now bits) 0) c.deref-3.ensures.value
    ∙ ap (λ (l : List Branch). get_or c.in_ok-labels.labels.numbers.items (label_of l bits) 0) c.deref-2.ensures.value in
    let lists = c.args.firsts.options.keys in
    let classes = c.in_ok-classes.classes.order.items in
    let met : c.in_ok-met.met.items ≡ letters_of c.args.order lists classes = c.in_ok-met.ensures.value ∙ ap (λ (l : List (ℕ × ℕ)). letters_of c.args.order lists l) c.deref.ensures.value in
    let labelling : IsNumbering (letters_of c.args.order lists classes) c.in_ok-labels.labels.order.items c.in_ok-labels.labels.numbers.items =
    subst (λ (l : List (ℕ × ℕ)). IsNumbering l c.in_ok-labels.labels.order.items c.in_ok-labels.labels.numbers.items) met c.in_ok-labels.ensures.numbering in
    effect_rows c.args.count letters c.args.letters.effects.keys (letters_of c.args.order lists classes) c.in_ok-labels.labels.order.items c.in_ok-labels.labels.numbers.items p
    (all_met c.args.order letters firsts lists c.args.pairs.items classes c.in_ok-classes.classes.numbers.items c.requires.labelled c.requires.chosen c.in_ok-classes.ensures.numbering)
    labelling letter c.in_ok-actions.ensures.numbers

pub returns-clause-same : goal.returns-clause-same
returns-clause-same c =
    let letters = c.args.letters.nodes.items in
    let firsts = c.args.firsts.nodes.items in
    let p : Parts = record {
      actions = c.in_ok-actions.field-0;
      classes = c.in_ok-class_list.field-0;
      letters = c.in_ok-relabelled.field-0;
      firsts = c.in_ok-relabelled-2.field-0;
    } in
    let letter : (bits : ℕ) → label_of p.letters.items bits ≡ get_or c.in_ok-labels.labels.numbers.items (label_of letters bits) 0 = λ bits.
    c.in_ok-relabelled.ensures.labels bits
    ∙ ap (λ (ns : List ℕ). get_or ns (label_of c.deref-2.result.now bits) 0) c.deref-3.ensures.value
    ∙ ap (λ (l : List Branch). get_or c.in_ok-labels.labels.numbers.items (label_of l bits) 0) c.deref-2.ensures.value in
    let effects = c.args.letters.effects.keys in
    let wide : c.args.order.inputs + c.args.order.outputs ≤ 64 = omega (arith, c.width-whole.ensures.value, c.width-whole.ensures.narrow) in
    let below = label_below (c.args.order.inputs + c.args.order.outputs) (length effects) letters wide c.requires.letter_nodes c.requires.some_letter in
    λ bits others e.
    letter bits
    ∙ ap (λ l. get_or c.in_ok-labels.labels.numbers.items l 0) (lists_apart _ step_decides effects c.len-effects.ensures.unique (label_of letters bits) (label_of letters others) (below bits) (below others) e)
    ∙ sym (letter others)

pub returns-clause-numbered : goal.returns-clause-numbered
returns-clause-numbered c =
    let letters = c.args.letters.nodes.items in
    let firsts = c.args.firsts.nodes.items in
    let p : Parts = record {
      actions = c.in_ok-actions.field-0;
      classes = c.in_ok-class_list.field-0;
      letters = c.in_ok-relabelled.field-0;
      firsts = c.in_ok-relabelled-2.field-0;
    } in
    let letter : (bits : ℕ) → label_of p.letters.items bits ≡ get_or c.in_ok-labels.labels.numbers.items (label_of letters bits) 0 = λ bits.
    c.in_ok-relabelled.ensures.labels bits
    ∙ ap (λ (ns : List ℕ). get_or ns (label_of c.deref-2.result.now bits) 0) c.deref-3.ensures.value
    ∙ ap (λ (l : List Branch). get_or c.in_ok-labels.labels.numbers.items (label_of l bits) 0) c.deref-2.ensures.value in
    let first_of : (bits : ℕ) → label_of p.firsts.items bits ≡ get_or c.in_ok-classes.classes.numbers.items (label_of firsts bits) 0 = λ bits.
    c.in_ok-relabelled-2.ensures.labels bits
    ∙ ap (λ (ns : List ℕ). get_or ns (label_of c.deref-4.result.now bits) 0) c.deref-5.ensures.value
    ∙ ap (λ (l : List Branch). get_or c.in_ok-classes.classes.numbers.items (label_of l bits) 0) c.deref-4.ensures.value in
    let lists = c.args.firsts.options.keys in
    let classes = c.in_ok-classes.classes.order.items in
    let met : c.in_ok-met.met.items ≡ letters_of c.args.order lists classes = c.in_ok-met.ensures.value ∙ ap (λ (l : List (ℕ × ℕ)). letters_of c.args.order lists l) c.deref.ensures.value in
    let labelling : IsNumbering (letters_of c.args.order lists classes) c.in_ok-labels.labels.order.items c.in_ok-labels.labels.numbers.items =
    subst (λ (l : List (ℕ × ℕ)). IsNumbering l c.in_ok-labels.labels.order.items c.in_ok-labels.labels.numbers.items) met c.in_ok-labels.ensures.numbering in
    let narrow : leads c.args.order ≤ 64 = omega (arith, c.width-whole.ensures.value, c.width-whole.ensures.narrow, c.leads-width.ensures.value, c.leads-width.ensures.within) in
    let second : c.args.order.inputs + c.args.order.outputs - leads c.args.order ≡ follows c.args.order = omega (arith, c.leads-width.ensures.value, c.leads-width.ensures.rest) in
    let ranged : AreOptions (follows c.args.order) (length c.args.letters.effects.keys) lists = subst (λ n. AreOptions n (length c.args.letters.effects.keys) lists) second c.requires.options in
    let count : c.len-lists.result ≡ length lists = c.len-lists.ensures.len in
    parts_numbered c.args.order (length c.args.letters.effects.keys) letters firsts lists c.args.pairs.items classes c.in_ok-labels.labels.order.items c.in_ok-classes.classes.numbers.items c.in_ok-labels.labels.numbers.items p
    c.requires.labelled c.requires.chosen c.in_ok-classes.ensures.numbering (subst (λ n. ArePairs (leads c.args.order) n classes) count (subst (λ w. ArePairs w c.len-lists.result classes) c.leads-width.ensures.value c.in_ok-classes.ensures.ranked.order)) ranged labelling
    (λ i j li lj e. lists_apart _ pair_decides lists c.len-lists.ensures.unique i j li lj e)
    (label_below (leads c.args.order) (length lists) firsts narrow c.requires.nodes c.requires.some_first)
    c.in_ok-actions.ensures.len c.in_ok-class_list.ensures.value letter first_of
