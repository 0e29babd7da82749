-- The trees that are noted stay, and are copied.
use Rattle.std.proofs.Common.{◌≡◌, ℕ, ◌+◌, ◌-◌, ◌<◌, ◌≤◌, Bool, List, length, sym, ap, ◌∙◌, subst, arith}
use Rattle.std.specs.Prelude.{Vec}
use Rattle.std.specs.List.{All}
use Rattle.std.specs.declared.alloc.Global.{Global}
use Rattle.std.proofs.lemmas.List.Elements.{All-weaker}
use Rattle.word_core.specs.declared.branches.Branch.{Branch}
use Rattle.word_core.specs.Tree.{label_at}
use Rattle.action_groups.specs.declared.orders.Order.{Order}
use Rattle.action_groups.specs.declared.ways.Way.{Way}
use Rattle.action_groups.specs.Labels.{KeepsLabels, IsLabelled}
use Rattle.action_groups.specs.Lists.{items_at, KeepsLists}
use Rattle.action_groups.specs.Memo.{Note}
use Rattle.action_groups.specs.Numbers.{steps_number}
use Rattle.action_groups.specs.Options.{AreOptionsOf, HasOptions}
use Rattle.action_groups.specs.Part.{AreNodes}
use Rattle.action_groups.specs.Sides.{leads}
use Rattle.action_groups.specs.Tests.{HasEffects}
use Rattle.action_groups.specs.Trees.{IsRestTree, IsFirstTree}
use Rattle.action_groups.proofs.Grown.{labels_below}
use Rattle.action_groups.proofs.Pairs.{pairs_weaker}

-- functions with the same values have the same facts
pub labelled_same : (place : ℕ) (labels now : ℕ → ℕ) (pairs : List (ℕ × ℕ)) → ((bits : ℕ) → now bits ≡ labels bits) → IsLabelled place labels pairs → IsLabelled place now pairs
labelled_same place labels now pairs e h = subst (λ f. IsLabelled place f pairs) (λ j bits. sym (e bits) j) h

pub effects_same : (order : Order) (place : ℕ) (labels now : ℕ → ℕ) (before effects : List (Vec (ℕ × ℕ × Bool) Global)) (ways : List Way) → ((bits : ℕ) → now bits ≡ labels bits) → ((bits : ℕ) → labels bits < length before) → KeepsLists before effects → HasEffects order place labels before ways → HasEffects order place now effects ways
effects_same order place labels now before effects ways e below keeps h bits q p =
    ap (λ l. steps_number (items_at effects l) q p) (e bits)
    ∙ ap (λ (s : List (ℕ × ℕ × Bool)). steps_number s q p) (keeps (labels bits) (below bits))
    ∙ h bits q p

pub options_same : (width : ℕ) (letters letters_now firsts firsts_now : ℕ → ℕ) (before lists : List (Vec (ℕ × ℕ) Global)) → ((bits : ℕ) → letters_now bits ≡ letters bits) → ((bits : ℕ) → firsts_now bits ≡ firsts bits) → ((bits : ℕ) → firsts bits < length before) → KeepsLists before lists → HasOptions width letters firsts before → HasOptions width letters_now firsts_now lists
options_same width letters letters_now firsts firsts_now before lists e f below keeps h first lt =
    let options : items_at lists (firsts_now first) ≡ items_at before (firsts first) = ap (items_at lists) (f first) ∙ keeps (firsts first) (below first) in
    subst (λ l. AreOptionsOf width first l (items_at lists (firsts_now first))) (λ j bits. sym (e bits) j)
    (subst (AreOptionsOf width first letters) (sym options) (h first lt))

-- where the nodes and the effects go on
pub rest_trees_kept : (order : Order) (nodes now : List Branch) (before effects : List (Vec (ℕ × ℕ × Bool) Global)) (notes : List Note) → order.inputs + order.outputs ≤ 64 → AreNodes (order.inputs + order.outputs) (length before) nodes → length nodes ≤ length now → KeepsLabels nodes now → length before ≤ length effects → KeepsLists before effects → All (IsRestTree order nodes before) notes → All (IsRestTree order now effects) notes
rest_trees_kept order nodes now before effects notes narrow known longer keeps more lists = All-weaker (IsRestTree order nodes before) (IsRestTree order now effects) step notes
  where
    step : (n : Note) → IsRestTree order nodes before n → IsRestTree order now effects n
    step n h =
        let inside : n.letter < length nodes = h.within in
        let same : (bits : ℕ) → label_at now n.letter bits ≡ label_at nodes n.letter bits = λ bits. keeps n.letter bits inside in
        record {
          within = omega arith;
          ranged = pairs_weaker (order.inputs + order.outputs - n.place) (length before) (length effects) n.pairs more h.ranged;
          some = h.some;
          labelled = labelled_same n.place (label_at nodes n.letter) (label_at now n.letter) n.pairs same h.labelled;
          exact = effects_same order n.place (label_at nodes n.letter) (label_at now n.letter) before effects n.ways same (labels_below (order.inputs + order.outputs) (length before) nodes narrow known n.letter inside) lists h.exact;
        }

-- where those of both trees go on
pub first_trees_kept : (order : Order) (letters letters_now : List Branch) (before effects : List (Vec (ℕ × ℕ × Bool) Global)) (firsts firsts_now : List Branch) (earlier lists : List (Vec (ℕ × ℕ) Global)) (notes : List Note) → order.inputs + order.outputs ≤ 64 → AreNodes (order.inputs + order.outputs) (length before) letters → length letters ≤ length letters_now → KeepsLabels letters letters_now → KeepsLists before effects → leads order ≤ 64 → AreNodes (leads order) (length earlier) firsts → length firsts ≤ length firsts_now → KeepsLabels firsts firsts_now → length earlier ≤ length lists → KeepsLists earlier lists → All (IsFirstTree order letters before firsts earlier) notes → All (IsFirstTree order letters_now effects firsts_now lists) notes
first_trees_kept order letters letters_now before effects firsts firsts_now earlier lists notes narrow known longer keeps kept few nodes more_firsts keeps_firsts more kept_lists = All-weaker (IsFirstTree order letters before firsts earlier) (IsFirstTree order letters_now effects firsts_now lists) step notes
  where
    step : (n : Note) → IsFirstTree order letters before firsts earlier n → IsFirstTree order letters_now effects firsts_now lists n
    step n h =
        let letter_inside : n.letter < length letters = h.letter_within in
        let inside : n.first < length firsts = h.within in
        let same : (bits : ℕ) → label_at letters_now n.letter bits ≡ label_at letters n.letter bits = λ bits. keeps n.letter bits letter_inside in
        let same_first : (bits : ℕ) → label_at firsts_now n.first bits ≡ label_at firsts n.first bits = λ bits. keeps_firsts n.first bits inside in
        record {
          letter_within = omega arith;
          within = omega arith;
          ranged = pairs_weaker (leads order - n.place) (length earlier) (length lists) n.pairs more h.ranged;
          some = h.some;
          labelled = labelled_same n.place (label_at firsts n.first) (label_at firsts_now n.first) n.pairs same_first h.labelled;
          exact = effects_same order n.place (label_at letters n.letter) (label_at letters_now n.letter) before effects n.ways same (labels_below (order.inputs + order.outputs) (length before) letters narrow known n.letter letter_inside) kept h.exact;
          chosen = options_same (leads order) (label_at letters n.letter) (label_at letters_now n.letter) (label_at firsts n.first) (label_at firsts_now n.first) earlier lists same same_first (labels_below (leads order) (length earlier) firsts few nodes n.first inside) kept_lists h.chosen;
        }
