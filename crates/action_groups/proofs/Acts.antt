-- Actions have the rows of their letters.
use Rattle.std.proofs.Common.{◌≡◌, ℕ, ◌+◌, ◌-◌, ◌*◌, ◌<◌, ◌≤◌, ◌^◌, ◌⊎◌, inl, inr, Bool, List, [], ◌∷◌, ◌++◌, length, get_or, map, sym, ap, ◌∙◌, subst, arith}
use Rattle.std.specs.Prelude.{ℤ, Option, Vec}
use Rattle.std.specs.List.{filter}
use Rattle.std.specs.declared.alloc.Global.{Global}
use Rattle.std.proofs.lemmas.Bool.{cases_lt}
use Rattle.std.proofs.lemmas.List.{get_or_append_left, get_or_push}
use Rattle.word_core.specs.declared.branches.Branch.{Branch}
use Rattle.word_core.specs.declared.names.Kind.{Kind}
use Rattle.word_core.specs.declared.names.Kind.TheVariants.{First, Second}
use Rattle.word_core.specs.declared.names.Player.{Player}
use Rattle.word_core.specs.declared.names.Player.TheVariants.{System, Environment}
use Rattle.word_core.specs.Automaton.{AutomatonData}
use Rattle.word_core.specs.Cube.{holds, IsCube}
use Rattle.word_core.specs.Tree.{label_of}
use Rattle.game_form.specs.declared.actions.Step.{Step}
use Rattle.game_form.specs.Game.{row_at}
use Rattle.game_form.specs.Vector.{number}
use Rattle.action_groups.specs.declared.games.Parts.{Parts}
use Rattle.action_groups.specs.declared.orders.Order.{Order}
use Rattle.action_groups.specs.declared.ways.Way.{Way}
use Rattle.action_groups.specs.Actions.{AreActionsOf, HasEffectRows, HasPartRows, inputs_lead}
use Rattle.action_groups.specs.Labels.{HasNumber, pair_at}
use Rattle.action_groups.specs.Lists.{items_at}
use Rattle.action_groups.specs.Numbers.{steps_number, step_of}
use Rattle.action_groups.specs.Rank.{IsNumbering}
use Rattle.action_groups.specs.Rows.{HasEdges, HasRows}
use Rattle.action_groups.specs.Tests.{HasEffects, allowing, allows_from}
use Rattle.action_groups.proofs.Allowed.{filter_same}
use Rattle.action_groups.proofs.Letters.{allowed_is_held, inputs_first, outputs_first}

pub actions_more : (count : ℕ) (effects : List (Vec (ℕ × ℕ × Bool) Global)) (i : ℕ) (order : List (ℕ × ℕ)) (actions now : List (List (List Step))) (new : List (List Step)) → length actions ≡ i → now ≡ actions ++ new ∷ [] → ((q p : ℕ) → q < count → number (row_at new q) p ≡ steps_number (items_at effects (pair_at order i).1) q p) → AreActionsOf count effects i order actions → AreActionsOf count effects (i + 1) order now
actions_more count effects i order actions now new size e own h k q p lt inside =
    subst (λ (l : List (List (List Step))). number (row_at (get_or l k []) q) p ≡ steps_number (items_at effects (pair_at order k).1) q p) (sym e) (go (cases_lt k i))
  where
    go : (k < i) ⊎ (i ≤ k) → number (row_at (get_or (actions ++ new ∷ []) k []) q) p ≡ steps_number (items_at effects (pair_at order k).1) q p
    go (inl l) =
        let below : k < length actions = omega arith in
        ap (λ (a : List (List Step)). number (row_at a q) p) (get_or_append_left actions (new ∷ []) [] k below) ∙ h k q p l inside
    go (inr l) =
        let at : length actions ≡ k = omega arith in
        let same : i ≡ k = omega arith in
        ap (λ (a : List (List Step)). number (row_at a q) p) (get_or_push actions new [] k at)
        ∙ own q p inside
        ∙ ap (λ n. steps_number (items_at effects (pair_at order n).1) q p) same

pub effect_rows : (count : ℕ) (nodes : List Branch) (effects : List (Vec (ℕ × ℕ × Bool) Global)) (met order : List (ℕ × ℕ)) (labels : List ℕ) (p : Parts) → ((bits : ℕ) → HasNumber met (label_of nodes bits)) → IsNumbering met order labels → ((bits : ℕ) → label_of p.letters.items bits ≡ get_or labels (label_of nodes bits) 0) → AreActionsOf count effects (length order) order p.actions.items → HasEffectRows count nodes effects p
effect_rows count nodes effects met order labels p all numbering letter own bits q r lt =
    let w = all bits in
    let Q : ℕ → Type 0 = λ l. (get_or labels l 0 < length order) × ((pair_at order (get_or labels l 0)).1 ≡ l) in
    let there : Q (label_of nodes bits) = subst Q w.2 (numbering.placed w.0 (0, 0) w.1) in
    ap (λ l. number (row_at (get_or p.actions.items l []) q) r) (letter bits)
    ∙ own (get_or labels (label_of nodes bits) 0) q r there.0 lt
    ∙ ap (λ l. steps_number (items_at effects l) q r) there.1

pub part_rows : (order : Order) (a : AutomatonData) (nodes : List Branch) (effects : List (Vec (ℕ × ℕ × Bool) Global)) (ways : List Way) (p : Parts) → a.signals ≡ order.inputs + order.outputs → HasEdges a ways → HasEffects order 0 (label_of nodes) effects ways → HasEffectRows (length a.states) nodes effects p → HasPartRows order.inputs order.outputs order.inputs_first a p
part_rows order a nodes effects ways p signals edges exact rows x bits q r letter lt =
    rows bits q r lt
    ∙ exact bits q r
    ∙ ap (λ (ws : List Way). steps_number (map step_of ws) q r) same
    ∙ edges.numbers x q r lt
  where
    whole : order.inputs + order.outputs - 0 ≡ order.inputs + order.outputs
    whole = omega arith

    same : allowing order 0 bits ways ≡ filter (λ w. holds w.edge.cube x) ways
    same =
        ap (λ n. filter (λ w. allows_from order n 0 bits w.edge.cube) ways) whole
        ∙ filter_same (λ w. allows_from order (order.inputs + order.outputs) 0 bits w.edge.cube) (λ w. holds w.edge.cube x) ways
        (λ k d inside. allowed_is_held order x bits (get_or ways k d).edge.cube letter (subst (λ n. IsCube n (get_or ways k d).edge.cube) signals (edges.cubes k d inside)))

-- the game of the parts
pub rows_hold : (a : AutomatonData) (n m : ℕ) (first : Bool) (player : Player) (kind : Kind) (k : ℤ) (init : Option ℕ) (p : Parts) → first ≡ inputs_lead player kind → HasPartRows n m first a p → HasRows a (record {
  player = player;
  kind = kind;
  inputs = n;
  outputs = m;
  k = k;
  init = init;
  actions = p.actions.items;
  classes = p.classes.items;
  letters = p.letters.items;
  firsts = p.firsts.items;
})
rows_hold a n m first System First k init p e h own other q r ol tl lt = h (own * 2 ^ n + other) (own + other * 2 ^ m) q r (outputs_first n m first other own e tl ol) lt
rows_hold a n m first System Second k init p e h own other q r ol tl lt = h (own * 2 ^ n + other) (other + own * 2 ^ n) q r (inputs_first n m first other own e) lt
rows_hold a n m first Environment First k init p e h own other q r ol tl lt = h (other * 2 ^ n + own) (own + other * 2 ^ n) q r (inputs_first n m first own other e) lt
rows_hold a n m first Environment Second k init p e h own other q r ol tl lt = h (other * 2 ^ n + own) (other + own * 2 ^ m) q r (outputs_first n m first own other e ol tl) lt
