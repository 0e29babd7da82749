-- The labels of trees whose lists of nodes go on.
use Rattle.std.proofs.Common.{◌≡◌, ℕ, zero, suc, ◌+◌, ◌-◌, ◌/◌, ◌%◌, ◌<◌, ◌≤◌, ◌^◌, ◌⊎◌, inl, inr, Bool, true, false, cond, eqb, List, [], ◌∷◌, ◌++◌, length, get_or, Option, Some, None, map, refl, sym, ap, ◌∙◌, subst, arith}
use Rattle.std.specs.Prelude.{slice_get}
use Rattle.std.proofs.lemmas.Bool.{cases_lt}
use Rattle.std.proofs.lemmas.Option.{slice_get-get_or}
use Rattle.std.proofs.lemmas.List.{get_or_append_left, get_or_push, length_push, length-append, length-map}
use Rattle.word_core.specs.declared.branches.Branch.{Branch}
use Rattle.word_core.specs.declared.branches.Branch.TheVariants.{Leaf, Split}
use Rattle.word_core.specs.Tree.{IsNodeAt, label_from, label_at, label_of, next_label, side}
use Rattle.word_core.proofs.TreeLabels.{label_leaf, label_split, label_at-all, label_of-all}
use Rattle.action_groups.proofs.Makes.{tree_over, placed_nodes}
use Rattle.action_groups.specs.Part.{AreNodes, IsNodeOver}
use Rattle.action_groups.specs.Labels.{KeepsLabels, IsSplitOf}
use Rattle.action_groups.specs.Rank.{with_number}

abbrev ArePlaced : List Branch → Type 0
ArePlaced nodes = (place : ℕ) → IsNodeAt place (slice_get nodes place)

side_earlier : (signal low high bits place : ℕ) → low < place → high < place → side signal low high bits < place
side_earlier signal low high bits place l h = go (eqb (bits / 2 ^ signal % 2) 1)
  where
    go : (b : Bool) → cond b high low < place
    go true = h
    go false = l

-- what a side is by the test of its bit
pub side_by : (signal low high bits : ℕ) (b : Bool) → eqb (bits / 2 ^ signal % 2) 1 ≡ b → side signal low high bits ≡ cond b high low
side_by signal low high bits b e = ap (λ t. cond t high low) e

-- a function of a side is a side of its values
pub at_side : (f : ℕ → ℕ) (signal low high bits : ℕ) → f (side signal low high bits) ≡ side signal (f low) (f high) bits
at_side f signal low high bits = go (eqb (bits / 2 ^ signal % 2) 1)
  where
    go : (b : Bool) → f (cond b high low) ≡ cond b (f high) (f low)
    go true = refl
    go false = refl

next_agree : (f g : ℕ → ℕ) (bits place : ℕ) (node : Option Branch) → IsNodeAt place node → ((p : ℕ) → p < place → f p ≡ g p) → next_label f bits node ≡ next_label g bits node
next_agree f g bits place None w h = refl
next_agree f g bits place (Some (Leaf l)) w h = refl
next_agree f g bits place (Some (Split signal low high)) w h = h (side signal low high bits) (side_earlier signal low high bits place w.1 w.2)

got_left : (nodes more : List Branch) (place : ℕ) → place < length nodes → slice_get (nodes ++ more) place ≡ slice_get nodes place
got_left nodes more place lt =
    let d : Branch = Leaf 0 in
    let long : length (nodes ++ more) ≡ length nodes + length more = length-append nodes more in
    slice_get-get_or (nodes ++ more) place d (omega arith)
    ∙ ap (λ (x : Branch). Some x) (get_or_append_left nodes more d place lt)
    ∙ sym (slice_get-get_or nodes place d lt)

grown_from : (nodes more : List Branch) → ArePlaced nodes → (bits n place : ℕ) → place < length nodes → label_from n (nodes ++ more) bits place ≡ label_from n nodes bits place
grown_from nodes more t bits zero place lt = refl
grown_from nodes more t bits (suc n) place lt =
    ap (next_label (label_from n (nodes ++ more) bits) bits) (got_left nodes more place lt)
    ∙ next_agree (label_from n (nodes ++ more) bits) (label_from n nodes bits) bits place (slice_get nodes place) (t place) (λ p l. grown_from nodes more t bits n p (omega arith))

keeps_append : (width count : ℕ) (nodes more : List Branch) → width ≤ 64 → AreNodes width count nodes → KeepsLabels nodes (nodes ++ more)
unfolding label_at
keeps_append width count nodes more le h place bits lt = grown_from nodes more (placed_nodes width count nodes le h) bits (suc place) place lt

pub keeps_pushed : (width count : ℕ) (nodes now : List Branch) (node : Branch) → width ≤ 64 → AreNodes width count nodes → now ≡ nodes ++ node ∷ [] → KeepsLabels nodes now
keeps_pushed width count nodes now node le h e = subst (KeepsLabels nodes) (sym e) (keeps_append width count nodes (node ∷ []) le h)

pub keeps_self : (nodes : List Branch) → KeepsLabels nodes nodes
keeps_self nodes place bits lt = refl

pub keeps_trans : (a b c : List Branch) → length a ≤ length b → KeepsLabels a b → KeepsLabels b c → KeepsLabels a c
keeps_trans a b c le h k place bits lt = k place bits (omega arith) ∙ h place bits lt

got_pushed : (nodes now : List Branch) (node : Branch) → now ≡ nodes ++ node ∷ [] → slice_get now (length now - 1) ≡ Some node
got_pushed nodes now node e =
    let long : length now ≡ length nodes + 1 = ap (λ (l : List Branch). length l) e ∙ length_push nodes node in
    let at : length nodes ≡ length now - 1 = omega arith in
    slice_get-get_or now (length now - 1) node (omega arith)
    ∙ ap (λ (l : List Branch). Some (get_or l (length now - 1) node)) e
    ∙ ap (λ (x : Branch). Some x) (get_or_push nodes node node (length now - 1) at)

pub leaf_pushed : (nodes now : List Branch) (label : ℕ) → now ≡ nodes ++ Leaf label ∷ [] → (bits : ℕ) → label_of now bits ≡ label
leaf_pushed nodes now label e bits = label_leaf now (length now - 1) bits label (got_pushed nodes now (Leaf label) e)

nodes_pushed : (width count : ℕ) (nodes now : List Branch) (node : Branch) → IsNodeOver width count (length nodes) node → AreNodes width count nodes → now ≡ nodes ++ node ∷ [] → AreNodes width count now
nodes_pushed width count nodes now node new h e place d lt = go (cases_lt place (length nodes))
  where
    go : (place < length nodes) ⊎ (length nodes ≤ place) → IsNodeOver width count place (get_or now place d)
    go (inl l) = subst (IsNodeOver width count place) (sym (ap (λ (ns : List Branch). get_or ns place d) e ∙ get_or_append_left nodes (node ∷ []) d place l)) (h place d l)
    go (inr l) =
        let long : length now ≡ length nodes + 1 = ap (λ (ns : List Branch). length ns) e ∙ length_push nodes node in
        let at : length nodes ≡ place = omega arith in
        subst (IsNodeOver width count place) (sym (ap (λ (ns : List Branch). get_or ns place d) e ∙ get_or_push nodes node d place at)) (subst (λ n. IsNodeOver width count n node) at new)

pub split_pushed : (width count : ℕ) (nodes now : List Branch) (signal low : ℕ) → width ≤ 64 → AreNodes width count nodes → signal < width → low < length nodes → now ≡ nodes ++ Split signal low (length nodes - 1) ∷ [] → (bits : ℕ) → label_of now bits ≡ side signal (label_at nodes low bits) (label_of nodes bits) bits
split_pushed width count nodes now signal low le h within lt e bits =
    let high : ℕ = length nodes - 1 in
    let some : 0 < length nodes = omega arith in
    let long : length now ≡ length nodes + 1 = ap (λ (l : List Branch). length l) e ∙ length_push nodes (Split signal low high) in
    let k = nodes_pushed width count nodes now (Split signal low high) (within, lt, omega arith) h e in
    let t = tree_over width count now le k (omega arith) in
    let keeps = keeps_pushed width count nodes now (Split signal low high) le h e in
    label_split now t.tree (length now - 1) bits signal low high (got_pushed nodes now (Split signal low high) e)
    ∙ keeps (side signal low high bits) bits (side_earlier signal low high bits (length nodes) lt (omega arith))
    ∙ at_side (λ p. label_at nodes p bits) signal low high bits

copied_nodes : (width count : ℕ) (nodes : List Branch) (at : ℕ) (node : Branch) → at < length nodes → IsNodeOver width count at node → IsNodeOver width count (length nodes) node
copied_nodes width count nodes at (Leaf label) lt h = h
copied_nodes width count nodes at (Split signal low high) lt h = (h.0, omega (arith, h.1), omega (arith, h.2))

pub nodes_copied : (width count : ℕ) (nodes now : List Branch) (at : ℕ) (d : Branch) → at < length nodes → AreNodes width count nodes → now ≡ nodes ++ get_or nodes at d ∷ [] → AreNodes width count now
nodes_copied width count nodes now at d lt h e = nodes_pushed width count nodes now (get_or nodes at d) (copied_nodes width count nodes at (get_or nodes at d) lt (h at d lt)) h e

-- a copy of an earlier node has its labels
pub copy_pushed : (width count : ℕ) (nodes now : List Branch) (at : ℕ) (d : Branch) → width ≤ 64 → AreNodes width count nodes → at < length nodes → now ≡ nodes ++ get_or nodes at d ∷ [] → (bits : ℕ) → label_of now bits ≡ label_at nodes at bits
copy_pushed width count nodes now at d le h lt e bits = go (get_or nodes at d) (slice_get-get_or nodes at d lt) (h at d lt) e
  where
    some : 0 < length nodes
    some = omega arith

    go : (node : Branch) → slice_get nodes at ≡ Some node → IsNodeOver width count at node → now ≡ nodes ++ node ∷ [] → label_of now bits ≡ label_at nodes at bits
    go (Leaf label) there w f = leaf_pushed nodes now label f bits ∙ sym (label_leaf nodes at bits label there)
    go (Split signal low high) there w f =
        let long : length now ≡ length nodes + 1 = ap (λ (l : List Branch). length l) f ∙ length_push nodes (Split signal low high) in
        let k = nodes_pushed width count nodes now (Split signal low high) (w.0, omega (arith, w.1), omega (arith, w.2)) h f in
        let t = tree_over width count now le k (omega arith) in
        let old = tree_over width count nodes le h some in
        let keeps = keeps_pushed width count nodes now (Split signal low high) le h f in
        label_split now t.tree (length now - 1) bits signal low high (got_pushed nodes now (Split signal low high) f)
        ∙ keeps (side signal low high bits) bits (side_earlier signal low high bits (length nodes) (omega (arith, w.1)) (omega (arith, w.2)))
        ∙ sym (label_split nodes old.tree at bits signal low high there)

-- the split of a tree and a later one
pub split_of : (signal at : ℕ) (low high now : List Branch) → 0 < length low → at ≡ length low - 1 → KeepsLabels low high → ((bits : ℕ) → label_of now bits ≡ side signal (label_at high at bits) (label_of high bits) bits) → IsSplitOf signal (label_of low) (label_of high) (label_of now)
split_of signal at low high now some e keeps h bits =
    h bits
    ∙ ap (λ p. side signal (label_at high p bits) (label_of high bits) bits) e
    ∙ ap (λ l. side signal l (label_of high bits) bits) (keeps (length low - 1) bits (omega arith))

-- the labels of a tree are below the count
pub label_below : (width count : ℕ) (nodes : List Branch) → width ≤ 64 → AreNodes width count nodes → 0 < length nodes → (bits : ℕ) → label_of nodes bits < count
label_below width count nodes le h some bits =
    let t = tree_over width count nodes le h some in
    label_of-all (λ l. l < count) nodes t.tree t.labels bits

pub labels_below : (width count : ℕ) (nodes : List Branch) → width ≤ 64 → AreNodes width count nodes → (place : ℕ) → place < length nodes → (bits : ℕ) → label_at nodes place bits < count
labels_below width count nodes le h place lt bits =
    let t = tree_over width count nodes le h (omega arith) in
    label_at-all (λ l. l < count) nodes t.tree t.labels bits place lt

-- labels with their numbers
got_mapped : (numbers : List ℕ) (nodes : List Branch) (place : ℕ) (node : Branch) → slice_get nodes place ≡ Some node → slice_get (map (with_number numbers) nodes) place ≡ Some (with_number numbers node)
got_mapped numbers [] place node e = absurd (cc)
got_mapped numbers (x ∷ nodes) zero node e = (let f : x ≡ node = cc in ap (λ (y : Branch). Some (with_number numbers y)) f)
got_mapped numbers (x ∷ nodes) (suc place) node e = got_mapped numbers nodes place node e

module _ (numbers : List ℕ) (nodes : List Branch) (t : ArePlaced nodes) (bits : ℕ) where
  numbered_next : (n place : ℕ) (node : Branch) → IsNodeAt place (Some node) → ((p : ℕ) → p < place → label_from n (map (with_number numbers) nodes) bits p ≡ get_or numbers (label_from n nodes bits p) 0) → next_label (label_from n (map (with_number numbers) nodes) bits) bits (Some (with_number numbers node)) ≡ get_or numbers (next_label (label_from n nodes bits) bits (Some node)) 0
  numbered_next n place (Leaf l) w h = refl
  numbered_next n place (Split signal low high) w h = h (side signal low high bits) (side_earlier signal low high bits place w.1 w.2)

  numbered_from : (n place : ℕ) → place < n → place < length nodes → label_from n (map (with_number numbers) nodes) bits place ≡ get_or numbers (label_from n nodes bits place) 0
  numbered_from zero place h k = absurd (omega arith)
  numbered_from (suc n) place h k =
      let node : Branch = get_or nodes place (Leaf 0) in
      let e : slice_get nodes place ≡ Some node = slice_get-get_or nodes place (Leaf 0) k in
      ap (next_label (label_from n (map (with_number numbers) nodes) bits) bits) (got_mapped numbers nodes place node e)
      ∙ numbered_next n place node (subst (IsNodeAt place) e (t place)) (λ p l. numbered_from n p (omega arith) (omega arith))
      ∙ ap (λ o. get_or numbers (next_label (label_from n nodes bits) bits o) 0) (sym e)

  numbered_at : (place : ℕ) → place < length nodes → label_at (map (with_number numbers) nodes) place bits ≡ get_or numbers (label_at nodes place bits) 0
  unfolding label_at
  numbered_at place lt = numbered_from (suc place) place (omega arith) lt

pub label_numbered : (width count : ℕ) (numbers : List ℕ) (nodes now : List Branch) → width ≤ 64 → AreNodes width count nodes → 0 < length nodes → now ≡ map (with_number numbers) nodes → (bits : ℕ) → label_of now bits ≡ get_or numbers (label_of nodes bits) 0
label_numbered width count numbers nodes now le h some e bits =
    let long : length now ≡ length nodes = ap (λ (l : List Branch). length l) e ∙ length-map nodes (with_number numbers) in
    ap (λ l. label_at now l bits) (ap (λ n. n - 1) long)
    ∙ ap (λ l. label_at l (length nodes - 1) bits) e
    ∙ numbered_at numbers nodes (placed_nodes width count nodes le h) bits (length nodes - 1) (omega arith)
