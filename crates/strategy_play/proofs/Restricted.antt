-- Nodes of restricted trees.
use Rattle.std.proofs.Common.{◌≡◌, ℕ, zero, suc, ◌+◌, ◌-◌, ◌*◌, ◌/◌, ◌%◌, ◌^◌, ◌<◌, ◌≤◌, Bool, true, false, cond, ltb, eqb, List, [], ◌∷◌, ◌++◌, length, get_or, Option, Some, None, refl, sym, ◌∙◌, ap, subst, arith, inl, inr}
use Rattle.std.specs.Prelude.{slice_get}
use Rattle.std.specs.Int.{bit_at}
use Rattle.std.proofs.lemmas.Bool.{cases_lt, lt-ltb, le-ltb}
use Rattle.std.proofs.lemmas.Nat.Bits.{bit_at_cat_low, bit_at_cat_high}
use Rattle.std.proofs.lemmas.List.{get_or_append_left, get_or_push, length_push}
use Rattle.std.proofs.lemmas.Option.{slice_get_within, get_or_from_slice_get, slice_get-get_or}
use Rattle.word_core.specs.declared.branches.Branch.{Branch}
use Rattle.word_core.specs.declared.branches.Branch.TheVariants.{Leaf, Split}
use Rattle.word_core.specs.Tree.{IsTree, IsNodeAt, TestsBelow, AllTestBelow, LabelHas, side, label_at, label_of}
use Rattle.word_core.proofs.TreeLabels.{label_leaf, label_split}
use Rattle.game_form.specs.Tree.{IsTreeOver}
use Rattle.strategy_play.specs.Restriction.{NodeFits, NodesFit, restricted_to}

-- a node of a tree fits its place
pub node_fits : (width count place : ℕ) (nodes : List Branch) (node d : Branch) → IsTreeOver width count nodes → place < length nodes → get_or nodes place d ≡ node → NodeFits width place node
node_fits width count place nodes (Leaf label) d tree lt is = tt
node_fits width count place nodes (Split signal low high) d tree lt is =
    let at : slice_get nodes place ≡ Some (Split signal low high) = slice_get-get_or nodes place d lt ∙ ap Some is in
    let placed : (signal < 64) × (low < place) × (high < place) = subst (IsNodeAt place) at (tree.tree.placed place) in
    let below : signal < width = subst (TestsBelow width) at (tree.signals place) in
    (below, placed.1, placed.2)

pub node_label : (width count place : ℕ) (nodes : List Branch) (node d : Branch) → IsTreeOver width count nodes → place < length nodes → get_or nodes place d ≡ node → LabelHas (λ l. l < count) (Some node)
node_label width count place nodes node d tree lt is =
    subst (LabelHas (λ l. l < count)) (slice_get-get_or nodes place d lt ∙ ap Some is) (tree.labels place)

-- nodes that fit are a tree
pub fit_tree : (width : ℕ) (out : List Branch) → width ≤ 64 → 0 < length out → NodesFit width out → IsTree out
fit_tree width out narrow some fit = record { some = some; placed = λ place. go place (slice_get out place) refl }
  where
    go : (place : ℕ) (o : Option Branch) → slice_get out place ≡ o → IsNodeAt place o
    go place None e = tt
    go place (Some (Leaf label)) e = tt
    go place (Some (Split signal low high)) e =
        let lt = slice_get_within out place (Split signal low high) e in
        let f : NodeFits width place (Split signal low high) = subst (NodeFits width place) (get_or_from_slice_get out place (Split signal low high) (Leaf 0) e) (fit place (Leaf 0) lt) in
        (omega (arith, f.0), f.1, f.2)

pub fit_signals : (width : ℕ) (out : List Branch) → NodesFit width out → AllTestBelow width out
fit_signals width out fit place = go (slice_get out place) refl
  where
    go : (o : Option Branch) → slice_get out place ≡ o → TestsBelow width o
    go None e = tt
    go (Some (Leaf label)) e = tt
    go (Some (Split signal low high)) e =
        let lt = slice_get_within out place (Split signal low high) e in
        let f : NodeFits width place (Split signal low high) = subst (NodeFits width place) (get_or_from_slice_get out place (Split signal low high) (Leaf 0) e) (fit place (Leaf 0) lt) in
        f.0

pub fit_push : (width : ℕ) (out : List Branch) (n : Branch) → NodesFit width out → NodeFits width (length out) n → NodesFit width (out ++ n ∷ [])
fit_push width out n fit fits k d lt =
    let size = length_push out n in
    elim (cases_lt k (length out)) [
      | inl before ↦ subst (NodeFits width k) (sym (get_or_append_left out (n ∷ []) d k before)) (fit k d before)
      | inr after ↦ (let here : length out ≡ k = omega arith in
          subst (NodeFits width k) (sym (get_or_push out n d k here)) (subst (λ i. NodeFits width i n) here fits))
    ]

side_within : (signal low high bits place : ℕ) → low < place → high < place → side signal low high bits < place
side_within signal low high bits place l h = go (eqb (bits / 2 ^ signal % 2) 1)
  where
    go : (b : Bool) → cond b high low < place
    go true = h
    go false = l

-- a node that is made stays so behind more nodes
restricted_push : (labels : List ℕ) (width own whole place : ℕ) (out : List Branch) (n node : Branch) → NodeFits whole place node → place ≤ length out
    → restricted_to labels width own (out ++ n ∷ []) node ≡ restricted_to labels width own out node
restricted_push labels width own whole place out n (Leaf label) fits le = refl
restricted_push labels width own whole place out n (Split signal low high) fits le = go (ltb signal width)
  where
    within : side signal low high own < length out
    within = omega (arith, le, side_within signal low high own place fits.1 fits.2)

    go : (b : Bool) → cond b (get_or (out ++ n ∷ []) (side signal low high own) (Leaf 0)) (Split (signal - width) low high) ≡ cond b (get_or out (side signal low high own) (Leaf 0)) (Split (signal - width) low high)
    go true = get_or_append_left out (n ∷ []) (Leaf 0) (side signal low high own) within
    go false = refl

abbrev pub AreMade : List Branch → List ℕ → ℕ → ℕ → List Branch → Type 0
AreMade nodes labels width own out = (k : ℕ) → k < length out → get_or out k (Leaf 0) ≡ restricted_to labels width own out (get_or nodes k (Leaf 0))

pub made_more : (nodes : List Branch) (labels : List ℕ) (whole count width own : ℕ) (out : List Branch) (n : Branch) → IsTreeOver whole count nodes → length out < length nodes
    → n ≡ restricted_to labels width own out (get_or nodes (length out) (Leaf 0)) → AreMade nodes labels width own out → AreMade nodes labels width own (out ++ n ∷ [])
made_more nodes labels whole count width own out n tree lt is made k less =
    let size = length_push out n in
    let fits : NodeFits whole k (get_or nodes k (Leaf 0)) = node_fits whole count k nodes (get_or nodes k (Leaf 0)) (Leaf 0) tree (omega arith) refl in
    let kept : restricted_to labels width own (out ++ n ∷ []) (get_or nodes k (Leaf 0)) ≡ restricted_to labels width own out (get_or nodes k (Leaf 0)) =
    restricted_push labels width own whole k out n (get_or nodes k (Leaf 0)) fits (omega arith) in
    elim (cases_lt k (length out)) [
      | inl before ↦ get_or_append_left out (n ∷ []) (Leaf 0) k before ∙ made k before ∙ sym kept
      | inr after ↦ (let here : length out ≡ k = omega arith in
          get_or_push out n (Leaf 0) k here ∙ is ∙ ap (λ i. restricted_to labels width own out (get_or nodes i (Leaf 0))) here ∙ sym kept)
    ]

module _ (nodes out : List Branch) (labels : List ℕ) (whole count width own : ℕ) (tree : IsTreeOver whole count nodes) (out_tree : IsTree out) (size : length out ≡ length nodes)
    (made : AreMade nodes labels width own out) (own_in : own < 2 ^ width) (bits : ℕ) where
  letter : ℕ
  letter = own + bits * 2 ^ width

  same_node : (a b : ℕ) (n : Branch) → slice_get out a ≡ Some n → slice_get out b ≡ Some n → label_at out a bits ≡ label_at out b bits
  same_node a b (Leaf label) x y = label_leaf out a bits label x ∙ sym (label_leaf out b bits label y)
  same_node a b (Split signal low high) x y = label_split out out_tree a bits signal low high x ∙ sym (label_split out out_tree b bits signal low high y)

  low_side : (signal low high : ℕ) → signal < width → side signal low high (own + bits * 2 ^ width) ≡ side signal low high own
  low_side signal low high lt =
      let turned : own + bits * 2 ^ width ≡ bits * 2 ^ width + own = omega arith in
      ap (λ n. cond (eqb n 1) high low) (ap (λ n. bit_at n signal) turned ∙ bit_at_cat_low bits width own signal lt)

  high_side : (signal low high : ℕ) → width ≤ signal → side signal low high (own + bits * 2 ^ width) ≡ side (signal - width) low high bits
  high_side signal low high ge =
      let turned : own + bits * 2 ^ width ≡ bits * 2 ^ width + own = omega arith in
      ap (λ n. cond (eqb n 1) high low) (ap (λ n. bit_at n signal) turned ∙ bit_at_cat_high bits width own signal own_in ge)

  restricted_at : (n place : ℕ) → place < n → place < length nodes → label_at out place bits ≡ get_or labels (label_at nodes place (own + bits * 2 ^ width)) 0
  restricted_at zero place lt in_nodes = absurd (omega arith)
  restricted_at (suc n) place lt in_nodes = go (get_or nodes place (Leaf 0)) refl (λ p less. restricted_at n p (omega arith) (omega arith))
    where
      in_out : place < length out
      in_out = omega (arith, size, in_nodes)

      at_out : (b : Branch) → get_or nodes place (Leaf 0) ≡ b → slice_get out place ≡ Some (restricted_to labels width own out b)
      at_out b e = slice_get-get_or out place (Leaf 0) in_out ∙ ap Some (made place in_out ∙ ap (restricted_to labels width own out) e)

      at_nodes : (b : Branch) → get_or nodes place (Leaf 0) ≡ b → slice_get nodes place ≡ Some b
      at_nodes b e = slice_get-get_or nodes place (Leaf 0) in_nodes ∙ ap Some e

      go : (b : Branch) → get_or nodes place (Leaf 0) ≡ b → ((p : ℕ) → p < place → label_at out p bits ≡ get_or labels (label_at nodes p (own + bits * 2 ^ width)) 0)
          → label_at out place bits ≡ get_or labels (label_at nodes place (own + bits * 2 ^ width)) 0
      go (Leaf label) e ih =
          label_leaf out place bits (get_or labels label 0) (at_out (Leaf label) e)
          ∙ ap (λ l. get_or labels l 0) (sym (label_leaf nodes place (own + bits * 2 ^ width) label (at_nodes (Leaf label) e)))
      go (Split signal low high) e ih =
          let fits = node_fits whole count place nodes (Split signal low high) (Leaf 0) tree in_nodes e in
          let split : label_at nodes place (own + bits * 2 ^ width) ≡ label_at nodes (side signal low high (own + bits * 2 ^ width)) (own + bits * 2 ^ width) =
          label_split nodes tree.tree place (own + bits * 2 ^ width) signal low high (at_nodes (Split signal low high) e) in
          elim (cases_lt signal width) [
            | inl early ↦ (let chosen = side signal low high own in
                let below : side signal low high own < place = side_within signal low high own place fits.1 fits.2 in
                let here : slice_get out place ≡ Some (get_or out (side signal low high own) (Leaf 0)) =
                at_out (Split signal low high) e ∙ ap (λ b. Some (cond b (get_or out (side signal low high own) (Leaf 0)) (Split (signal - width) low high))) (lt-ltb signal width early) in
                let there : slice_get out (side signal low high own) ≡ Some (get_or out (side signal low high own) (Leaf 0)) = slice_get-get_or out (side signal low high own) (Leaf 0) (omega arith) in
                same_node place (side signal low high own) (get_or out (side signal low high own) (Leaf 0)) here there ∙ ih (side signal low high own) below
                ∙ ap (λ p. get_or labels (label_at nodes p (own + bits * 2 ^ width)) 0) (sym (low_side signal low high early)) ∙ ap (λ l. get_or labels l 0) (sym split))
            | inr late ↦ (let here : slice_get out place ≡ Some (Split (signal - width) low high) =
                at_out (Split signal low high) e ∙ ap (λ b. Some (cond b (get_or out (side signal low high own) (Leaf 0)) (Split (signal - width) low high))) (le-ltb signal width late) in
                label_split out out_tree place bits (signal - width) low high here
                ∙ ih (side (signal - width) low high bits) (side_within (signal - width) low high bits place fits.1 fits.2)
                ∙ ap (λ p. get_or labels (label_at nodes p (own + bits * 2 ^ width)) 0) (sym (high_side signal low high late)) ∙ ap (λ l. get_or labels l 0) (sym split))
          ]

  -- the labels of the tree that was made
  pub restricted_label : label_of out bits ≡ get_or labels (label_of nodes (own + bits * 2 ^ width)) 0
  restricted_label =
      let some = tree.tree.some in
      ap (λ n. label_at out (n - 1) bits) size ∙ restricted_at (length nodes) (length nodes - 1) (omega arith) (omega arith)
