-- The labels that valuations lead to in a tree.
use Rattle.std.proofs.Common.{◌≡◌, ℕ, zero, suc, ◌-◌, ◌/◌, ◌%◌, ◌<◌, ◌^◌, Bool, true, false, cond, eqb, List, length, get_or, Option, Some, None, refl, sym, ap, ◌∙◌, subst, arith}
use Rattle.std.specs.Prelude.{slice_get, bit_and}
use Rattle.std.proofs.lemmas.Nat.Bits.{shr_and_one}
use Rattle.std.proofs.lemmas.Bool.Decides.{Decides-eqb}
use Rattle.std.proofs.lemmas.Option.{slice_get-get_or}
use Rattle.word_core.specs.declared.branches.Branch.{Branch}
use Rattle.word_core.specs.declared.branches.Branch.TheVariants.{Leaf, Split}
use Rattle.word_core.specs.Tree.{IsTree, IsNodeAt, label_from, label_at, label_of, next_label, side, LabelHas, AllLabels}

side_below : (signal low high bits place : ℕ) → low < place → high < place → side signal low high bits < place
side_below signal low high bits place l h = go (eqb (bits / 2 ^ signal % 2) 1)
  where
    go : (b : Bool) → cond b high low < place
    go true = h
    go false = l

pub side_high : (signal low high bits : ℕ) → bit_and (bits / 2 ^ signal) 1 ≡ 1 → side signal low high bits ≡ high
side_high signal low high bits h =
    let e = (Decides-eqb (bits / 2 ^ signal % 2) 1).1 (sym (shr_and_one bits signal) ∙ h) in
    ap (λ b. cond b high low) e

pub side_low : (signal low high bits : ℕ) → (bit_and (bits / 2 ^ signal) 1 ≡ 1 → ⊥) → side signal low high bits ≡ low
side_low signal low high bits n = go (eqb (bits / 2 ^ signal % 2) 1) refl
  where
    go : (b : Bool) → eqb (bits / 2 ^ signal % 2) 1 ≡ b → cond b high low ≡ low
    go true e = absurd (n (shr_and_one bits signal ∙ (Decides-eqb (bits / 2 ^ signal % 2) 1).0 e))
    go false e = refl

-- two functions that agree before a place give one label there
next_same : (f g : ℕ → ℕ) (bits place : ℕ) (node : Option Branch) → IsNodeAt place node → ((p : ℕ) → p < place → f p ≡ g p) → next_label f bits node ≡ next_label g bits node
next_same f g bits place None w h = refl
next_same f g bits place (Some (Leaf l)) w h = refl
next_same f g bits place (Some (Split signal low high)) w h =
    h (side signal low high bits) (side_below signal low high bits place w.1 w.2)

-- any number of steps past the place will do
steps_same : (nodes : List Branch) → IsTree nodes → (bits n m place : ℕ) → place < n → place < m → label_from n nodes bits place ≡ label_from m nodes bits place
steps_same nodes t bits zero m place h k = absurd (omega arith)
steps_same nodes t bits (suc n) zero place h k = absurd (omega arith)
steps_same nodes t bits (suc n) (suc m) place h k =
    next_same _ _ bits place (slice_get nodes place) (t.placed place) (λ p l. steps_same nodes t bits n m p (omega arith) (omega arith))

pub label_leaf : (nodes : List Branch) (place bits label : ℕ) → slice_get nodes place ≡ Some (Leaf label) → label_at nodes place bits ≡ label
unfolding label_at
label_leaf nodes place bits label e = ap (next_label (label_from place nodes bits) bits) e

pub label_split : (nodes : List Branch) → IsTree nodes → (place bits signal low high : ℕ) → slice_get nodes place ≡ Some (Split signal low high) → label_at nodes place bits ≡ label_at nodes (side signal low high bits) bits
unfolding label_at
label_split nodes t place bits signal low high e =
    let w = subst (IsNodeAt place) e (t.placed place) in
    let l = side_below signal low high bits place w.1 w.2 in
    ap (next_label (label_from place nodes bits) bits) e
    ∙ steps_same nodes t bits place (suc (side signal low high bits)) (side signal low high bits) l (omega arith)

-- a property of all labels is one of the label that is reached
module _ (P : ℕ → Type 0) (nodes : List Branch) (t : IsTree nodes) (all : AllLabels P nodes) (bits : ℕ) where
  reached_next : (n place : ℕ) → ((p : ℕ) → p < n → p < length nodes → P (label_from n nodes bits p)) → place < suc n → (b : Branch) → slice_get nodes place ≡ Some b → place < length nodes → P (next_label (label_from n nodes bits) bits (slice_get nodes place))
  reached_next n place ih h (Leaf l) e k = subst (λ o. P (next_label (label_from n nodes bits) bits o)) (sym e) (subst (LabelHas P) e (all place))
  reached_next n place ih h (Split signal low high) e k =
      let w = subst (IsNodeAt place) e (t.placed place) in
      let l = side_below signal low high bits place w.1 w.2 in
      subst (λ o. P (next_label (label_from n nodes bits) bits o)) (sym e) (ih (side signal low high bits) (omega arith) (omega arith))

  reached : (n place : ℕ) → place < n → place < length nodes → P (label_from n nodes bits place)
  reached zero place h k = absurd (omega arith)
  reached (suc n) place h k =
      reached_next n place (λ p l m. reached n p l m) h (get_or nodes place (Leaf 0)) (slice_get-get_or nodes place (Leaf 0) k) k

  pub label_at-all : (place : ℕ) → place < length nodes → P (label_at nodes place bits)
  unfolding label_at
  label_at-all place h = reached (suc place) place (omega arith) h

  pub label_of-all : P (label_of nodes bits)
  label_of-all = label_at-all (length nodes - 1) (let s = t.some in omega arith)

-- a node of the list, as the walk reads it
pub node_at : (nodes : List Branch) (place : ℕ) (b d : Branch) → place < length nodes → get_or nodes place d ≡ b → slice_get nodes place ≡ Some b
node_at nodes place b d h e = slice_get-get_or nodes place d h ∙ ap Some e

pub split_placed : (nodes : List Branch) → IsTree nodes → (place signal low high : ℕ) → slice_get nodes place ≡ Some (Split signal low high) → (signal < 64) × (low < place) × (high < place)
split_placed nodes t place signal low high e = subst (IsNodeAt place) e (t.placed place)
