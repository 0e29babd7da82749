-- Places made from lists of labels and of nodes.
use Rattle.std.proofs.Common.{Bool, true, false, cond, ◌≡◌, ℕ, ◌+◌, ◌-◌, ◌*◌, ◌/◌, ◌%◌, ◌^◌, ◌==◌, ◌<◌, ◌≤◌, List, [], ◌∷◌, ◌++◌, length, get_or, Some, refl, sym, ap, ◌∙◌, subst, arith, inl, inr, ◌⊎◌, length-append}
use Rattle.std.proofs.lemmas.Bool.{cases_lt, cases_eq}
use Rattle.std.proofs.lemmas.Bool.Decides.{Decides-eqb}
use Rattle.std.proofs.lemmas.Nat.{mod-pow-add, mod_below}
use Rattle.std.proofs.lemmas.List.{get_or_default}
use Rattle.std.proofs.lemmas.Option.{slice_get_within}
use Rattle.std.proofs.Math.ListN.{get_or-append}
use Rattle.std.proofs.Math.Seq.{get_or-append_seam}
use Rattle.std.proofs.Math.Nat.{mod-eq_of_lt}
use Rattle.std.specs.List.{slice_get}
use Rattle.word_core.specs.declared.branches.Branch.{Branch}
use Rattle.word_core.specs.declared.branches.Branch.TheVariants.{Leaf, Split}
use Rattle.word_core.specs.Tree.{label_at, label_of, next_label, IsNodeAt, IsTree}
use Rattle.letter_tree.specs.Diagram.{top, TreeData, Grows, CanFork, IsForked}
use Rattle.letter_tree.specs.Listed.{IsListed, IsTaken, IsNodeOf}
use Rattle.letter_tree.specs.Join.{IsJoining}
use Rattle.letter_tree.specs.Choice.{IsChoosing, IsChoice}
use Rattle.letter_tree.specs.Memo.{Notes, noted}
use Rattle.letter_tree.proofs.Diagrams.{label_at-leaf, label_at-split_placed, Grows-length, Grows-top, Grows-label, Grows-then}

-- no notes are right
pub none_noted : (notes : Notes) (x y place : ℕ) → notes ≡ [] → noted notes x y ≡ Some place → ⊥
unfolding noted
none_noted notes x y place e h =
    let k : noted [] x y ≡ Some place = subst (λ n. noted n x y ≡ Some place) e h in
    absurd (cc)

pub IsJoining-none : (R : ℕ → ℕ → ℕ → Type 0) (a b : List Branch) (t : TreeData) (notes : Notes) → notes ≡ [] → IsJoining R a b t notes
IsJoining-none R a b t notes e = record { known = λ x y place h. absurd (none_noted notes x y place e h) }

pub IsChoosing-none : (t : TreeData) (s : ℕ) (notes : Notes) → notes ≡ [] → IsChoosing t s notes
IsChoosing-none t s notes e = record {
  low_in = λ x y place h. absurd (none_noted notes x y place e h);
  high_in = λ x y place h. absurd (none_noted notes x y place e h);
  known = λ x y place h. absurd (none_noted notes x y place e h);
}

-- a valuation of the signals below s + 1 by that of the signals below s and the bit of s
pub mod_next : (bits s : ℕ) → bits % 2 ^ (s + 1) ≡ (bits / 2 ^ s % 2) * 2 ^ s + bits % 2 ^ s
mod_next bits s =
    let e : s + 1 ≡ 1 + s = omega arith in
    ap (λ n. bits % 2 ^ n) e ∙ mod-pow-add bits 1 s

pub listed_leaf : (t : TreeData) (labels : List ℕ) (s prefix place l : ℕ) → t.width ≤ s → s ≤ t.width
    → slice_get t.nodes place ≡ Some (Leaf l) → l ≡ get_or labels prefix 0 → IsListed t labels s prefix place
listed_leaf t labels s prefix place l a b e h = record {
  within = slice_get_within t.nodes place (Leaf l) e;
  later = omega (arith, ap (top t.width) e);
  label = λ bits small p.
      let w : s ≡ t.width = omega arith in
      let small' : bits < 2 ^ s = subst (λ n. bits < 2 ^ n) (sym w) small in
      label_at-leaf t.nodes place l bits e ∙ h ∙ ap (λ i. get_or labels i 0) (sym p ∙ mod-eq_of_lt small');
}

pub listed_can : (t1 t2 : TreeData) (labels : List ℕ) (s p q low high : ℕ) → s < t1.width → Grows t1 t2
    → IsListed t1 labels (s + 1) p low → IsListed t2 labels (s + 1) q high → CanFork t2 s low high
listed_can t1 t2 labels s p q low high less g a b = record {
  signal_in = omega (arith, less, g.width);
  low_in = omega (arith, a.within, Grows-length t1 t2 g);
  high_in = b.within;
  low_later = omega (arith, a.later, Grows-top t1 t2 g low a.within);
  high_later = omega (arith, b.later);
}

pub listed_fork : (t1 t2 t3 : TreeData) (labels : List ℕ) (s prefix q low high place : ℕ) → q ≡ prefix + 2 ^ s → Grows t1 t2 → Grows t2 t3
    → IsListed t1 labels (s + 1) prefix low → IsListed t2 labels (s + 1) q high → IsForked t3 s low high place → IsListed t3 labels s prefix place
listed_fork t1 t2 t3 labels s prefix q low high place eq g h a b f = record {
  within = f.within;
  later = f.later;
  label = λ bits small p. f.label bits ∙ at bits small p (bits / 2 ^ s % 2 == 1) refl;
}
  where
    bit_is : (bits : ℕ) → (bits / 2 ^ s % 2 == 1) ≡ true → bits / 2 ^ s % 2 ≡ 1
    bit_is bits e = (Decides-eqb (bits / 2 ^ s % 2) 1).0 e

    bit_not : (bits : ℕ) → (bits / 2 ^ s % 2 == 1) ≡ false → bits / 2 ^ s % 2 ≡ 0
    bit_not bits e = zero_or_one (bits / 2 ^ s % 2) (mod_below (bits / 2 ^ s) 2 (omega arith)) e
      where
        zero_or_one : (n : ℕ) → n < 2 → (n == 1) ≡ false → n ≡ 0
        zero_or_one n less e' = go (cases_eq n 1)
          where
            go : (n ≡ 1) ⊎ (n ≡ 1 → ⊥) → n ≡ 0
            go (inl one) = let t : (n == 1) ≡ true = (Decides-eqb n 1).1 one in absurd (cc)
            go (inr ne) = omega arith

    at : (bits : ℕ) → bits < 2 ^ t3.width → bits % 2 ^ s ≡ prefix → (v : Bool) → (bits / 2 ^ s % 2 == 1) ≡ v → label_at t3.nodes (cond v high low) bits ≡ get_or labels bits 0
    at bits small p true e =
        let one : bits / 2 ^ s % 2 ≡ 1 = bit_is bits e in
        let m : bits % 2 ^ (s + 1) ≡ q = mod_next bits s ∙ ap (λ n. n * 2 ^ s + bits % 2 ^ s) one ∙ omega (arith, p, eq) in
        Grows-label t2 t3 h high bits b.within ∙ b.label bits (subst (λ n. bits < 2 ^ n) h.width small) m
    at bits small p false e =
        let zero' : bits / 2 ^ s % 2 ≡ 0 = bit_not bits e in
        let m : bits % 2 ^ (s + 1) ≡ prefix = mod_next bits s ∙ ap (λ n. n * 2 ^ s + bits % 2 ^ s) zero' ∙ omega (arith, p) in
        Grows-label t1 t3 (Grows-then t1 t2 t3 g h) low bits a.within
        ∙ a.label bits (subst (λ n. bits < 2 ^ n) (h.width ∙ g.width) small) m

-- the place of one more node
pub node_leaf : (t : TreeData) (places : List ℕ) (l place : ℕ) (node : Branch) → node ≡ Leaf l → slice_get t.nodes place ≡ Some (Leaf l) → IsNodeOf t node places place
node_leaf t places l place node n e =
    subst (λ k. IsNodeOf t k places place) (sym n)
    (record { within = slice_get_within t.nodes place (Leaf l) e; label = λ bits. label_at-leaf t.nodes place l bits e })

pub node_split : (t : TreeData) (places : List ℕ) (s lo hi place : ℕ) (node : Branch) → node ≡ Split s lo hi → IsChoice t s (get_or places lo 0) (get_or places hi 0) place → IsNodeOf t node places place
node_split t places s lo hi place node n c =
    subst (λ k. IsNodeOf t k places place) (sym n) (record { within = c.within; label = λ bits. c.label bits ∙ at bits (bits / 2 ^ s % 2 == 1) })
  where
    at : (bits : ℕ) (v : Bool) → label_at t.nodes (cond v (get_or places hi 0) (get_or places lo 0)) bits ≡ label_at t.nodes (get_or places (cond v hi lo) 0) bits
    at bits true = refl
    at bits false = refl

pub IsTaken-grow : (t t' : TreeData) (nodes : List Branch) (places : List ℕ) → Grows t t' → IsTaken t nodes places → IsTaken t' nodes places
IsTaken-grow t t' nodes places g k = record {
  within = λ i h. omega (arith, k.within i h, Grows-length t t' g);
  label = λ i bits h. Grows-label t t' g (get_or places i 0) bits (k.within i h) ∙ k.label i bits h;
}

-- a node's label by its parts' labels
node_label : (nodes : List Branch) (i bits : ℕ) (node : Branch) → IsTree nodes → slice_get nodes i ≡ Some node → label_at nodes i bits ≡ next_label (λ j. label_at nodes j bits) bits (Some node)
node_label nodes i bits (Leaf l) t e = label_at-leaf nodes i l bits e
node_label nodes i bits (Split s lo hi) t e = label_at-split_placed nodes t.placed i s lo hi bits e

same_next : (f g : ℕ → ℕ) (bits count : ℕ) (node : Branch) → IsNodeAt count (Some node) → ((j : ℕ) → j < count → f j ≡ g j) → next_label f bits (Some node) ≡ next_label g bits (Some node)
same_next f g bits count (Leaf l) k h = refl
same_next f g bits count (Split s lo hi) k h = at (bits / 2 ^ s % 2 == 1)
  where
    at : (v : Bool) → f (cond v hi lo) ≡ g (cond v hi lo)
    at true = h hi k.2
    at false = h lo k.1

pub IsTaken-push : (t : TreeData) (nodes : List Branch) (places : List ℕ) (node : Branch) (place : ℕ) → IsTree nodes → slice_get nodes (length places) ≡ Some node
    → IsTaken t nodes places → IsNodeOf t node places place → IsTaken t nodes (places ++ place ∷ [])
IsTaken-push t nodes places node place tree e k n = record {
  within = λ i h. within i h (cases_lt i (length places));
  label = λ i bits h. label i bits h (cases_lt i (length places));
}
  where
    old : (i : ℕ) → i < length places → get_or (places ++ place ∷ []) i 0 ≡ get_or places i 0
    old i h = get_or-append places (place ∷ []) 0 i h

    last : (i : ℕ) → i < length (places ++ place ∷ []) → length places ≤ i → i ≡ length places
    last i h l = omega (arith, h, l, length-append places (place ∷ []))

    new : (i : ℕ) → i ≡ length places → get_or (places ++ place ∷ []) i 0 ≡ place
    new i h = ap (λ j. get_or (places ++ place ∷ []) j 0) h ∙ get_or-append_seam places place [] 0

    within : (i : ℕ) → i < length (places ++ place ∷ []) → (i < length places) ⊎ (length places ≤ i) → get_or (places ++ place ∷ []) i 0 < length t.nodes
    within i h (inl l) = omega (arith, old i l, k.within i l)
    within i h (inr l) = omega (arith, new i (last i h l), n.within)

    label : (i bits : ℕ) → i < length (places ++ place ∷ []) → (i < length places) ⊎ (length places ≤ i) → label_at t.nodes (get_or (places ++ place ∷ []) i 0) bits ≡ label_at nodes i bits
    label i bits h (inl l) = ap (λ p. label_at t.nodes p bits) (old i l) ∙ k.label i bits l
    label i bits h (inr l) =
        let at : i ≡ length places = last i h l in
        ap (λ p. label_at t.nodes p bits) (new i at) ∙ n.label bits
        ∙ same_next (λ j. label_at t.nodes (get_or places j 0) bits) (λ j. label_at nodes j bits) bits (length places) node (subst (IsNodeAt (length places)) e (tree.placed (length places))) (λ j hj. k.label j bits hj)
        ∙ sym (node_label nodes (length places) bits node tree e) ∙ ap (λ j. label_at nodes j bits) (sym at)

-- a read place, whatever stands behind the end
pub last_taken : (places : List ℕ) (i r : ℕ) → i < length places → r ≡ get_or places i r → r ≡ get_or places i 0
last_taken places i r h e = e ∙ get_or_default places i r 0 h

-- the tree of the last taken place
pub taken_label : (t : TreeData) (nodes : List Branch) (places : List ℕ) (place : ℕ) (out : List Branch) → IsTaken t nodes places → length nodes - 1 < length places
    → place ≡ get_or places (length nodes - 1) place → ((bits : ℕ) → label_of out bits ≡ label_at t.nodes place bits) → (bits : ℕ) → label_of out bits ≡ label_of nodes bits
taken_label t nodes places place out k last e h bits =
    h bits ∙ ap (λ p. label_at t.nodes p bits) (last_taken places (length nodes - 1) place last e) ∙ k.label (length nodes - 1) bits last
