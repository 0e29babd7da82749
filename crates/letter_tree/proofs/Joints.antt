-- Two nodes that go on together, and what a table knows of their join.
use Rattle.std.proofs.Common.{Bool, true, false, cond, ◌≡◌, ◌≢◌, ℕ, ◌+◌, ◌/◌, ◌%◌, ◌^◌, ◌==◌, ◌<◌, ◌≤◌, List, length, Some, refl, sym, ap, ◌∙◌, subst, arith, inl, inr, ◌⊎◌}
use Rattle.std.proofs.lemmas.Option.{slice_get_within}
use Rattle.std.specs.List.{slice_get}
use Rattle.word_core.specs.declared.branches.Branch.{Branch}
use Rattle.word_core.specs.declared.branches.Branch.TheVariants.{Leaf, Split}
use Rattle.word_core.specs.Tree.{label_at, side}
use Rattle.letter_tree.specs.Diagram.{top, IsFork, IsNode, IsDiagram, TreeData, Grows, CanFork, IsForked}
use Rattle.letter_tree.specs.Join.{HasParts, IsJoin, IsJoining}
use Rattle.letter_tree.specs.Memo.{Notes, noted, IsNoted}
use Rattle.letter_tree.proofs.Diagrams.{label_at-leaf, label_at-split, Grows-length, Grows-top, Grows-label, Grows-then}

-- the split at a place
pub fork_at : (w : ℕ) (nodes : List Branch) (place s lo hi : ℕ) → IsDiagram w nodes → slice_get nodes place ≡ Some (Split s lo hi) → IsFork w nodes place s lo hi
fork_at w nodes place s lo hi d e = subst (IsNode w nodes place) e (d.node place)

pub top_at : (w : ℕ) (nodes : List Branch) (place s lo hi : ℕ) → slice_get nodes place ≡ Some (Split s lo hi) → top w (slice_get nodes place) ≡ s
top_at w nodes place s lo hi e = ap (top w) e

side-same : (s x bits : ℕ) → side s x x bits ≡ x
side-same s x bits = at (bits / 2 ^ s % 2 == 1)
  where
    at : (b : Bool) → cond b x x ≡ x
    at true = refl
    at false = refl

-- the signal of the one, where the other tests later signals
pub parts_left : (a b : List Branch) (w x y s lo hi : ℕ) → IsDiagram w a → slice_get a x ≡ Some (Split s lo hi) → y < length b → s < top w (slice_get b y) → HasParts a b w x y s (lo, y) (hi, y)
parts_left a b w x y s lo hi d e y_in later = record {
  signal_in = k.signal_in;
  first = λ t h _. omega (arith, top_at w a x s lo hi e);
  before_a = omega (arith, top_at w a x s lo hi e);
  before_b = omega arith;
  low_a = omega (arith, k.low_earlier, slice_get_within a x (Split s lo hi) e);
  low_b = y_in;
  high_a = omega (arith, k.high_earlier, slice_get_within a x (Split s lo hi) e);
  high_b = y_in;
  low_down = omega (arith, k.low_earlier);
  high_down = omega (arith, k.high_earlier);
  low_later_a = k.low_later;
  low_later_b = later;
  high_later_a = k.high_later;
  high_later_b = later;
  label_a = λ bits. label_at-split w a d x s lo hi bits e;
  label_b = λ bits. ap (λ p. label_at b p bits) (sym (side-same s y bits));
}
  where
    k : IsFork w a x s lo hi
    k = fork_at w a x s lo hi d e

pub parts_right : (a b : List Branch) (w x y s lo hi : ℕ) → IsDiagram w b → slice_get b y ≡ Some (Split s lo hi) → x < length a → s < top w (slice_get a x) → HasParts a b w x y s (x, lo) (x, hi)
parts_right a b w x y s lo hi d e x_in later = record {
  signal_in = k.signal_in;
  first = λ t _ h. omega (arith, top_at w b y s lo hi e);
  before_a = omega arith;
  before_b = omega (arith, top_at w b y s lo hi e);
  low_a = x_in;
  low_b = omega (arith, k.low_earlier, slice_get_within b y (Split s lo hi) e);
  high_a = x_in;
  high_b = omega (arith, k.high_earlier, slice_get_within b y (Split s lo hi) e);
  low_down = omega (arith, k.low_earlier);
  high_down = omega (arith, k.high_earlier);
  low_later_a = later;
  low_later_b = k.low_later;
  high_later_a = later;
  high_later_b = k.high_later;
  label_a = λ bits. ap (λ p. label_at a p bits) (sym (side-same s x bits));
  label_b = λ bits. label_at-split w b d y s lo hi bits e;
}
  where
    k : IsFork w b y s lo hi
    k = fork_at w b y s lo hi d e

pub parts_both : (a b : List Branch) (w x y s lo hi lo' hi' : ℕ) → IsDiagram w a → IsDiagram w b → slice_get a x ≡ Some (Split s lo hi) → slice_get b y ≡ Some (Split s lo' hi') → HasParts a b w x y s (lo, lo') (hi, hi')
parts_both a b w x y s lo hi lo' hi' d d' e e' = record {
  signal_in = k.signal_in;
  first = λ t h _. omega (arith, top_at w a x s lo hi e);
  before_a = omega (arith, top_at w a x s lo hi e);
  before_b = omega (arith, top_at w b y s lo' hi' e');
  low_a = omega (arith, k.low_earlier, slice_get_within a x (Split s lo hi) e);
  low_b = omega (arith, k'.low_earlier, slice_get_within b y (Split s lo' hi') e');
  high_a = omega (arith, k.high_earlier, slice_get_within a x (Split s lo hi) e);
  high_b = omega (arith, k'.high_earlier, slice_get_within b y (Split s lo' hi') e');
  low_down = omega (arith, k.low_earlier, k'.low_earlier);
  high_down = omega (arith, k.high_earlier, k'.high_earlier);
  low_later_a = k.low_later;
  low_later_b = k'.low_later;
  high_later_a = k.high_later;
  high_later_b = k'.high_later;
  label_a = λ bits. label_at-split w a d x s lo hi bits e;
  label_b = λ bits. label_at-split w b d' y s lo' hi' bits e';
}
  where
    k : IsFork w a x s lo hi
    k = fork_at w a x s lo hi d e

    k' : IsFork w b y s lo' hi'
    k' = fork_at w b y s lo' hi' d' e'

-- a join of two labels
pub join_labels : (R : ℕ → ℕ → ℕ → Type 0) (a b : List Branch) (t : TreeData) (x y l m r place : ℕ)
    → slice_get t.nodes place ≡ Some (Leaf r) → slice_get a x ≡ Some (Leaf l) → slice_get b y ≡ Some (Leaf m) → R l m r → IsJoin R a b t x y place
join_labels R a b t x y l m r place e ea eb h = record {
  within = slice_get_within t.nodes place (Leaf r) e;
  later = λ s narrow _ _. omega (arith, ap (top t.width) e);
  label = λ bits.
      subst (λ n. R n (label_at b y bits) (label_at t.nodes place bits)) (sym (label_at-leaf a x l bits ea))
      (subst (λ n. R l n (label_at t.nodes place bits)) (sym (label_at-leaf b y m bits eb))
      (subst (R l m) (sym (label_at-leaf t.nodes place r bits e)) h));
}

-- a join stays one while its table grows
pub IsJoin-grow : (R : ℕ → ℕ → ℕ → Type 0) (a b : List Branch) (t t' : TreeData) (x y place : ℕ) → Grows t t' → IsJoin R a b t x y place → IsJoin R a b t' x y place
IsJoin-grow R a b t t' x y place g j = record {
  within = omega (arith, j.within, Grows-length t t' g);
  later = λ s narrow h k.
      omega (
        arith,
        Grows-top t t' g place j.within,
        j.later s (omega (arith, narrow, g.width)) (subst (λ w. s ≤ top w (slice_get a x)) g.width h) (subst (λ w. s ≤ top w (slice_get b y)) g.width k),
      );
  label = λ bits. subst (R (label_at a x bits) (label_at b y bits)) (sym (Grows-label t t' g place bits j.within)) (j.label bits);
}

-- a signal can be put above the joins of its parts
pub can_fork : (R : ℕ → ℕ → ℕ → Type 0) (a b : List Branch) (w x y s : ℕ) (low high : ℕ × ℕ) (t1 t2 : TreeData) (zero' one' : ℕ)
    → HasParts a b w x y s low high → t1.width ≡ w → Grows t1 t2
    → IsJoin R a b t1 low.0 low.1 zero' → IsJoin R a b t2 high.0 high.1 one' → CanFork t2 s zero' one'
can_fork R a b w x y s low high t1 t2 zero' one' p e g j1 j2 = record {
  signal_in = omega (arith, p.signal_in, e, g.width);
  low_in = (IsJoin-grow R a b t1 t2 low.0 low.1 zero' g j1).within;
  high_in = j2.within;
  low_later =
      let h : s + 1 ≤ top t1.width (slice_get t1.nodes zero') =
      j1.later (s + 1) (omega (arith, p.signal_in, e)) (subst (λ v. s + 1 ≤ top v (slice_get a low.0)) (sym e) (omega (arith, p.low_later_a)))
      (subst (λ v. s + 1 ≤ top v (slice_get b low.1)) (sym e) (omega (arith, p.low_later_b))) in
      omega (arith, h, Grows-top t1 t2 g zero' j1.within);
  high_later =
      let e' : t2.width ≡ w = g.width ∙ e in
      let h : s + 1 ≤ top t2.width (slice_get t2.nodes one') =
      j2.later (s + 1) (omega (arith, p.signal_in, e')) (subst (λ v. s + 1 ≤ top v (slice_get a high.0)) (sym e') (omega (arith, p.high_later_a)))
      (subst (λ v. s + 1 ≤ top v (slice_get b high.1)) (sym e') (omega (arith, p.high_later_b))) in
      omega (arith, h);
}

-- a join of the parts by a signal
pub join_parts : (R : ℕ → ℕ → ℕ → Type 0) (a b : List Branch) (w x y s : ℕ) (low high : ℕ × ℕ) (t1 t2 t3 : TreeData) (zero' one' place : ℕ)
    → HasParts a b w x y s low high → t1.width ≡ w → Grows t1 t2 → Grows t2 t3
    → IsJoin R a b t1 low.0 low.1 zero' → IsJoin R a b t2 high.0 high.1 one' → IsForked t3 s zero' one' place → IsJoin R a b t3 x y place
join_parts R a b w x y s low high t1 t2 t3 zero' one' place p e g h j1 j2 f = record {
  within = f.within;
  later = λ r narrow ha hb.
      omega (arith, f.later, p.first r (subst (λ v. r ≤ top v (slice_get a x)) e' ha) (subst (λ v. r ≤ top v (slice_get b y)) e' hb));
  label = λ bits. by_side bits (bits / 2 ^ s % 2 == 1) (p.label_a bits) (p.label_b bits) (f.label bits);
}
  where
    e' : t3.width ≡ w
    e' = h.width ∙ g.width ∙ e

    k1 : IsJoin R a b t3 low.0 low.1 zero'
    k1 = IsJoin-grow R a b t1 t3 low.0 low.1 zero' (Grows-then t1 t2 t3 g h) j1

    k2 : IsJoin R a b t3 high.0 high.1 one'
    k2 = IsJoin-grow R a b t2 t3 high.0 high.1 one' h j2

    by_side : (bits : ℕ) (v : Bool) → label_at a x bits ≡ label_at a (cond v high.0 low.0) bits → label_at b y bits ≡ label_at b (cond v high.1 low.1) bits → label_at t3.nodes place bits ≡ label_at t3.nodes (cond v one' zero') bits → R (label_at a x bits) (label_at b y bits) (label_at t3.nodes place bits)
    by_side bits true ea eb ec =
        subst (λ n. R n (label_at b y bits) (label_at t3.nodes place bits)) (sym ea)
        (subst (λ n. R (label_at a high.0 bits) n (label_at t3.nodes place bits)) (sym eb)
        (subst (R (label_at a high.0 bits) (label_at b high.1 bits)) (sym ec) (k2.label bits)))
    by_side bits false ea eb ec =
        subst (λ n. R n (label_at b y bits) (label_at t3.nodes place bits)) (sym ea)
        (subst (λ n. R (label_at a low.0 bits) n (label_at t3.nodes place bits)) (sym eb)
        (subst (R (label_at a low.0 bits) (label_at b low.1 bits)) (sym ec) (k1.label bits)))

-- the notes stay right while the table grows, and with one more of them
pub IsJoining-grow : (R : ℕ → ℕ → ℕ → Type 0) (a b : List Branch) (t t' : TreeData) (notes : Notes) → Grows t t' → IsJoining R a b t notes → IsJoining R a b t' notes
IsJoining-grow R a b t t' notes g j = record { known = λ x y place e. IsJoin-grow R a b t t' x y place g (j.known x y place e) }

pub IsJoining-note : (R : ℕ → ℕ → ℕ → Type 0) (a b : List Branch) (t : TreeData) (notes notes' : Notes) (x y place answer : ℕ)
    → IsJoining R a b t notes → IsJoin R a b t x y place → IsNoted notes notes' x y place answer → IsJoining R a b t notes'
IsJoining-note R a b t notes notes' x y place answer j at n = record { known = λ x' y' p e. go x' y' p (n.others x' y' p e) }
  where
    go : (x' y' p : ℕ) → ((x' ≡ x) × (y' ≡ y) × (p ≡ place)) ⊎ (noted notes x' y' ≡ Some p) → IsJoin R a b t x' y' p
    go x' y' p (inl s) =
        subst (λ n. IsJoin R a b t n y' p) (sym s.0)
        (subst (λ n. IsJoin R a b t x n p) (sym s.1) (subst (IsJoin R a b t x y) (sym s.2) at))
    go x' y' p (inr e) = j.known x' y' p e

pub apart_below : (s t : ℕ) → s ≢ t → t ≤ s → t < s
apart_below s t ne le = omega arith

pub IsJoin-noted : (R : ℕ → ℕ → ℕ → Type 0) (a b : List Branch) (t : TreeData) (notes notes' : Notes) (x y place answer : ℕ)
    → IsJoin R a b t x y place → IsNoted notes notes' x y place answer → IsJoin R a b t x y answer
IsJoin-noted R a b t notes notes' x y place answer at n = subst (IsJoin R a b t x y) (sym n.same) at
