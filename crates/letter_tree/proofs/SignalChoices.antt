-- What a table knows of the choice of one of two places by a signal.
use Rattle.std.proofs.Common.{Bool, true, false, cond, ◌≡◌, ℕ, ◌+◌, ◌/◌, ◌%◌, ◌^◌, ◌==◌, ◌<◌, ◌≤◌, List, length, Some, refl, sym, ap, ◌∙◌, subst, arith, inl, inr, ◌⊎◌}
use Rattle.std.proofs.lemmas.Option.{slice_get_within}
use Rattle.std.specs.List.{slice_get}
use Rattle.word_core.specs.declared.branches.Branch.{Branch}
use Rattle.word_core.specs.declared.branches.Branch.TheVariants.{Split}
use Rattle.word_core.specs.Tree.{label_at, side}
use Rattle.letter_tree.specs.Diagram.{top, IsFork, IsDiagram, TreeData, Grows, CanFork, IsForked}
use Rattle.letter_tree.specs.Join.{HasParts}
use Rattle.letter_tree.specs.Choice.{IsPart, IsChoice, IsChoosing}
use Rattle.letter_tree.specs.Memo.{Notes, noted, IsNoted}
use Rattle.letter_tree.proofs.Diagrams.{label_at-split, Grows-length, Grows-top, Grows-label, Grows-then}
use Rattle.letter_tree.proofs.Joints.{fork_at}

pub part_of : (nodes : List Branch) (w s at lo hi : ℕ) (value : Bool) → IsDiagram w nodes → slice_get nodes at ≡ Some (Split s lo hi) → IsPart nodes w s at value (cond value hi lo)
part_of nodes w s at lo hi value d e = record {
  within = in_ value;
  later = later value;
  label = λ bits h. label_at-split w nodes d at s lo hi bits e ∙ ap (λ v. label_at nodes (cond v hi lo) bits) h;
}
  where
    k : IsFork w nodes at s lo hi
    k = fork_at w nodes at s lo hi d e

    in_ : (v : Bool) → cond v hi lo < length nodes
    in_ true = omega (arith, k.high_earlier, slice_get_within nodes at (Split s lo hi) e)
    in_ false = omega (arith, k.low_earlier, slice_get_within nodes at (Split s lo hi) e)

    later : (v : Bool) → s < top w (slice_get nodes (cond v hi lo))
    later true = k.high_later
    later false = k.low_later

pub IsChoice-grow : (t t' : TreeData) (s x y place : ℕ) → Grows t t' → x < length t.nodes → y < length t.nodes → IsChoice t s x y place → IsChoice t' s x y place
IsChoice-grow t t' s x y place g x_in y_in c = record {
  within = omega (arith, c.within, Grows-length t t' g);
  later = λ r h hx hy.
      omega (
        arith,
        Grows-top t t' g place c.within,
        c.later r h (omega (arith, hx, Grows-top t t' g x x_in)) (omega (arith, hy, Grows-top t t' g y y_in)),
      );
  label = λ bits. Grows-label t t' g place bits c.within ∙ c.label bits ∙ at bits (bits / 2 ^ s % 2 == 1);
}
  where
    at : (bits : ℕ) (v : Bool) → label_at t.nodes (cond v y x) bits ≡ label_at t'.nodes (cond v y x) bits
    at bits true = sym (Grows-label t t' g y bits y_in)
    at bits false = sym (Grows-label t t' g x bits x_in)

-- the choice at the signal itself
pub choice_at : (t t' : TreeData) (s x y zero' one' place : ℕ) → IsPart t.nodes t.width s x false zero' → IsPart t.nodes t.width s y true one'
    → s ≤ top t.width (slice_get t.nodes x) → s ≤ top t.width (slice_get t.nodes y) → x < length t.nodes → y < length t.nodes
    → Grows t t' → IsForked t' s zero' one' place → IsChoice t' s x y place
choice_at t t' s x y zero' one' place p q bx by_ x_in y_in g f = record {
  within = f.within;
  later = λ r h hx hy. omega (arith, f.later);
  label = λ bits. f.label bits ∙ at bits (bits / 2 ^ s % 2 == 1) refl;
}
  where
    at : (bits : ℕ) (v : Bool) → (bits / 2 ^ s % 2 == 1) ≡ v → label_at t'.nodes (cond v one' zero') bits ≡ label_at t'.nodes (cond v y x) bits
    at bits true e = Grows-label t t' g one' bits q.within ∙ sym (q.label bits e) ∙ sym (Grows-label t t' g y bits y_in)
    at bits false e = Grows-label t t' g zero' bits p.within ∙ sym (p.label bits e) ∙ sym (Grows-label t t' g x bits x_in)

-- an earlier signal can be put above the choices of its parts
pub can_fork_choices : (t0 t1 t2 : TreeData) (x y s first : ℕ) (low high : ℕ × ℕ) (below above : ℕ)
    → HasParts t0.nodes t0.nodes t0.width x y first low high → first < s → Grows t0 t1 → Grows t1 t2
    → IsChoice t1 s low.0 low.1 below → IsChoice t2 s high.0 high.1 above → CanFork t2 first below above
can_fork_choices t0 t1 t2 x y s first low high below above p less g h c d = record {
  signal_in = omega (arith, p.signal_in, g.width, h.width);
  low_in = omega (arith, c.within, Grows-length t1 t2 h);
  high_in = d.within;
  low_later =
      let k : first + 1 ≤ top t1.width (slice_get t1.nodes below) =
      c.later (first + 1) (omega arith) (omega (arith, p.low_later_a, Grows-top t0 t1 g low.0 p.low_a)) (omega (arith, p.low_later_b, Grows-top t0 t1 g low.1 p.low_b)) in
      omega (arith, k, Grows-top t1 t2 h below c.within);
  high_later =
      let gh : Grows t0 t2 = Grows-then t0 t1 t2 g h in
      let k : first + 1 ≤ top t2.width (slice_get t2.nodes above) =
      d.later (first + 1) (omega arith) (omega (arith, p.high_later_a, Grows-top t0 t2 gh high.0 p.high_a)) (omega (arith, p.high_later_b, Grows-top t0 t2 gh high.1 p.high_b)) in
      omega (arith, k);
}

-- the choice behind an earlier signal
pub choice_parts : (t0 t1 t2 t3 : TreeData) (x y s first : ℕ) (low high : ℕ × ℕ) (below above place : ℕ)
    → HasParts t0.nodes t0.nodes t0.width x y first low high → x < length t0.nodes → y < length t0.nodes
    → Grows t0 t1 → Grows t1 t2 → Grows t2 t3
    → IsChoice t1 s low.0 low.1 below → IsChoice t2 s high.0 high.1 above → IsForked t3 first below above place → IsChoice t3 s x y place
choice_parts t0 t1 t2 t3 x y s first low high below above place p x_in y_in g h k c d f = record {
  within = f.within;
  later = λ r less hx hy.
      omega (arith, f.later, p.first r (omega (arith, hx, Grows-top t0 t3 all x x_in)) (omega (arith, hy, Grows-top t0 t3 all y y_in)));
  label = λ bits. f.label bits ∙ at bits (bits / 2 ^ first % 2 == 1) (p.label_a bits) (p.label_b bits);
}
  where
    all : Grows t0 t3
    all = Grows-then t0 t1 t3 g (Grows-then t1 t2 t3 h k)

    c' : IsChoice t3 s low.0 low.1 below
    c' = IsChoice-grow t1 t3 s low.0 low.1 below (Grows-then t1 t2 t3 h k) (omega (arith, p.low_a, Grows-length t0 t1 g)) (omega (arith, p.low_b, Grows-length t0 t1 g)) c

    d' : IsChoice t3 s high.0 high.1 above
    d' = IsChoice-grow t2 t3 s high.0 high.1 above k (omega (arith, p.high_a, Grows-length t0 t1 g, Grows-length t1 t2 h)) (omega (arith, p.high_b, Grows-length t0 t1 g, Grows-length t1 t2 h)) d

    old : (i bits : ℕ) → i < length t0.nodes → label_at t3.nodes i bits ≡ label_at t0.nodes i bits
    old i bits i_in = Grows-label t0 t3 all i bits i_in

    low_side : (bits : ℕ) (u : Bool) → label_at t0.nodes x bits ≡ label_at t0.nodes low.0 bits → label_at t0.nodes y bits ≡ label_at t0.nodes low.1 bits → label_at t3.nodes (cond u low.1 low.0) bits ≡ label_at t3.nodes (cond u y x) bits
    low_side bits true ex ey = old low.1 bits p.low_b ∙ sym ey ∙ sym (old y bits y_in)
    low_side bits false ex ey = old low.0 bits p.low_a ∙ sym ex ∙ sym (old x bits x_in)

    high_side : (bits : ℕ) (u : Bool) → label_at t0.nodes x bits ≡ label_at t0.nodes high.0 bits → label_at t0.nodes y bits ≡ label_at t0.nodes high.1 bits → label_at t3.nodes (cond u high.1 high.0) bits ≡ label_at t3.nodes (cond u y x) bits
    high_side bits true ex ey = old high.1 bits p.high_b ∙ sym ey ∙ sym (old y bits y_in)
    high_side bits false ex ey = old high.0 bits p.high_a ∙ sym ex ∙ sym (old x bits x_in)

    at : (bits : ℕ) (v : Bool) → label_at t0.nodes x bits ≡ label_at t0.nodes (cond v high.0 low.0) bits → label_at t0.nodes y bits ≡ label_at t0.nodes (cond v high.1 low.1) bits → label_at t3.nodes (cond v above below) bits ≡ label_at t3.nodes (side s x y bits) bits
    at bits true ex ey = d'.label bits ∙ high_side bits (bits / 2 ^ s % 2 == 1) ex ey
    at bits false ex ey = c'.label bits ∙ low_side bits (bits / 2 ^ s % 2 == 1) ex ey

-- the notes stay right while the table grows, and with one more of them
pub IsChoosing-grow : (t t' : TreeData) (s : ℕ) (notes : Notes) → Grows t t' → IsChoosing t s notes → IsChoosing t' s notes
IsChoosing-grow t t' s notes g c = record {
  low_in = λ x y p e. omega (arith, c.low_in x y p e, Grows-length t t' g);
  high_in = λ x y p e. omega (arith, c.high_in x y p e, Grows-length t t' g);
  known = λ x y p e. IsChoice-grow t t' s x y p g (c.low_in x y p e) (c.high_in x y p e) (c.known x y p e);
}

pub IsChoosing-note : (t : TreeData) (s : ℕ) (notes notes' : Notes) (x y place answer : ℕ) → x < length t.nodes → y < length t.nodes
    → IsChoosing t s notes → IsChoice t s x y place → IsNoted notes notes' x y place answer → IsChoosing t s notes'
IsChoosing-note t s notes notes' x y place answer x_in y_in c at n = record {
  low_in = λ x' y' p e. low x' y' p (n.others x' y' p e);
  high_in = λ x' y' p e. high x' y' p (n.others x' y' p e);
  known = λ x' y' p e. known x' y' p (n.others x' y' p e);
}
  where
    low : (x' y' p : ℕ) → ((x' ≡ x) × (y' ≡ y) × (p ≡ place)) ⊎ (noted notes x' y' ≡ Some p) → x' < length t.nodes
    low x' y' p (inl e) = omega (arith, e.0)
    low x' y' p (inr e) = c.low_in x' y' p e

    high : (x' y' p : ℕ) → ((x' ≡ x) × (y' ≡ y) × (p ≡ place)) ⊎ (noted notes x' y' ≡ Some p) → y' < length t.nodes
    high x' y' p (inl e) = omega (arith, e.1)
    high x' y' p (inr e) = c.high_in x' y' p e

    known : (x' y' p : ℕ) → ((x' ≡ x) × (y' ≡ y) × (p ≡ place)) ⊎ (noted notes x' y' ≡ Some p) → IsChoice t s x' y' p
    known x' y' p (inl e) =
        subst (λ i. IsChoice t s i y' p) (sym e.0) (subst (λ i. IsChoice t s x i p) (sym e.1) (subst (IsChoice t s x y) (sym e.2) at))
    known x' y' p (inr e) = c.known x' y' p e

pub IsChoice-noted : (t : TreeData) (s : ℕ) (notes notes' : Notes) (x y place answer : ℕ) → IsChoice t s x y place → IsNoted notes notes' x y place answer → IsChoice t s x y answer
IsChoice-noted t s notes notes' x y place answer at n = subst (IsChoice t s x y) (sym n.same) at

-- the same facts of equal lists
pub HasParts-at : (a b nodes : List Branch) (v w x y s : ℕ) (low high : ℕ × ℕ) → a ≡ nodes → b ≡ nodes → v ≡ w → HasParts a b v x y s low high → HasParts nodes nodes w x y s low high
HasParts-at a b nodes v w x y s low high e f h p =
    subst (λ n. HasParts n nodes w x y s low high) e (subst (λ n. HasParts a n w x y s low high) f (subst (λ n. HasParts a b n x y s low high) h p))

pub IsPart-at : (a nodes : List Branch) (v w s at : ℕ) (value : Bool) (place : ℕ) → a ≡ nodes → v ≡ w → IsPart a v s at value place → IsPart nodes w s at value place
IsPart-at a nodes v w s at value place e h p = subst (λ n. IsPart n w s at value place) e (subst (λ n. IsPart a n s at value place) h p)
