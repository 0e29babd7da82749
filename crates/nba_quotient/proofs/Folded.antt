-- The automaton of classes has its classes in the order of their first states, with the edges of each state.
use Rattle.std.proofs.Common.{◌≡◌, ℕ, zero, suc, ◌+◌, ◌<◌, ◌≤◌, Bool, true, false, nat_lt, max, List, [], ◌∷◌, ◌++◌, length, take, map, refl, sym, ◌∙◌, ap, subst, arith}
use borrow.Author.Tests.{ltb-true, ltb-false}
use Rattle.std.specs.List.{Contains}
use Rattle.std.proofs.lemmas.List.{take_all, length-map}
use Rattle.word_core.specs.declared.automata.Edge.{Edge}
use Rattle.word_core.specs.Automaton.{AutomatonData, IsAutomaton, edges_at}
use Rattle.nba_quotient.specs.declared.classes.Classes.{Classes}
use Rattle.nba_quotient.specs.Classes.{known, AreOrdered, AreClasses, AreStable}
use Rattle.nba_quotient.specs.Folding.{IsFirstOf, IsFolding}
use Rattle.nba_quotient.specs.Ways.{class_at}
use Rattle.nba_quotient.proofs.Simulated.{IsQuotient, class_within, up, down}
use Rattle.nba_quotient.proofs.Splits.{known_more}

-- the classes of the first states are known, and each of them has a first state there
record IsBegun (of : List ℕ) (n : ℕ) : Type 0 where
  below : (t : ℕ) → t < n → class_at of t < known (take n of)
  first : (c : ℕ) → c < known (take n of) → (s : ℕ) × (s < n) × IsFirstOf of c s

module _ (of : List ℕ) (ordered : AreOrdered of) where
  more : (n : ℕ) → n < length of → IsBegun of n → IsBegun of (n + 1)
  more n l old = record { below = below; first = first }
    where
      size : known (take (n + 1) of) ≡ max (known (take n of)) (class_at of n + 1)
      size = known_more of n l

      low : class_at of n ≤ known (take n of)
      low = ordered n l

      below : (t : ℕ) → t < n + 1 → class_at of t < known (take (n + 1) of)
      below t h = by (nat_lt t n) refl
        where
          by : (b : Bool) → nat_lt t n ≡ b → class_at of t < known (take (n + 1) of)
          by true e = omega (arith, old.below t (ltb-true t n e), size)
          by false e =
              let same : t ≡ n = omega (arith, ltb-false t n e) in
              let at : class_at of t ≡ class_at of n = ap (class_at of) same in
              omega (arith, at, size)

      first : (c : ℕ) → c < known (take (n + 1) of) → (s : ℕ) × (s < n + 1) × IsFirstOf of c s
      first c h = by (nat_lt c (known (take n of))) refl
        where
          by : (b : Bool) → nat_lt c (known (take n of)) ≡ b → (s : ℕ) × (s < n + 1) × IsFirstOf of c s
          by true e =
              let f = old.first c (ltb-true c (known (take n of)) e) in
              (f.0, omega (arith, f.1), f.2)
          by false e =
              let is : c ≡ known (take n of) = omega (arith, ltb-false c (known (take n of)) e, size, low) in
              let here : class_at of n ≡ c = omega (arith, ltb-false c (known (take n of)) e, size, low) in
              (n, omega arith, record { within = l; class = here; before = λ t k. subst (λ m. class_at of t < m) (sym is) (old.below t k) })

  begun : (n : ℕ) → n ≤ length of → IsBegun of n
  begun zero l = record { below = λ t h. absurd (omega arith); first = λ c h. absurd (omega (arith, h)) }
  begun (suc n) l = subst (λ m. IsBegun of m) (plus n) (more n (omega arith) (begun n (omega arith)))
    where
      plus : (n : ℕ) → n + 1 ≡ suc n
      plus n = omega arith

pub folding : (a : AutomatonData) (c : Classes) (q : AutomatonData) → IsAutomaton a → AreClasses (length a.states) c → AreStable a c → IsQuotient a c q → IsFolding a c.of.items q
folding a c q good classes stable is = record {
  each = classes.each;
  classes = λ s l. subst (λ n. class_at c.of.items s < n) (sym size) (class_within a c q good classes stable is s l);
  firsts = first;
  init = is.init;
  begins = λ s e l there.
      let f = up a c q good classes stable is s (class_at c.of.items s) e (refl, l) there in
      (f.edge, f.there, sym f.leads.0, record { marked = f.marked; cube = f.cube });
  ends = λ s f l there.
      let e = down a c q good classes stable is (class_at c.of.items s) s f (refl, l) there in
      (e.edge, e.there, e.leads.0, record { marked = e.marked; cube = e.cube });
}
  where
    size : length q.states ≡ length c.leasts.items
    size = ap length is.states ∙ length-map c.leasts.items _

    first : (d : ℕ) → d < length q.states → (s : ℕ) × IsFirstOf c.of.items d s
    first d l =
        let all : take (length c.of.items) c.of.items ≡ c.of.items = take_all (length c.of.items) c.of.items (omega arith) in
        let within : d < known (take (length c.of.items) c.of.items) = subst (λ n. d < n) (size ∙ sym classes.counted ∙ sym (ap known all)) l in
        let f = (begun c.of.items classes.ordered (length c.of.items) (omega arith)).first d within in
        (f.0, f.2)
