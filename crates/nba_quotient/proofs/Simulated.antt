-- The automaton of stable classes has the runs of the first one, and no others.
use Rattle.std.proofs.Common.{◌≡◌, ℕ, ◌+◌, ◌<◌, ◌≤◌, Bool, true, false, if◌then◌else◌, nat_lt, List, [], ◌∷◌, length, map, get_or, Option, Some, None, refl, sym, ◌∙◌, ap, subst, arith}
use borrow.Author.Tests.{ltb-true, ltb-false}
use Rattle.std.specs.Prelude.{option_map}
use Rattle.std.specs.List.{All, Contains}
use Rattle.std.specs.Option.{IsSomeAnd, IfSome}
use Rattle.std.proofs.lemmas.List.{get_or-map, get_or_past, get_or_default, length-map}
use Rattle.std.proofs.lemmas.List.Elements.{All-get_or, All-contains}
use Rattle.word_core.specs.declared.automata.Edge.{Edge}
use Rattle.word_core.specs.Automaton.{AutomatonData, IsAutomaton, IsEdge, edges_at}
use Rattle.word_core.specs.Cube.{holds}
use Rattle.word_core.specs.Machine.{MachineData}
use Rattle.word_core.specs.Run.{IsRunFrom, IsRun, count, Keeps}
use Rattle.nba_quotient.specs.declared.classes.Classes.{Classes}
use Rattle.nba_quotient.specs.Classes.{AreClasses, AreStable}
use Rattle.nba_quotient.specs.Simulation.{Outruns}
use Rattle.nba_quotient.specs.Ways.{class_at, to_class}

-- an edge that does what another one does, and leads on
pub record Answers (b : AutomatonData) (R : ℕ → ℕ → Type 0) (t : ℕ) (e : Edge) : Type 0 where
  pub edge : Edge
  pub there : Contains (edges_at b t) edge
  pub marked : e.marked ≡ true → edge.marked ≡ true
  pub cube : (x : ℕ) → holds e.cube x ≡ true → holds edge.cube x ≡ true
  pub leads : R e.next edge.next

abbrev mark : Bool → ℕ
mark marked = if marked then 1 else 0

mark_more : (b c : Bool) → (b ≡ true → c ≡ true) → mark b ≤ mark c
mark_more true true h = omega arith
mark_more true false h = absurd (false≢true (h refl))
  where
    false≢true : false ≡ true → ⊥
    false≢true e = cc
mark_more false true h = omega arith
mark_more false false h = omega arith

module _ (a b : AutomatonData) (R : ℕ → ℕ → Type 0) (step : (s t : ℕ) (e : Edge) → R s t → Contains (edges_at a s) e → Answers b R t e) where
  follows : (letters : List ℕ) (run : List Edge) (s t : ℕ) → R s t → IsRunFrom a s letters run → (other : List Edge) × IsRunFrom b t letters other × (count run ≤ count other)
  follows [] [] s t r h = ([], tt, omega arith)
  follows [] (e ∷ es) s t r h = absurd h
  follows (x ∷ xs) [] s t r h = absurd h
  follows (x ∷ xs) (e ∷ es) s t r h =
      let f = step s t e r h.0 in
      let rest = follows xs es e.next f.edge.next f.leads h.2 in
      let more : mark e.marked ≤ mark f.edge.marked = mark_more e.marked f.edge.marked f.marked in
      let whole : mark e.marked + count es ≤ mark f.edge.marked + count rest.0 = omega (arith, more, rest.2) in
      (f.edge ∷ rest.0, (f.there, f.cube x h.1, rest.1), whole)

-- an edge at a state is at one of the states
edge_within : (a : AutomatonData) (s : ℕ) (e : Edge) → Contains (edges_at a s) e → s < length a.states
edge_within a s e h = by (nat_lt s (length a.states)) refl
  where
    by : (b : Bool) → nat_lt s (length a.states) ≡ b → s < length a.states
    by true l = ltb-true s (length a.states) l
    by false l =
        let past : edges_at a s ≡ [] = get_or_past a.states s [] (ltb-false s (length a.states) l) in
        let none : h.0 < 0 = subst (λ (es : List Edge). h.0 < length es) past h.1 in
        absurd (omega arith)

mapped_contains : (g : Edge → Edge) (es : List Edge) (f : Edge) → Contains es f → Contains (map g es) (g f)
mapped_contains g es f h =
    let l : h.0 < length (map g es) = omega (arith, length-map es g, h.1) in
    (h.0, l, get_or-map g es h.0 f (g f) h.1 ∙ ap g h.2)

contains_mapped : (g : Edge → Edge) (es : List Edge) (e : Edge) → Contains (map g es) e → (f : Edge) × Contains es f × (g f ≡ e)
contains_mapped g es e h =
    let l : h.0 < length es = omega (arith, length-map es g, h.1) in
    let f : Edge = get_or es h.0 e in
    (f, (h.0, l, get_or_default es h.0 f e l), sym (get_or-map g es h.0 e e l) ∙ h.2)

-- what the classes make of an automaton
pub record IsQuotient (a : AutomatonData) (c : Classes) (q : AutomatonData) : Type 0 where
  pub states : q.states ≡ map (λ s. map (to_class c.of.items) (edges_at a s)) c.leasts.items
  pub init : q.init ≡ option_map (class_at c.of.items) a.init

module _ (a : AutomatonData) (c : Classes) (q : AutomatonData) (good : IsAutomaton a) (classes : AreClasses (length a.states) c) (stable : AreStable a c) (is : IsQuotient a c q) where
  abbrev pub of : List ℕ
  of = c.of.items

  -- a state of the quotient has the edges of a state of its class
  edges_are : (t : ℕ) → t < length c.leasts.items → edges_at q t ≡ map (to_class of) (edges_at a (class_at c.leasts.items t))
  edges_are t l = ap (λ (states : List (List Edge)). get_or states t []) is.states ∙ get_or-map (λ s. map (to_class of) (edges_at a s)) c.leasts.items t 0 [] l

  pub class_within : (s : ℕ) → s < length a.states → class_at of s < length c.leasts.items
  class_within s l = All-get_or (λ n. n < length c.leasts.items) of s 0 (omega (arith, classes.each)) classes.classes

  least_within : (t : ℕ) → t < length c.leasts.items → class_at c.leasts.items t < length a.states
  least_within t l = All-get_or (λ n. n < length a.states) c.leasts.items t 0 l classes.leasts

  next_within : (s : ℕ) (e : Edge) → s < length a.states → Contains (edges_at a s) e → e.next < length a.states
  next_within s e l h =
      let all : All (IsEdge a.signals (length a.states)) (edges_at a s) = All-get_or (All (IsEdge a.signals (length a.states))) a.states s [] l good.ranged in
      (All-contains (IsEdge a.signals (length a.states)) (edges_at a s) e all h).1

  abbrev pub Has : ℕ → ℕ → Type 0
  Has s t = (class_at of s ≡ t) × (s < length a.states)

  abbrev pub Is : ℕ → ℕ → Type 0
  Is t s = Has s t

  pub up : (s t : ℕ) (e : Edge) → Has s t → Contains (edges_at a s) e → Answers q Has t e
  up s t e h there =
      let within : t < length c.leasts.items = subst (λ n. n < length c.leasts.items) h.0 (class_within s h.1) in
      let least : ℕ = class_at c.leasts.items t in
      let own : class_at of s ≡ class_at of least = sym (classes.own s h.1) ∙ ap (λ n. class_at of (class_at c.leasts.items n)) h.0 in
      let f = stable s least h.1 (least_within t within) own e there in
      record {
        edge = to_class of f.0;
        there = subst (λ (es : List Edge). Contains es (to_class of f.0)) (sym (edges_are t within)) (mapped_contains (to_class of) (edges_at a least) f.0 f.1);
        marked = f.2.marked;
        cube = f.2.cube;
        leads = (sym f.2.class, next_within s e h.1 there);
      }

  pub down : (t s : ℕ) (e : Edge) → Is t s → Contains (edges_at q t) e → Answers a Is s e
  down t s e h there =
      let within : t < length c.leasts.items = subst (λ n. n < length c.leasts.items) h.0 (class_within s h.1) in
      let least : ℕ = class_at c.leasts.items t in
      let own : class_at of least ≡ class_at of s = sym (sym (classes.own s h.1) ∙ ap (λ n. class_at of (class_at c.leasts.items n)) h.0) in
      let m = contains_mapped (to_class of) (edges_at a least) e (subst (λ (es : List Edge). Contains es e) (edges_are t within) there) in
      let f = stable least s (least_within t within) h.1 own m.0 m.1 in
      record {
        edge = f.0;
        there = f.1;
        marked = λ k. f.2.marked (ap (λ (d : Edge). d.marked) m.2 ∙ k);
        cube = λ x k. f.2.cube x (ap (λ (d : Edge). holds d.cube x) m.2 ∙ k);
        leads = (f.2.class ∙ ap (λ (d : Edge). d.next) m.2, next_within s f.0 h.1 f.1);
      }

  pub no_less : Outruns q a
  no_less letters run h = by a.init refl h
    where
      by : (o : Option ℕ) → a.init ≡ o → IsSomeAnd o (λ s. IsRunFrom a s letters run) → (other : List Edge) × IsRun q letters other × (count run ≤ count other)
      by None e k = absurd k
      by (Some s) e k =
          let l : s < length a.states = subst (λ o. IfSome o (λ s. s < length a.states)) e good.begins in
          let found = follows a q Has up letters run s (class_at of s) (refl, l) k in
          let first : q.init ≡ Some (class_at of s) = is.init ∙ ap (option_map (class_at of)) e in
          (found.0, subst (λ o. IsSomeAnd o (λ t. IsRunFrom q t letters found.0)) (sym first) found.1, found.2)

  pub no_more : Outruns a q
  no_more letters run h = by a.init refl
    where
      by : (o : Option ℕ) → a.init ≡ o → (other : List Edge) × IsRun a letters other × (count run ≤ count other)
      by None e =
          let none : q.init ≡ None = is.init ∙ ap (option_map (class_at of)) e in
          absurd (subst (λ o. IsSomeAnd o (λ t. IsRunFrom q t letters run)) none h)
      by (Some s) e =
          let l : s < length a.states = subst (λ o. IfSome o (λ s. s < length a.states)) e good.begins in
          let first : q.init ≡ Some (class_at of s) = is.init ∙ ap (option_map (class_at of)) e in
          let k : IsRunFrom q (class_at of s) letters run = subst (λ o. IsSomeAnd o (λ t. IsRunFrom q t letters run)) first h in
          let found = follows q a Is down letters run (class_at of s) s (refl, l) k in
          (found.0, subst (λ o. IsSomeAnd o (λ s. IsRunFrom a s letters found.0)) (sym e) found.1, found.2)

-- what is kept along runs that count no less is kept
pub kept_by : (a b : AutomatonData) → Outruns b a → (m : MachineData) (k : ℕ) → Keeps b m k → Keeps a m k
kept_by a b more m k keeps letters run play is =
    let other = more letters run is in
    let low : count other.0 ≤ k = keeps letters other.0 play other.1 in
    omega (arith, low, other.2)
