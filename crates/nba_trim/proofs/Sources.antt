-- The states with an edge to each state, one state or one edge more.
use Rattle.std.proofs.Common.{◌≡◌, ℕ, ◌+◌, ◌<◌, ◌⊎◌, inl, inr, Bool, true, false, nat_eq, List, [], ◌∷◌, ◌++◌, length, get_or, set, take, refl, ap, sym, ◌∙◌, subst, arith}
use Rattle.std.specs.List.{Contains}
use borrow.Author.Tests.{eqb-true, eqb-false}
use Rattle.std.proofs.lemmas.List.{get_or-map, length-map, take-map, length-set, get_or-set_same, get_or-set_other}
use Rattle.std.proofs.lemmas.List.Elements.{All-set, All-push, All-get_or, Contains-append_left, Contains-push, Contains-push_cases}
use Rattle.word_core.specs.declared.automata.Edge.{Edge}
use Rattle.word_core.specs.Automaton.{AutomatonData, edges_at}
use Rattle.nba_trim.specs.Search.{AreStates, AreStateLists, AddsSource, AreSources, Finds, SearchData, ends, at}
use Rattle.nba_trim.proofs.Finding.{take_cases, take_before, take_here, finds_next}

-- the ends of one edge more
ends_take : (edges : List Edge) (i : ℕ) → ends (take i edges) ≡ take i (ends edges)
ends_take edges i = sym (take-map (λ (e : Edge). e.next) i edges)

ends_read : (edges : List Edge) (i : ℕ) (d : Edge) → i < length edges → (get_or edges i d).next ≡ get_or (ends edges) i 0
ends_read edges i d l = sym (get_or-map (λ (e : Edge). e.next) edges i d 0 l)

ends_length : (edges : List Edge) → length (ends edges) ≡ length edges
ends_length edges = length-map edges (λ (e : Edge). e.next)

pub ends_cases : (edges : List Edge) (i : ℕ) (d : Edge) (x : ℕ) → i < length edges → Contains (ends (take (i + 1) edges)) x → Contains (ends (take i edges)) x ⊎ (x ≡ (get_or edges i d).next)
ends_cases edges i d x l h = turn (take_cases (ends edges) i 0 x (omega (arith, ends_length edges)) (subst (λ xs. Contains xs x) (ends_take edges (i + 1)) h))
  where
    turn : Contains (take i (ends edges)) x ⊎ (x ≡ get_or (ends edges) i 0) → Contains (ends (take i edges)) x ⊎ (x ≡ (get_or edges i d).next)
    turn (inl c) = inl (subst (λ xs. Contains xs x) (sym (ends_take edges i)) c)
    turn (inr e) = inr (e ∙ sym (ends_read edges i d l))

pub ends_before : (edges : List Edge) (i x : ℕ) → i < length edges → Contains (ends (take i edges)) x → Contains (ends (take (i + 1) edges)) x
ends_before edges i x l h =
    subst (λ xs. Contains xs x) (sym (ends_take edges (i + 1))) (take_before (ends edges) i 0 x (omega (arith, ends_length edges)) (subst (λ xs. Contains xs x) (ends_take edges i) h))

pub ends_here : (edges : List Edge) (i : ℕ) (d : Edge) (x : ℕ) → i < length edges → x ≡ (get_or edges i d).next → Contains (ends (take (i + 1) edges)) x
ends_here edges i d x l e =
    subst (λ xs. Contains xs x) (sym (ends_take edges (i + 1))) (take_here (ends edges) i 0 x (omega (arith, ends_length edges)) (e ∙ ends_read edges i d l))

-- the end of one edge more is found where it is live
pub finds_end : (edges : List Edge) (live : List Bool) (i : ℕ) (d : Edge) (a b c : SearchData) → i < length edges
    → Finds (λ p. Contains (ends (take i edges)) p × (at live p ≡ true)) a b → Finds (λ p. (p ≡ (get_or edges i d).next) × (at live (get_or edges i d).next ≡ true)) b c
    → Finds (λ p. Contains (ends (take (i + 1) edges)) p × (at live p ≡ true)) a c
finds_end edges live i d a b c l f g =
    subst (λ xs. Finds (λ p. Contains xs p × (at live p ≡ true)) a c) (sym (ends_take edges (i + 1)))
    (finds_next (ends edges) live i 0 (get_or edges i d).next a b c (omega (arith, ends_length edges)) (ends_read edges i d l)
    (subst (λ xs. Finds (λ p. Contains xs p × (at live p ≡ true)) a b) (ends_take edges i) f) g)

module _ (q : ℕ) (edges : List Edge) (i : ℕ) (d : Edge) (old now : List (List ℕ)) where
  abbrev to : ℕ
  to = (get_or edges i d).next

  abbrev more : List (List ℕ)
  more = set now to (get_or now to [] ++ q ∷ [])

  pub lists_push : (count : ℕ) → q < count → to < count → AreStateLists count now → AreStateLists count more
  lists_push count in_q in_to h = record {
    each = length-set now to (get_or now to [] ++ q ∷ []) ∙ h.each;
    states = All-set (AreStates count) now to (get_or now to [] ++ q ∷ [])
        (All-push (λ p. p < count) (get_or now to []) q (All-get_or (AreStates count) now to [] (omega (arith, h.each)) h.states) in_q) h.states;
  }

  pub source_push : i < length edges → to < length now → AddsSource q (take i edges) old now → AddsSource q (take (i + 1) edges) old more
  source_push l in_to h = record {
    kept = λ p x c. now_more p x (h.kept p x c);
    sound = λ p x c. which p x (nat_eq p to) refl c;
    complete = λ p c. whole p (ends_cases edges i d p l c);
  }
    where
      now_more : (p x : ℕ) → Contains (get_or now p []) x → Contains (get_or more p []) x
      now_more p x c = go (nat_eq p to) refl
        where
          go : (b : Bool) → nat_eq p to ≡ b → Contains (get_or more p []) x
          go true e =
              let here : get_or more p [] ≡ get_or now to [] ++ q ∷ [] = ap (λ k. get_or more k []) (eqb-true p to e) ∙ get_or-set_same now to (get_or now to [] ++ q ∷ []) [] in_to in
              subst (λ xs. Contains xs x) (sym here) (Contains-append_left (get_or now to []) (q ∷ []) x (subst (λ k. Contains (get_or now k []) x) (eqb-true p to e) c))
          go false e = subst (λ xs. Contains xs x) (sym (get_or-set_other now to p (get_or now to [] ++ q ∷ []) [] (eqb-false p to e))) c

      was : (p x : ℕ) → Contains (get_or now p []) x → Contains (get_or old p []) x ⊎ ((x ≡ q) × Contains (ends (take (i + 1) edges)) p)
      was p x c = turn (h.sound p x c)
        where
          turn : Contains (get_or old p []) x ⊎ ((x ≡ q) × Contains (ends (take i edges)) p) → Contains (get_or old p []) x ⊎ ((x ≡ q) × Contains (ends (take (i + 1) edges)) p)
          turn (inl o) = inl o
          turn (inr n) = inr (n.0, ends_before edges i p l n.1)

      which : (p x : ℕ) → (b : Bool) → nat_eq p to ≡ b → Contains (get_or more p []) x → Contains (get_or old p []) x ⊎ ((x ≡ q) × Contains (ends (take (i + 1) edges)) p)
      which p x true e c =
          let p_is : p ≡ to = eqb-true p to e in
          let here : get_or more p [] ≡ get_or now p [] ++ q ∷ [] =
          ap (λ k. get_or more k []) p_is ∙ get_or-set_same now to (get_or now to [] ++ q ∷ []) [] in_to ∙ ap (λ k. get_or now k [] ++ q ∷ []) (sym p_is) in
          turn p_is (Contains-push_cases (get_or now p []) q x (subst (λ xs. Contains xs x) here c))
        where
          turn : p ≡ to → Contains (get_or now p []) x ⊎ (q ≡ x) → Contains (get_or old p []) x ⊎ ((x ≡ q) × Contains (ends (take (i + 1) edges)) p)
          turn p_is (inl n) = was p x n
          turn p_is (inr n) = inr (sym n, ends_here edges i d p l p_is)
      which p x false e c = was p x (subst (λ xs. Contains xs x) (get_or-set_other now to p (get_or now to [] ++ q ∷ []) [] (eqb-false p to e)) c)

      whole : (p : ℕ) → Contains (ends (take i edges)) p ⊎ (p ≡ to) → Contains (get_or more p []) q
      whole p (inl c) = now_more p q (h.complete p c)
      whole p (inr e) =
          subst (λ xs. Contains xs q) (sym (ap (λ k. get_or more k []) e ∙ get_or-set_same now to (get_or now to [] ++ q ∷ []) [] in_to)) (Contains-push (get_or now to []) q)

-- one state more
pub sources_more : (a : AutomatonData) (q : ℕ) (old new : List (List ℕ)) → AreSources a q old → AddsSource q (edges_at a q) old new → AreSources a (q + 1) new
sources_more a q old new s h = record {
  sound = λ p x c. which p x (h.sound p x c);
  complete = λ p x l c. whole p x l c (nat_eq x q) refl;
}
  where
    which : (p x : ℕ) → Contains (get_or old p []) x ⊎ ((x ≡ q) × Contains (ends (edges_at a q)) p) → Contains (ends (edges_at a x)) p
    which p x (inl o) = s.sound p x o
    which p x (inr n) = subst (λ y. Contains (ends (edges_at a y)) p) (sym n.0) n.1

    whole : (p x : ℕ) → x < q + 1 → Contains (ends (edges_at a x)) p → (b : Bool) → nat_eq x q ≡ b → Contains (get_or new p []) x
    whole p x l c true e =
        let x_is : x ≡ q = eqb-true x q e in
        subst (Contains (get_or new p [])) (sym x_is) (h.complete p (subst (λ y. Contains (ends (edges_at a y)) p) x_is c))
    whole p x l c false e = let other : x ≡ q → ⊥ = eqb-false x q e in h.kept p x (s.complete p x (omega arith) c)
