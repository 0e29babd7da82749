-- Tables of nodes, and lists of what they have.
use Rattle.std.proofs.Common.{◌≡◌, ℕ, zero, suc, ◌+◌, ◌<◌, ◌≤◌, ◌⊎◌, Bool, true, false, List, [], ◌∷◌, ◌++◌, length, get_or, set, take, replicate, Some, refl, sym, ap, subst, ◌∙◌, inl, inr, arith}
use Rattle.std.specs.Prelude.{slice_get}
use Rattle.std.specs.List.{All, Contains}
use Rattle.std.proofs.lemmas.List.{get_or-set_same, get_or-set_other, length-set, take_all, take-append-le, take-take, get_or-replicate, get_or_past, length-replicate, length_push}
use Rattle.std.proofs.lemmas.List.Elements.{All-push, Contains-append_left, Contains-push}
use Rattle.std.proofs.lemmas.Bool.{cases_eq, cases_lt, both_ways}
use Rattle.std.proofs.lemmas.Option.{get_or_from_slice_get}
use Rattle.witness_check.specs.declared.products.Arc.{Arc}
use Rattle.witness_check.specs.Levels.{is_in, members, IsListed, IsVisited}

members_le : (t : List Bool) → members t ≤ length t
members_le [] = omega arith
members_le (true ∷ bs) = let h = members_le bs in omega arith
members_le (false ∷ bs) = let h = members_le bs in omega arith

members_set : (t : List Bool) (i : ℕ) → i < length t → is_in t i ≡ false → members (set t i true) ≡ members t + 1
members_set [] i h e = absurd (omega arith)
members_set (true ∷ bs) zero h e = absurd cc
members_set (false ∷ bs) zero h e = omega arith
members_set (true ∷ bs) (suc i) h e = let k = members_set bs i (omega arith) e in omega arith
members_set (false ∷ bs) (suc i) h e = let k = members_set bs i (omega arith) e in omega arith

-- what a table has is within its length
pub in_below : (t : List Bool) (i : ℕ) → is_in t i ≡ true → i < length t
in_below t i h = elim (cases_lt i (length t)) [ inl l ↦ l | inr g ↦ absurd (both_ways (is_in t i) (get_or_past t i false g) h) ]

in_replicate : (n i : ℕ) → is_in (replicate n false) i ≡ true → ⊥
in_replicate n i h =
    let l = in_below (replicate n false) i h in
    let e = length-replicate n false in
    both_ways (is_in (replicate n false) i) (get_or-replicate n i false false (omega arith)) h

pub nothing_in : (t : List Bool) (n i : ℕ) → t ≡ replicate n false → is_in t i ≡ true → ⊥
nothing_in t n i e h = in_replicate n i (subst (λ x. is_in x i ≡ true) e h)

members_none : (n : ℕ) → members (replicate n false) ≡ 0
members_none zero = refl
members_none (suc n) = let h = members_none n in omega arith

-- the empty table and the empty list
pub none_listed : (t : List Bool) (found : List ℕ) (n : ℕ) → t ≡ replicate n false → found ≡ [] → IsListed t found
none_listed t found n e f = record {
  listed = λ i h. absurd (nothing_in t n i e h);
  counted = ap length f ∙ sym (ap members e ∙ members_none n);
  inside = subst (All (λ k. is_in t k ≡ true)) (sym f) (λ k d h. absurd (omega arith));
}

-- the list of a table is no longer than the table
pub listed_few : (t : List Bool) (found : List ℕ) → IsListed t found → length found ≤ length t
listed_few t found h = let c = h.counted in let m = members_le t in omega arith

module _ (node : ℕ) (t : List Bool) (found : List ℕ) (t' : List Bool) (found' : List ℕ) (inside : node < length t) (v : IsVisited node t found t' found') where
  pub visited_length : length t' ≡ length t
  visited_length = elim v [ inl s ↦ ap length s.1 | inr s ↦ ap length s.1 ∙ length-set t node true ]

  pub visited_kept : (i : ℕ) → is_in t i ≡ true → is_in t' i ≡ true
  visited_kept i h =
      elim v [
        | inl s ↦ subst (λ x. is_in x i ≡ true) (sym s.1) h
        | inr s ↦ elim (cases_eq i node) [
          | inl e ↦ ap (λ x. is_in x i) s.1 ∙ ap (is_in (set t node true)) e ∙ get_or-set_same t node true false inside
          | inr n ↦ ap (λ x. is_in x i) s.1 ∙ get_or-set_other t node i true false n ∙ h
        ]
      ]

  pub visited_in : is_in t' node ≡ true
  visited_in =
      elim v [ inl s ↦ subst (λ x. is_in x node ≡ true) (sym s.1) s.0 | inr s ↦ ap (λ x. is_in x node) s.1 ∙ get_or-set_same t node true false inside ]

  pub visited_sound : (i : ℕ) → is_in t' i ≡ true → (is_in t i ≡ true) ⊎ (i ≡ node)
  visited_sound i h =
      elim v [
        | inl s ↦ inl (subst (λ x. is_in x i ≡ true) s.1 h)
        | inr s ↦ elim (cases_eq i node) [ inl e ↦ inr e | inr n ↦ inl (sym (get_or-set_other t node i true false n) ∙ sym (ap (λ x. is_in x i) s.1) ∙ h) ]
      ]

  pub visited_order : take (length found) found' ≡ found
  visited_order =
      elim v [
        | inl s ↦ ap (take (length found)) s.2 ∙ take_all (length found) found (omega arith)
        | inr s ↦ ap (take (length found)) s.2 ∙ take-append-le (length found) found (node ∷ []) (omega arith) ∙ take_all (length found) found (omega arith)
      ]

  pub visited_longer : length found ≤ length found'
  visited_longer = elim v [ inl s ↦ omega (arith, ap length s.2) | inr s ↦ omega (arith, ap length s.2, length_push found node) ]

  contains_more : (i : ℕ) → Contains found i → Contains found' i
  contains_more i c = elim v [ inl s ↦ subst (λ x. Contains x i) (sym s.2) c | inr s ↦ subst (λ x. Contains x i) (sym s.2) (Contains-append_left found (node ∷ []) i c) ]

  inside_more : All (λ n. is_in t n ≡ true) found → All (λ n. is_in t' n ≡ true) found'
  inside_more all =
      let moved : All (λ n. is_in t' n ≡ true) found = λ k d l. visited_kept (get_or found k d) (all k d l) in
      elim v [
        | inl s ↦ subst (All (λ n. is_in t' n ≡ true)) (sym s.2) moved
        | inr s ↦ subst (All (λ n. is_in t' n ≡ true)) (sym s.2) (All-push (λ n. is_in t' n ≡ true) found node moved visited_in)
      ]

  pub visited_listed : IsListed t found → IsListed t' found'
  visited_listed h = record {
    listed = λ i e. elim (visited_sound i e) [ inl o ↦ contains_more i (h.listed i o) | inr s ↦ elim v [ inl w ↦ contains_more i (h.listed i (subst (λ x. is_in t x ≡ true) (sym s) w.0)) | inr w ↦ subst (λ x. Contains x i) (sym w.2) (subst (λ x. Contains (found ++ node ∷ []) x) (sym s) (Contains-push found node)) ] ];
    counted = elim v [
      | inl s ↦ ap length s.2 ∙ h.counted ∙ sym (ap members s.1)
      | inr s ↦ omega (arith, ap length s.2, length_push found node, h.counted, ap members s.1, members_set t node inside s.0)
    ];
    inside = inside_more h.inside;
  }

-- two prefixes in a row
pub order_more : (a b c : List ℕ) → length a ≤ length b → take (length a) b ≡ a → take (length b) c ≡ b → take (length a) c ≡ a
order_more a b c l h k = sym (take-take (length a) (length b) c l) ∙ ap (take (length a)) k ∙ h

-- one more arc that isn't asked for, or whose end was visited
pub asked_more : (arcs : List Arc) (asked : Arc → Type 0) (t : List Bool) (i : ℕ) (here : Arc) → i < length arcs → ((d : Arc) → get_or arcs i d ≡ here) → ((k : ℕ) (arc : Arc) → k < i → slice_get arcs k ≡ Some arc → asked arc → is_in t arc.to ≡ true) → (asked here → is_in t here.to ≡ true) → (k : ℕ) (arc : Arc) → k < i + 1 → slice_get arcs k ≡ Some arc → asked arc → is_in t arc.to ≡ true
asked_more arcs asked t i here l at seen now k arc m s a =
    elim (cases_lt k i) [
      | inl lt ↦ seen k arc lt s a
      | inr ge ↦ (let is : k ≡ i = omega arith in
          let same : here ≡ arc = sym (at arc) ∙ get_or_from_slice_get arcs i arc arc (subst (λ x. slice_get arcs x ≡ Some arc) is s) in
          subst (λ x. is_in t x.to ≡ true) same (now (subst asked (sym same) a)))
    ]
