-- Tables that are closed under arcs.
use Rattle.std.proofs.Common.{◌≡◌, ℕ, ◌+◌, ◌<◌, ◌≤◌, ◌⊎◌, Bool, true, false, List, [], length, get_or, take, Vec, Global, map, Some, None, sym, ap, subst, ◌∙◌, inl, inr, arith}
use Rattle.std.specs.Prelude.{slice_get}
use Rattle.std.specs.List.{All, Contains}
use Rattle.std.proofs.lemmas.List.{get_or-take, get_or-map, length-map}
use Rattle.std.proofs.lemmas.List.Elements.{Contains-get_or}
use Rattle.std.proofs.lemmas.Option.{slice_get-get_or, slice_get_within, get_or_from_slice_get, same_Some}
use Rattle.std.proofs.lemmas.Bool.{cases_lt}
use Rattle.witness_check.specs.declared.products.Arc.{Arc}
use Rattle.witness_check.specs.Levels.{is_in, arcs_at, Closed, seed, more, IsAsked, IsListed, AreWithin}
use Rattle.witness_check.proofs.ProductLaws.{place_of}

pub any_asked : (arc : Arc) → IsAsked false arc
any_asked arc e = absurd cc

-- no element where the place is past the end
pub past_end : (f : List ℕ) (at : ℕ) → slice_get f at ≡ None → length f ≤ at
past_end f at e = elim (cases_lt at (length f)) [ inl l ↦ (let s = slice_get-get_or f at 0 l in absurd cc) | inr g ↦ g ]

-- a place of a list is kept by a longer list that begins with it
pub place_kept : (f f' : List ℕ) (k node : ℕ) → take (length f) f' ≡ f → k < length f → slice_get f' k ≡ Some node → slice_get f k ≡ Some node
place_kept f f' k node e l s =
    let a : get_or f k node ≡ get_or f' k node = ap (λ x. get_or x k node) (sym e) ∙ get_or-take (length f) f' k node l in
    slice_get-get_or f k node l ∙ ap Some (a ∙ get_or_from_slice_get f' k node node s)

-- the arcs at a node of the code's list
pub arcs_are : (arcs : List (Vec Arc Global)) (node : ℕ) (v : Vec Arc Global) → node < length arcs → v ≡ get_or arcs node v → v.items ≡ arcs_at (map (λ (list : Vec Arc Global). list.items) arcs) node
arcs_are arcs node v l e = ap (λ (x : Vec Arc Global). x.items) e ∙ sym (get_or-map (λ (list : Vec Arc Global). list.items) arcs node v [] l)

pub arcs_length : (arcs : List (Vec Arc Global)) → length (map (λ (list : Vec Arc Global). list.items) arcs) ≡ length arcs
arcs_length arcs = length-map arcs (λ (list : Vec Arc Global). list.items)

-- arcs within, as a fact of each
pub arcs_within : (A : List (List Arc)) (node : ℕ) (L : List Arc) (n : ℕ) → L ≡ arcs_at A node → n ≡ length A → AreWithin A → All (λ arc. arc.to < n) L
arcs_within A node L n e m w = λ k d l.
    let h = w node (get_or L k d) (subst (λ xs. Contains xs (get_or L k d)) e (Contains-get_or L k d l)) in
    subst (λ x. (get_or L k d).to < x) (sym m) h

module _ (A : List (List Arc)) (t0 : List Bool) where
  pub close_sound : (t t' : List Bool) (node : ℕ) (L : List Arc) → is_in t node ≡ true → L ≡ arcs_at A node → ((i : ℕ) → is_in t i ≡ true → Closed A t0 i) → ((i : ℕ) → is_in t' i ≡ true → (is_in t i ≡ true) ⊎ ((arc : Arc) × Contains L arc × IsAsked false arc × (i ≡ arc.to))) → (i : ℕ) → is_in t' i ≡ true → Closed A t0 i
  close_sound t t' node L n e sound v i h =
      elim (v i h) [
        | inl o ↦ sound i o
        | inr a ↦ subst (Closed A t0) (sym a.3) (more a.0 (sound node n) (subst (λ xs. Contains xs a.0) e a.1))
      ]

  pub close_done : (f f' : List ℕ) (t t' : List Bool) (at node : ℕ) (L : List Arc) → slice_get f at ≡ Some node → take (length f) f' ≡ f → L ≡ arcs_at A node → ((i : ℕ) → is_in t i ≡ true → is_in t' i ≡ true) → ((arc : Arc) → Contains L arc → IsAsked false arc → is_in t' arc.to ≡ true) → ((k n : ℕ) → k < at → slice_get f k ≡ Some n → (arc : Arc) → Contains (arcs_at A n) arc → is_in t arc.to ≡ true) → (k n : ℕ) → k < at + 1 → slice_get f' k ≡ Some n → (arc : Arc) → Contains (arcs_at A n) arc → is_in t' arc.to ≡ true
  close_done f f' t t' at node L s p e kept whole done k n l g arc c =
      let b = slice_get_within f at node s in
      let old = place_kept f f' k n p (omega arith) g in
      elim (cases_lt k at) [
        | inl lt ↦ kept arc.to (done k n lt old arc c)
        | inr ge ↦ (let is : k ≡ at = omega arith in
            let same : n ≡ node = same_Some _ _ (sym (subst (λ x. slice_get f x ≡ Some n) is old) ∙ s) in
            whole arc (subst (λ xs. Contains xs arc) (sym e) (subst (λ x. Contains (arcs_at A x) arc) same c)) (any_asked arc))
      ]

  pub close_end : (f : List ℕ) (t : List Bool) (at : ℕ) → length f ≤ at → IsListed t f → ((i : ℕ) → is_in t0 i ≡ true → is_in t i ≡ true) → ((k n : ℕ) → k < at → slice_get f k ≡ Some n → (arc : Arc) → Contains (arcs_at A n) arc → is_in t arc.to ≡ true) → (i : ℕ) → Closed A t0 i → is_in t i ≡ true
  close_end f t at l listed kept done i (seed h) = kept i h
  close_end f t at l listed kept done i (more {i = j} arc c h) =
      let e = close_end f t at l listed kept done j c in
      let p = place_of f j (listed.listed j e) in
      done p.0 j (omega (arith, p.1)) p.2 arc h

-- the marked arcs of one more node
pub marked_more : (A : List (List Arc)) (from t : List Bool) (node : ℕ) → ((j : ℕ) (arc : Arc) → j < node → is_in from j ≡ true → Contains (arcs_at A j) arc → arc.marked ≡ true → is_in t arc.to ≡ true) → ((arc : Arc) → is_in from node ≡ true → Contains (arcs_at A node) arc → arc.marked ≡ true → is_in t arc.to ≡ true) → (j : ℕ) (arc : Arc) → j < node + 1 → is_in from j ≡ true → Contains (arcs_at A j) arc → arc.marked ≡ true → is_in t arc.to ≡ true
marked_more A from t node seen now j arc l h s m =
    elim (cases_lt j node) [
      | inl lt ↦ seen j arc lt h s m
      | inr ge ↦ (let is : j ≡ node = omega arith in
          now arc (subst (λ x. is_in from x ≡ true) is h) (subst (λ x. Contains (arcs_at A x) arc) is s) m)
    ]
