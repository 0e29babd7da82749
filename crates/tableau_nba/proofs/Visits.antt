-- The states of a walk that were visited.
use Rattle.std.proofs.Common.{◌≡◌, ℕ, zero, suc, ◌+◌, ◌-◌, ◌<◌, ◌≤◌, Bool, true, cond, List, [], ◌∷◌, ◌++◌, length, map, get_or, take, Some, None, Result, Ok, Err, ◌^◌, refl, sym, ap, ◌∙◌, subst, arith}
use Rattle.std.specs.Prelude.{slice_get}
use Rattle.std.specs.List.{list_all}
use Rattle.std.proofs.lemmas.Bool.{and_from, and_parts, le-leb, lt-leb}
use Rattle.std.proofs.lemmas.List.{length-append, length-map, map_push, take_all, take_more, take-append-le, get_or_append_left}
use Rattle.word_core.specs.declared.automata.Edge.{Edge}
use Rattle.cover_sets.specs.Cover.{covers_in}
use Rattle.cover_sets.specs.Covers.{CoverSets}
use Rattle.tableau_nba.specs.Tableau.{WalkData}
use Rattle.tableau_nba.specs.Walks.{Spot, all_spots, behind, edges_in, first_spot, found, from_state, grown, list_in, spot_of, state_in, target, too_many, too_wide, walk}
use Rattle.std.specs.Result.{IfErr, IsErrAnd}
use Rattle.indexmap.specs.IndexSet.{insert_key}
use Rattle.cover_sets.specs.Bits.{set_of}
use Rattle.cover_sets.specs.declared.cover_lists.CoverError.{CoverError}
use Rattle.cover_sets.specs.declared.cover_lists.CoverError.TheVariants.{TooWide as Wide}
use Rattle.tableau_nba.specs.declared.tableaux.TableauError.{TableauError}
use Rattle.tableau_nba.specs.declared.tableaux.TableauError.TheVariants.{TooManyStates, TooWide}
use Rattle.tableau_nba.specs.contracts.places.PlacePartialEq.TheImpl as place_eq
use Rattle.tableau_nba.specs.declared.places.Place.{Place}
use Rattle.tableau_nba.proofs.Growing.{edges_kept, keys_behind, leads, leads_grown, leads_more}

-- every edge of the first states leads to one of the places
abbrev pub all_lead : WalkData → List Spot → List Spot → Bool
all_lead walker spots firsts = list_all (λ (s : Spot). leads walker.untils spots s.level (list_in (covers_in walker.table s.set))) firsts

pub record Walking (walker : WalkData) (root at : ℕ) (spots : List Spot) (states : List (List Edge)) : Type 0 where
  pub room : at ≤ 4096
  pub goes : walk walker (4096 - at) at spots ≡ all_spots walker root
  pub are : states ≡ map (state_in walker spots) (take at spots)
  pub lead : all_lead walker spots (take at spots) ≡ true

pub walking_start : (walker : WalkData) (root : ℕ) (spots : List Spot) → spots ≡ first_spot root ∷ [] → Walking walker root 0 spots []
walking_start walker root spots e = record { room = omega arith; goes = ap (walk walker 4096 0) e; are = refl; lead = refl }

-- the walk goes on from a state
walk_on : (walker : WalkData) (n at : ℕ) (spots : List Spot) (s : Spot) → slice_get spots at ≡ Some s → walk walker (suc n) at spots ≡ from_state (walk walker n (at + 1)) walker spots (Some s)
unfolding walk
walk_on walker n at spots s e = ap (from_state (walk walker n (at + 1)) walker spots) e

walk_off : (walker : WalkData) (n at : ℕ) (spots : List Spot) → slice_get spots at ≡ None → walk walker n at spots ≡ found spots
unfolding walk
walk_off walker zero at spots e = refl
walk_off walker (suc n) at spots e = ap (from_state (walk walker n (at + 1)) walker spots) e

walk_none : (walker : WalkData) (at : ℕ) (spots : List Spot) → walk walker 0 at spots ≡ found spots
unfolding walk
walk_none walker at spots = refl

pub some_within : (xs : List Spot) (i : ℕ) (x : Spot) → slice_get xs i ≡ Some x → i < length xs
some_within [] i x h = absurd cc
some_within (y ∷ ys) zero x h = omega arith
some_within (y ∷ ys) (suc i) x h = let r = some_within ys i x h in omega arith

pub some_at : (xs : List Spot) (i : ℕ) (x : Spot) → slice_get xs i ≡ Some x → get_or xs i x ≡ x
some_at [] i x h = refl
some_at (y ∷ ys) zero x h = cc
some_at (y ∷ ys) (suc i) x h = some_at ys i x h

pub none_past : (xs : List Spot) (i : ℕ) → slice_get xs i ≡ None → length xs ≤ i
none_past [] i h = omega arith
none_past (y ∷ ys) zero h = absurd cc
none_past (y ∷ ys) (suc i) h = let r = none_past ys i h in omega arith

all_pushed : (p : Spot → Bool) (xs : List Spot) (x : Spot) → list_all p xs ≡ true → p x ≡ true → list_all p (xs ++ x ∷ []) ≡ true
all_pushed p [] x h k = and_from _ _ k refl
all_pushed p (y ∷ ys) x h k = let q = and_parts _ _ h in and_from _ _ q.0 (all_pushed p ys x q.1 k)

module _ (walker : WalkData) (root at : ℕ) (spots : List Spot) (states : List (List Edge)) (v : Walking walker root at spots states) (s : Spot) (h : slice_get spots at ≡ Some s) (l : at < 4096) where
  left : 4096 - at ≡ suc (4096 - (at + 1))
  left = omega arith

  here : walk walker (suc (4096 - (at + 1))) at spots ≡ all_spots walker root
  here = ap (λ n. walk walker n at spots) (sym left) ∙ v.goes

  pub walk_wide : covers_in walker.table s.set ≡ None → all_spots walker root ≡ too_wide
  walk_wide e = sym (sym (walk_on walker (4096 - (at + 1)) at spots s h ∙ ap (behind (walk walker (4096 - (at + 1)) (at + 1)) walker s.level spots) e) ∙ here)

  pub walk_many : (list : List CoverSets) → covers_in walker.table s.set ≡ Some list → 4096 < length (grown walker.untils s.level list spots) → all_spots walker root ≡ too_many
  walk_many list e m =
      sym (sym (walk_on walker (4096 - (at + 1)) at spots s h ∙ ap (behind (walk walker (4096 - (at + 1)) (at + 1)) walker s.level spots) e
      ∙ ap (λ b. cond b (walk walker (4096 - (at + 1)) (at + 1) (grown walker.untils s.level list spots)) too_many) (lt-leb (length (grown walker.untils s.level list spots)) 4096 m))
      ∙ here)

  walk_next : (list : List CoverSets) → covers_in walker.table s.set ≡ Some list → length (grown walker.untils s.level list spots) ≤ 4096
      → walk walker (4096 - (at + 1)) (at + 1) (grown walker.untils s.level list spots) ≡ all_spots walker root
  walk_next list e m =
      sym (walk_on walker (4096 - (at + 1)) at spots s h ∙ ap (behind (walk walker (4096 - (at + 1)) (at + 1)) walker s.level spots) e
      ∙ ap (λ b. cond b (walk walker (4096 - (at + 1)) (at + 1) (grown walker.untils s.level list spots)) too_many) (le-leb (length (grown walker.untils s.level list spots)) 4096 m))
      ∙ here

  within : at < length spots
  within = some_within spots at s h

  first_same : (more : List Spot) → take at (spots ++ more) ≡ take at spots
  first_same more = take-append-le at spots more (omega (arith, within))

  at_same : (more : List Spot) → get_or (spots ++ more) at s ≡ s
  at_same more = get_or_append_left spots more s at within ∙ some_at spots at s h

  states_kept : (more firsts : List Spot) → all_lead walker spots firsts ≡ true → map (state_in walker (spots ++ more)) firsts ≡ map (state_in walker spots) firsts
  states_kept more [] e = refl
  states_kept more (f ∷ fs) e =
      let p = and_parts _ _ e in
      ap (λ es. es ∷ map (state_in walker (spots ++ more)) fs) (edges_kept walker.literals walker.untils spots more f.level (list_in (covers_in walker.table f.set)) p.0)
      ∙ ap (λ ss. state_in walker spots f ∷ ss) (states_kept more fs p.1)

  lead_kept : (more firsts : List Spot) → all_lead walker spots firsts ≡ true → all_lead walker (spots ++ more) firsts ≡ true
  lead_kept more [] e = refl
  lead_kept more (f ∷ fs) e =
      let p = and_parts _ _ e in
      and_from _ _ (leads_more walker.untils spots more f.level (list_in (covers_in walker.table f.set)) p.0) (lead_kept more fs p.1)

  pub walking_more : (list : List CoverSets) (new : List Spot) (edges : List Edge) (after : List (List Edge)) → covers_in walker.table s.set ≡ Some list → new ≡ grown walker.untils s.level list spots
      → length new ≤ 4096 → edges ≡ edges_in walker.literals walker.untils new s.level list → after ≡ states ++ edges ∷ [] → Walking walker root (at + 1) new after
  walking_more list new edges after e g m k a =
      let b = keys_behind spots (map (target walker.untils s.level) list) in
      let ext : new ≡ spots ++ b.0 = g ∙ b.1 in
      let firsts : take (at + 1) new ≡ take at spots ++ s ∷ [] =
      ap (take (at + 1)) ext ∙ take_more (spots ++ b.0) at s (omega (arith, within, length-append spots b.0)) ∙ ap (λ xs. xs ++ get_or (spots ++ b.0) at s ∷ []) (first_same b.0) ∙ ap (λ x. take at spots ++ x ∷ []) (at_same b.0) in
      let own : state_in walker new s ≡ edges = ap (λ row. edges_in walker.literals walker.untils new s.level (list_in row)) e ∙ sym k in
      let leading : leads walker.untils new s.level (list_in (covers_in walker.table s.set)) ≡ true =
      ap (λ row. leads walker.untils new s.level (list_in row)) e ∙ ap (λ ss. leads walker.untils ss s.level list) g ∙ leads_grown walker.untils spots s.level list in
      record {
        room = omega arith;
        goes = ap (walk walker (4096 - (at + 1)) (at + 1)) g ∙ walk_next list e (subst (λ ss. length ss ≤ 4096) g m);
        are =
            a ∙ ap (λ ss. ss ++ edges ∷ []) (v.are ∙ sym (ap (λ ss. map (state_in walker ss) (take at spots)) ext ∙ states_kept b.0 (take at spots) v.lead))
            ∙ ap (λ es. map (state_in walker new) (take at spots) ++ es ∷ []) (sym own) ∙ sym (map_push (state_in walker new) (take at spots) s) ∙ ap (map (state_in walker new)) (sym firsts);
        lead =
            ap (all_lead walker new) firsts
            ∙ all_pushed (λ (f : Spot). leads walker.untils new f.level (list_in (covers_in walker.table f.set))) (take at spots) s
            (ap (λ ss. all_lead walker ss (take at spots)) ext ∙ lead_kept b.0 (take at spots) v.lead) leading;
      }

-- the walk ends where there is no further state
pub walking_found : (walker : WalkData) (root at : ℕ) (spots : List Spot) (states : List (List Edge)) → Walking walker root at spots states → slice_get spots at ≡ None
    → (all_spots walker root ≡ found spots) × (states ≡ map (state_in walker spots) spots)
walking_found walker root at spots states v e = (
  sym v.goes ∙ walk_off walker (4096 - at) at spots e,
  v.are ∙ ap (map (state_in walker spots)) (take_all at spots (none_past spots at e)),
)

pub walking_full : (walker : WalkData) (root at : ℕ) (spots : List Spot) (states : List (List Edge)) → Walking walker root at spots states → 4096 ≤ at → length spots ≤ 4096
    → (all_spots walker root ≡ found spots) × (states ≡ map (state_in walker spots) spots)
walking_full walker root at spots states v l few =
    let z : 4096 - at ≡ 0 = omega arith in (
      sym v.goes ∙ ap (λ n. walk walker n at spots) z ∙ walk_none walker at spots,
      v.are ∙ ap (map (state_in walker spots)) (take_all at spots (omega arith)),
    )

-- ---- what the code reads

pub some_spot : (keys : List Place) (at : ℕ) (p : Place) → Some p ≡ slice_get keys at → slice_get (map spot_of keys) at ≡ Some (spot_of p)
some_spot [] at p h = absurd cc
some_spot (k ∷ ks) zero p h = let e : p ≡ k = cc in ap (λ x. Some (spot_of x)) (sym e)
some_spot (k ∷ ks) (suc at) p h = some_spot ks at p h

pub no_spot : (keys : List Place) (at : ℕ) → None ≡ slice_get keys at → slice_get (map spot_of keys) at ≡ None
no_spot [] at h = refl
no_spot (k ∷ ks) zero h = absurd cc
no_spot (k ∷ ks) (suc at) h = no_spot ks at h

pub first_keys : (keys new : List Place) (p : Place) (root : ℕ) → keys ≡ [] → new ≡ insert_key place_eq.eq-value.it keys p → set_of p.set ≡ 2 ^ root → p.level ≡ 0 → map spot_of new ≡ first_spot root ∷ []
first_keys keys new p root e h f g = ap (map spot_of) (h ∙ ap (λ ks. insert_key place_eq.eq-value.it ks p) e) ∙ ap (λ s. made s p.level ∷ []) f ∙ ap (λ l. made (2 ^ root) l ∷ []) g
  where
    made : ℕ → ℕ → Spot
    made set level = record { set = set; level = level }

pub cover_told : {T : Type 0} (r : Result T TableauError) (e : CoverError) (P : Type 0) → IsErrAnd r (λ t. (t ≡ TooWide → e ≡ Wide) × (t ≡ TooManyStates → ⊥)) → (e ≡ Wide → P) → IfErr r (λ t. t ≡ TooWide → P)
cover_told (Ok t) e P h k = tt
cover_told (Err x) e P h k = λ i. k (h.0 i)

pub walking_begins : (walker : WalkData) (root : ℕ) (spots : List Spot) (states : List (List Edge)) → spots ≡ first_spot root ∷ [] → states ≡ [] → Walking walker root 0 spots states
walking_begins walker root spots states e f = subst (Walking walker root 0 spots) (sym f) (walking_start walker root spots e)

pub spots_few : (keys : List Place) → length keys ≤ 4096 → length (map spot_of keys) ≤ 4096
spots_few keys l = let e : length (map spot_of keys) ≡ length keys = length-map keys spot_of in omega arith
