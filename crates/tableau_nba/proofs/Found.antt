-- The states that a walk finds, and their edges.
use Rattle.std.proofs.Common.{◌≡◌, ℕ, zero, suc, ◌+◌, ◌<◌, ◌≤◌, ◌⊎◌, inl, inr, Bool, true, false, not, ◌||◌, cond, nat_le, eqb, List, [], ◌∷◌, ◌++◌, length, map, get_or, Option, Some, None, refl, sym, ap, ◌∙◌, subst, arith}
use Rattle.std.specs.Prelude.{slice_get}
use Rattle.std.specs.List.{Contains, list_any, position_or_len}
use Rattle.std.proofs.lemmas.Bool.{and_parts, both_ways, eqb-false, eqb-true, leb-true, or_cases}
use Rattle.std.proofs.lemmas.List.{append-nil, get_or_append_left, get_or_default, length-append, append_assoc}
use mathlib.Core.Bool.{beq}
use Rattle.indexmap.specs.IndexSet.{insert_key, insert_all}
use Rattle.word_core.specs.declared.automata.Edge.{Edge}
use Rattle.cover_sets.specs.Cover.{covers_in}
use Rattle.cover_sets.specs.Covers.{CoverSets, Row}
use Rattle.tableau_nba.specs.declared.cubes.Literal.{Literal}
use Rattle.tableau_nba.specs.Tableau.{WalkData}
use Rattle.tableau_nba.specs.Walks.{Spot, behind, edge_in, edges_in, found, from_state, grown, same_edge, same_spot, target, too_many, walk}
use Rattle.tableau_nba.proofs.Growing.{keys_behind, leads, leads_grown, leads_more}
use Rattle.tableau_nba.proofs.Spots.{position_found}
use Rattle.tableau_nba.proofs.Visits.{none_past, some_at, some_within}

-- ---- members of any list

abbrev pub Is : {X : Type 0} → X → List X → Type 0
Is x [] = ⊥
Is x (y ∷ ys) = (y ≡ x) ⊎ Is x ys

pub is_contained : {X : Type 0} (xs : List X) (x : X) → Contains xs x → Is x xs
is_contained [] x c = absurd (omega (arith, c.1))
is_contained (y ∷ ys) x c = go c.0 c.1 c.2 (λ k. is_contained ys x k)
  where
    go : (k : ℕ) → k < suc (length ys) → get_or (y ∷ ys) k x ≡ x → (Contains ys x → Is x ys) → (y ≡ x) ⊎ Is x ys
    go zero l e rec = inl e
    go (suc k) l e rec = inr (rec (k, omega arith, e))

pub contained_is : {X : Type 0} (xs : List X) (x : X) → Is x xs → Contains xs x
contained_is [] x m = absurd m
contained_is (y ∷ ys) x (inl e) = (0, omega arith, e)
contained_is (y ∷ ys) x (inr m) = let r = contained_is ys x m in (suc r.0, omega (arith, r.1), r.2)

is_mapped : {X Y : Type 0} (f : X → Y) (xs : List X) (y : Y) → Is y (map f xs) → (x : X) × Is x xs × (f x ≡ y)
is_mapped f [] y m = absurd m
is_mapped f (x ∷ xs) y (inl e) = (x, inl refl, e)
is_mapped f (x ∷ xs) y (inr m) = let r = is_mapped f xs y m in (r.0, inr r.1, r.2)

mapped_is : {X Y : Type 0} (f : X → Y) (xs : List X) (x : X) → Is x xs → Is (f x) (map f xs)
mapped_is f [] x m = absurd m
mapped_is f (y ∷ ys) x (inl e) = inl (ap f e)
mapped_is f (y ∷ ys) x (inr m) = inr (mapped_is f ys x m)

is_left : {X : Type 0} (xs ys : List X) (x : X) → Is x xs → Is x (xs ++ ys)
is_left [] ys x m = absurd m
is_left (z ∷ zs) ys x (inl e) = inl e
is_left (z ∷ zs) ys x (inr m) = inr (is_left zs ys x m)

is_last : {X : Type 0} (xs : List X) (x : X) → Is x (xs ++ x ∷ [])
is_last [] x = inl refl
is_last (z ∷ zs) x = inr (is_last zs x)

is_either : {X : Type 0} (xs : List X) (y x : X) → Is x (xs ++ y ∷ []) → Is x xs ⊎ (y ≡ x)
is_either [] y x (inl e) = inr e
is_either [] y x (inr m) = absurd m
is_either (z ∷ zs) y x (inl e) = inl (inl e)
is_either (z ∷ zs) y x (inr m) = go (is_either zs y x m)
  where
    go : Is x zs ⊎ (y ≡ x) → Is x (z ∷ zs) ⊎ (y ≡ x)
    go (inl k) = inl (inr k)
    go (inr k) = inr k

any_is : {X : Type 0} (p : X → Bool) (xs : List X) → list_any p xs ≡ true → (x : X) × Is x xs × (p x ≡ true)
any_is {X = X} p [] h = absurd (both_ways false refl h)
any_is {X = X} p (x ∷ xs) h = go (or_cases _ _ h) (λ k. any_is p xs k)
  where
    go : (p x ≡ true) ⊎ (list_any p xs ≡ true) → (list_any p xs ≡ true → (y : X) × Is y xs × (p y ≡ true)) → (y : X) × Is y (x ∷ xs) × (p y ≡ true)
    go (inl e) rec = (x, inl refl, e)
    go (inr k) rec = let r = rec k in (r.0, inr r.1, r.2)

-- ---- equal edges and places

beq_same : (a b : Bool) → beq a b ≡ true → a ≡ b
beq_same true true h = refl
beq_same false false h = refl
beq_same true false h = absurd (both_ways false refl h)
beq_same false true h = absurd (both_ways false refl h)

beq_self : (a : Bool) → beq a a ≡ true
beq_self true = refl
beq_self false = refl

abbrev edge_by : ℕ → ℕ → ℕ → Bool → Edge
edge_by care want next marked = record { cube = record { care = care; want = want }; next = next; marked = marked }

pub same_edge_is : (a b : Edge) → same_edge a b ≡ true → a ≡ b
same_edge_is a b h =
    let p = and_parts _ _ h in
    let q = and_parts _ _ p.0 in
    let r = and_parts _ _ p.1 in
    ap (λ x. edge_by x a.cube.want a.next a.marked) (eqb-true _ _ q.0) ∙ ap (λ x. edge_by b.cube.care x a.next a.marked) (eqb-true _ _ q.1)
    ∙ ap (λ x. edge_by b.cube.care b.cube.want x a.marked) (eqb-true _ _ r.0) ∙ ap (edge_by b.cube.care b.cube.want b.next) (beq_same _ _ r.1)

abbrev spot_by : ℕ → ℕ → Spot
spot_by set level = record { set = set; level = level }

pub same_spot_is : (a b : Spot) → same_spot a b ≡ true → a ≡ b
same_spot_is a b h = let p = and_parts _ _ h in ap (λ x. spot_by x a.level) (eqb-true _ _ p.0) ∙ ap (spot_by b.set) (eqb-true _ _ p.1)

-- ---- the different edges

put_from : (es : List Edge) (e x : Edge) → Is x (insert_key same_edge es e) → Is x es ⊎ (e ≡ x)
put_from es e x m = go (list_any (same_edge e) es) m
  where
    go : (b : Bool) → Is x (cond b es (es ++ e ∷ [])) → Is x es ⊎ (e ≡ x)
    go true k = inl k
    go false k = is_either es e x k

all_from : (es fs : List Edge) (x : Edge) → Is x (insert_all same_edge es fs) → Is x es ⊎ Is x fs
all_from es [] x m = inl m
all_from es (f ∷ fs) x m = go (all_from (insert_key same_edge es f) fs x m)
  where
    first : Is x es ⊎ (f ≡ x) → Is x es ⊎ Is x (f ∷ fs)
    first (inl k) = inl k
    first (inr k) = inr (inl k)

    go : Is x (insert_key same_edge es f) ⊎ Is x fs → Is x es ⊎ Is x (f ∷ fs)
    go (inl k) = first (put_from es f x k)
    go (inr k) = inr (inr k)

put_keeps : (es : List Edge) (e x : Edge) → Is x es → Is x (insert_key same_edge es e)
put_keeps es e x m = go (list_any (same_edge e) es)
  where
    go : (b : Bool) → Is x (cond b es (es ++ e ∷ []))
    go true = m
    go false = is_left es (e ∷ []) x m

put_has : (es : List Edge) (e : Edge) → Is e (insert_key same_edge es e)
put_has es e = go (list_any (same_edge e) es) refl
  where
    go : (b : Bool) → list_any (same_edge e) es ≡ b → Is e (cond b es (es ++ e ∷ []))
    go true h = let r = any_is (same_edge e) es h in subst (λ x. Is x es) (sym (same_edge_is e r.0 r.2)) r.1
    go false h = is_last es e

all_keep : (es fs : List Edge) (x : Edge) → Is x es → Is x (insert_all same_edge es fs)
all_keep es [] x m = m
all_keep es (f ∷ fs) x m = all_keep (insert_key same_edge es f) fs x (put_keeps es f x m)

all_have : (es fs : List Edge) (x : Edge) → Is x fs → Is x (insert_all same_edge es fs)
all_have es [] x m = absurd m
all_have es (f ∷ fs) x (inl e) = subst (λ y. Is y (insert_all same_edge es (f ∷ fs))) e (all_keep (insert_key same_edge es f) fs f (put_has es f))
all_have es (f ∷ fs) x (inr m) = all_have (insert_key same_edge es f) fs x m

pub edge_from : (literals : List Literal) (untils : List ℕ) (spots : List Spot) (level : ℕ) (list : List CoverSets) (e : Edge) → Is e (edges_in literals untils spots level list)
    → (c : CoverSets) × Is c list × (edge_in literals untils spots level c ≡ e)
edge_from literals untils spots level list e m = go (all_from [] (map (edge_in literals untils spots level) list) e m)
  where
    go : ⊥ ⊎ Is e (map (edge_in literals untils spots level) list) → (c : CoverSets) × Is c list × (edge_in literals untils spots level c ≡ e)
    go (inl k) = absurd k
    go (inr k) = is_mapped (edge_in literals untils spots level) list e k

pub edge_to : (literals : List Literal) (untils : List ℕ) (spots : List Spot) (level : ℕ) (list : List CoverSets) (c : CoverSets) → Is c list
    → Is (edge_in literals untils spots level c) (edges_in literals untils spots level list)
edge_to literals untils spots level list c m = all_have [] (map (edge_in literals untils spots level) list) (edge_in literals untils spots level c) (mapped_is (edge_in literals untils spots level) list c m)

-- ---- the states

pub record Led (walker : WalkData) (spots : List Spot) (s : Spot) : Type 0 where
  pub list : List CoverSets
  pub is : covers_in walker.table s.set ≡ Some list
  pub leads_in : leads walker.untils spots s.level list ≡ true

found_is : (a b : List Spot) → found a ≡ found b → a ≡ b
found_is a b h = cc

pub record Extends (walker : WalkData) (at : ℕ) (old spots : List Spot) : Type 0 where
  pub more : List Spot
  pub is : spots ≡ old ++ more
  pub led : (k : ℕ) (d : Spot) → at ≤ k → k < length spots → Led walker spots (get_or spots k d)

pub walk_found : (walker : WalkData) (n at : ℕ) (old spots : List Spot) → at + n ≡ 4096 → length old ≤ 4096 → walk walker n at old ≡ found spots → Extends walker at old spots
unfolding walk
walk_found walker zero at old spots e few h =
    let i : old ≡ spots = found_is old spots h in
    let j : length old ≡ length spots = ap length i in
    record { more = []; is = sym i ∙ sym (append-nil old); led = λ k d l m. absurd (omega arith) }
walk_found walker (suc n) at old spots e few h = go (slice_get old at) refl h (λ next f q. walk_found walker n (at + 1) next spots (omega arith) f q)
  where
    ends : old ≡ spots → slice_get old at ≡ None → Extends walker at old spots
    ends i f =
        let p : length old ≤ at = none_past old at f in
        let j : length old ≡ length spots = ap length i in
        record { more = []; is = sym i ∙ sym (append-nil old); led = λ k d l m. absurd (omega arith) }

    goes : (s : Spot) → slice_get old at ≡ Some s → (list : List CoverSets) → covers_in walker.table s.set ≡ Some list → Extends walker (at + 1) (grown walker.untils s.level list old) spots → Extends walker at old spots
    goes s f list i r =
        let b = keys_behind old (map (target walker.untils s.level) list) in
        let whole : spots ≡ old ++ (b.0 ++ r.more) = r.is ∙ ap (λ xs. xs ++ r.more) b.1 ∙ append_assoc old b.0 r.more in
        let within : at < length old = some_within old at s f in
        let long : length spots ≡ length old + length (b.0 ++ r.more) = ap length whole ∙ length-append old (b.0 ++ r.more) in
        let leading : leads walker.untils spots s.level list ≡ true =
        subst (λ xs. leads walker.untils xs s.level list ≡ true) (sym r.is) (leads_more walker.untils (grown walker.untils s.level list old) r.more s.level list (leads_grown walker.untils old s.level list)) in
        let here : (d : Spot) → get_or spots at d ≡ s =
        λ d. get_or_default spots at d s (omega arith) ∙ ap (λ xs. get_or xs at s) whole ∙ get_or_append_left old (b.0 ++ r.more) s at within ∙ some_at old at s f in
        record {
          more = b.0 ++ r.more;
          is = whole;
          led = λ k d l m. choose k d l m (eqb k at) refl here leading;
        }
      where
        choose : (k : ℕ) (d : Spot) → at ≤ k → k < length spots → (t : Bool) → eqb k at ≡ t → ((d : Spot) → get_or spots at d ≡ s) → leads walker.untils spots s.level list ≡ true → Led walker spots (get_or spots k d)
        choose k d l m true t here leading =
            let q : get_or spots k d ≡ s = ap (λ j. get_or spots j d) (eqb-true k at t) ∙ here d in
            subst (Led walker spots) (sym q) (record { list = list; is = i; leads_in = leading })
        choose k d l m false t here leading = let ne = eqb-false k at t in r.led k d (omega arith) m

    row : (s : Spot) → slice_get old at ≡ Some s → (x : Row) → covers_in walker.table s.set ≡ x → behind (walk walker n (at + 1)) walker s.level old x ≡ found spots
        → ((next : List Spot) → length next ≤ 4096 → walk walker n (at + 1) next ≡ found spots → Extends walker (at + 1) next spots) → Extends walker at old spots
    row s f None i q rec = absurd cc
    row s f (Some list) i q rec = limit (nat_le (length (grown walker.untils s.level list old)) 4096) refl q
      where
        limit : (b : Bool) → nat_le (length (grown walker.untils s.level list old)) 4096 ≡ b → cond b (walk walker n (at + 1) (grown walker.untils s.level list old)) too_many ≡ found spots → Extends walker at old spots
        limit true t q = goes s f list i (rec (grown walker.untils s.level list old) (leb-true (length (grown walker.untils s.level list old)) 4096 t) q)
        limit false t q = absurd cc

    go : (o : Option Spot) → slice_get old at ≡ o → from_state (walk walker n (at + 1)) walker old o ≡ found spots
        → ((next : List Spot) → length next ≤ 4096 → walk walker n (at + 1) next ≡ found spots → Extends walker (at + 1) next spots) → Extends walker at old spots
    go None f q rec = ends (found_is old spots q) f
    go (Some s) f q rec = row s f (covers_in walker.table s.set) refl q rec

-- a cover of a state leads to one of the states
any_within : {X : Type 0} (p : X → Bool) (xs : List X) → list_any p xs ≡ true → position_or_len p xs < length xs
any_within p [] h = absurd (both_ways false refl h)
any_within p (x ∷ xs) h = go (p x) refl h (λ k. any_within p xs k)
  where
    go : (b : Bool) → p x ≡ b → (b || list_any p xs) ≡ true → (list_any p xs ≡ true → position_or_len p xs < length xs) → cond (not b) (1 + position_or_len p xs) 0 < suc (length xs)
    go true e k rec = omega arith
    go false e k rec = let r = rec k in omega arith

pub leads_to : (untils : List ℕ) (spots : List Spot) (level : ℕ) (list : List CoverSets) (c : CoverSets) → leads untils spots level list ≡ true → Is c list
    → (position_or_len (same_spot (target untils level c)) spots < length spots) × ((d : Spot) → get_or spots (position_or_len (same_spot (target untils level c)) spots) d ≡ target untils level c)
leads_to untils spots level [] c h m = absurd m
leads_to untils spots level (x ∷ xs) c h (inl e) =
    let p = and_parts _ _ h in
    let l : position_or_len (same_spot (target untils level c)) spots < length spots = any_within (same_spot (target untils level c)) spots (subst (λ y. list_any (same_spot (target untils level y)) spots ≡ true) e p.0) in
    (l, λ d. sym (same_spot_is (target untils level c) (get_or spots (position_or_len (same_spot (target untils level c)) spots) d) (position_found (same_spot (target untils level c)) spots d l)))
leads_to untils spots level (x ∷ xs) c h (inr m) = leads_to untils spots level xs c (and_parts _ _ h).1 m
