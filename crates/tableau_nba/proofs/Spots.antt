-- Keys of sets, as they are kept and as they are seen.
use Rattle.std.proofs.Common.{◌≡◌, ℕ, suc, ◌+◌, ◌*◌, ◌^◌, ◌<◌, ◌≤◌, Bool, true, false, not, ◌&&◌, ◌||◌, cond, nat_eq, nat_lt, eqb, List, [], ◌∷◌, ◌++◌, length, map, get_or, Some, None, refl, sym, ap, ◌∙◌, subst, arith}
use Rattle.std.specs.List.{filter, flat_map, range_with_len, list_any, position, position_or_len}
use Rattle.std.specs.Prelude.{All}
use Rattle.std.proofs.lemmas.Bool.{eq-eqb, eqb-false, eqb-true, ltb-false, ltb-true}
use Rattle.std.proofs.lemmas.List.{append-nil, get_or_at, get_or_append_left, map_push, length-map, length_push}
use Rattle.std.proofs.lemmas.List.Concat.{flat_map-append}
use Rattle.std.proofs.lemmas.List.Elements.{All-head, All-tail, filter-append}
use Rattle.tableau_nba.proofs.Ranges.{range_split}
use Rattle.std.proofs.lemmas.Nat.{same_from_place}
use Rattle.indexmap.specs.IndexSet.{insert_key}
use Rattle.cover_sets.specs.contracts.number_sets.NumberSetPartialEq.TheImpl as set_eq
use Rattle.cover_sets.specs.declared.number_sets.NumberSet.{NumberSet}
use Rattle.cover_sets.specs.Bits.{set_of}
use Rattle.cover_sets.specs.Numbers.{joined}
use Rattle.word_core.specs.contracts.automata.EdgePartialEq.TheImpl as edge_eq
use Rattle.word_core.specs.declared.automata.Edge.{Edge}
use Rattle.word_core.specs.declared.cubes.Cube.{Cube}
use Rattle.cover_sets.specs.Covers.{CoverSets}
use Rattle.tableau_nba.specs.contracts.places.PlacePartialEq.TheImpl as place_eq
use Rattle.tableau_nba.specs.declared.places.Place.{Place}
use Rattle.ltl_form.specs.declared.normals.Node.{Node}
use Rattle.ltl_form.specs.declared.normals.Node.TheVariants.{True, False, Lit, And, Or, Next, Until, Release}
use Rattle.ltl_form.specs.Normal.{IsLiteralBelow}
use Rattle.tableau_nba.specs.declared.cubes.Literal.{Literal}
use Rattle.tableau_nba.specs.Walks.{Spot, cube_in, edge_in, is_marked, literal_at, same_edge, same_spot, spot_of, target}
use Rattle.cover_sets.specs.Cover.{TableData, covers_in}
use Rattle.cover_sets.specs.Union.{covers_of}
use Rattle.cover_sets.specs.declared.bit_covers.BitCover.{BitCover}
use Rattle.tableau_nba.specs.Tableau.{AreCovers}
use lib.Pointwise.{pointwise}

-- ---- positions

pub position_found : {X : Type 0} (p : X → Bool) (xs : List X) (d : X) → position_or_len p xs < length xs → p (get_or xs (position_or_len p xs) d) ≡ true
position_found p [] d l = absurd (omega arith)
position_found p (x ∷ xs) d l = go (p x) refl l (λ k. position_found p xs d k)
  where
    one : 1 + position_or_len p xs ≡ suc (position_or_len p xs)
    one = omega arith

    go : (b : Bool) → p x ≡ b → cond (not b) (1 + position_or_len p xs) 0 < suc (length xs) → (position_or_len p xs < length xs → p (get_or xs (position_or_len p xs) d) ≡ true)
        → p (get_or (x ∷ xs) (cond (not b) (1 + position_or_len p xs) 0) d) ≡ true
    go true e k rec = e
    go false e k rec = subst (λ n. p (get_or (x ∷ xs) n d) ≡ true) (sym one) (rec (omega arith))

pub position_is : {X : Type 0} (p : X → Bool) (xs : List X) (at : ℕ) → Some at ≡ position p xs → (at ≡ position_or_len p xs) × (at < length xs)
position_is p xs at h = go (nat_lt (position_or_len p xs) (length xs)) refl h
  where
    go : (b : Bool) → nat_lt (position_or_len p xs) (length xs) ≡ b → Some at ≡ cond b (Some (position_or_len p xs)) None → (at ≡ position_or_len p xs) × (at < length xs)
    go true e k = let i : at ≡ position_or_len p xs = cc in let l : position_or_len p xs < length xs = ltb-true _ _ e in (i, omega arith)
    go false e k = absurd cc

pub any_agree : {X : Type 0} (p q : X → Bool) (xs : List X) → ((x : X) → p x ≡ q x) → list_any p xs ≡ list_any q xs
any_agree p q [] h = refl
any_agree p q (x ∷ xs) h = ap (λ b. b || list_any p xs) (h x) ∙ ap (λ b. q x || b) (any_agree p q xs h)

any_map : {X Y : Type 0} (f : X → Y) (p : X → Bool) (q : Y → Bool) (xs : List X) → ((x : X) → p x ≡ q (f x)) → list_any p xs ≡ list_any q (map f xs)
any_map f p q [] h = refl
any_map f p q (x ∷ xs) h = ap (λ b. b || list_any p xs) (h x) ∙ ap (λ b. q (f x) || b) (any_map f p q xs h)

position_map : {X Y : Type 0} (f : X → Y) (p : X → Bool) (q : Y → Bool) (xs : List X) → ((x : X) → p x ≡ q (f x)) → position_or_len p xs ≡ position_or_len q (map f xs)
position_map f p q [] h = refl
position_map f p q (x ∷ xs) h = ap (λ b. cond (not b) (1 + position_or_len p xs) 0) (h x) ∙ ap (λ n. cond (not (q (f x))) (1 + n) 0) (position_map f p q xs h)

-- ---- equal keys

same_words : (xs ys : List ℕ) → All (λ w. w < 2 ^ 64) xs → All (λ w. w < 2 ^ 64) ys → length xs ≡ length ys → pointwise eqb xs ys ≡ nat_eq (joined xs) (joined ys)
same_words [] [] f g l = refl
same_words [] (y ∷ ys) f g l = absurd (omega arith)
same_words (x ∷ xs) [] f g l = absurd (omega arith)
same_words (x ∷ xs) (y ∷ ys) f g l =
    ap (λ b. eqb x y && b) (same_words xs ys (All-tail (λ w. w < 2 ^ 64) x xs f) (All-tail (λ w. w < 2 ^ 64) y ys g) (omega arith))
    ∙ go (eqb x y) (eqb (joined xs) (joined ys)) (eqb (joined xs * 2 ^ 64 + x) (joined ys * 2 ^ 64 + y)) refl refl refl
  where
    go : (b c d : Bool) → eqb x y ≡ b → eqb (joined xs) (joined ys) ≡ c → eqb (joined xs * 2 ^ 64 + x) (joined ys * 2 ^ 64 + y) ≡ d → (b && c) ≡ d
    go true true true e h k = refl
    go true true false e h k = absurd (eqb-false _ _ k (ap (λ a. a * 2 ^ 64 + x) (eqb-true _ _ h) ∙ ap (λ a. joined ys * 2 ^ 64 + a) (eqb-true _ _ e)))
    go true false true e h k = absurd (eqb-false _ _ h (same_from_place (joined xs) x (joined ys) y (2 ^ 64) (All-head (λ w. w < 2 ^ 64) x xs f) (All-head (λ w. w < 2 ^ 64) y ys g) (eqb-true _ _ k)).0)
    go true false false e h k = refl
    go false c true e h k = absurd (eqb-false _ _ e (same_from_place (joined xs) x (joined ys) y (2 ^ 64) (All-head (λ w. w < 2 ^ 64) x xs f) (All-head (λ w. w < 2 ^ 64) y ys g) (eqb-true _ _ k)).1)
    go false c false e h k = refl

pub same_set : (a b : NumberSet) → set_eq.eq-value.it a b ≡ nat_eq (set_of a) (set_of b)
same_set a b = same_words a.words b.words a.fit.1 b.fit.1 (a.fit.0 ∙ sym b.fit.0)

pub same_place : (a b : Place) → place_eq.eq-value.it a b ≡ same_spot (spot_of a) (spot_of b)
same_place a b = ap (λ t. t && nat_eq a.level b.level) (same_set a.set b.set)

pub same_edges : (a b : Edge) → edge_eq.eq-value.it a b ≡ same_edge a b
same_edges a b = refl

-- ---- keys that are put in

pub spots_inserted : (ks : List Place) (k : Place) → map spot_of (insert_key place_eq.eq-value.it ks k) ≡ insert_key same_spot (map spot_of ks) (spot_of k)
spots_inserted ks k = go (list_any (place_eq.eq-value.it k) ks) (list_any (same_spot (spot_of k)) (map spot_of ks)) (any_map spot_of (place_eq.eq-value.it k) (same_spot (spot_of k)) ks (same_place k))
  where
    go : (b c : Bool) → b ≡ c → map spot_of (cond b ks (ks ++ k ∷ [])) ≡ cond c (map spot_of ks) (map spot_of ks ++ spot_of k ∷ [])
    go true true e = refl
    go true false e = absurd cc
    go false true e = absurd cc
    go false false e = map_push spot_of ks k

pub spot_position : (ks : List Place) (k : Place) → position_or_len (place_eq.eq-value.it k) ks ≡ position_or_len (same_spot (spot_of k)) (map spot_of ks)
spot_position ks k = position_map spot_of (place_eq.eq-value.it k) (same_spot (spot_of k)) ks (same_place k)

pub edges_put : (es : List Edge) (e : Edge) → insert_key edge_eq.eq-value.it es e ≡ insert_key same_edge es e
edges_put es e = ap (λ b. cond b es (es ++ e ∷ [])) (any_agree (edge_eq.eq-value.it e) (same_edge e) es (same_edges e))

-- ---- the covers of sets

pub covers_known : (table : TableData) (sets : List NumberSet) (lists : List (List BitCover)) (set : NumberSet) (at : ℕ) → AreCovers table sets lists → Some at ≡ position (set_eq.eq-value.it set) sets
    → covers_in table (set_of set) ≡ Some (covers_of (get_or lists at []))
covers_known table sets lists set at a h =
    let p = position_is (set_eq.eq-value.it set) sets at h in
    let l : position_or_len (set_eq.eq-value.it set) sets < length sets = omega (arith, p.0, p.1) in
    let known : NumberSet = get_or sets (position_or_len (set_eq.eq-value.it set) sets) set in
    let f : set_eq.eq-value.it set known ≡ true = position_found (set_eq.eq-value.it set) sets set l in
    let e : set_of set ≡ set_of known = eqb-true (set_of set) (set_of known) (sym (same_set set known) ∙ f) in
    ap (covers_in table) e ∙ a.are (position_or_len (set_eq.eq-value.it set) sets) set l ∙ ap (λ n. Some (covers_of (get_or lists n []))) (sym p.0)

pub covers_push : (table : TableData) (sets keys : List NumberSet) (lists new : List (List BitCover)) (set : NumberSet) (list : List BitCover) → AreCovers table sets lists
    → covers_in table (set_of set) ≡ Some (covers_of list) → keys ≡ insert_key set_eq.eq-value.it sets set → list_any (set_eq.eq-value.it set) sets ≡ false → new ≡ lists ++ list ∷ [] → AreCovers table keys new
covers_push table sets keys lists new set list a h k n e =
    subst (λ ls. AreCovers table keys ls) (sym e) (subst (λ ks. AreCovers table ks (lists ++ list ∷ [])) (sym (k ∙ ap (λ b. cond b sets (sets ++ set ∷ [])) n)) (record {
      each = length_push sets set ∙ ap (λ m. m + 1) a.each ∙ sym (length_push lists list);
      are = λ i d l. at i d l (nat_lt i (length sets)) refl;
    }))
  where
    at : (i : ℕ) (d : NumberSet) → i < length (sets ++ set ∷ []) → (b : Bool) → nat_lt i (length sets) ≡ b → covers_in table (set_of (get_or (sets ++ set ∷ []) i d)) ≡ Some (covers_of (get_or (lists ++ list ∷ []) i []))
    at i d l true t =
        let m : i < length sets = ltb-true i (length sets) t in
        ap (λ s. covers_in table (set_of s)) (get_or_append_left sets (set ∷ []) d i m) ∙ a.are i d m
        ∙ ap (λ s. Some (covers_of s)) (sym (get_or_append_left lists (list ∷ []) [] i (omega (arith, a.each))))
    at i d l false t =
        let m : length sets ≤ i = ltb-false i (length sets) t in
        let e : i ≡ length sets = omega (arith, length_push sets set) in
        ap (λ s. covers_in table (set_of s)) (get_or_at sets set [] d i (sym e)) ∙ h ∙ ap (λ s. Some (covers_of s)) (sym (get_or_at lists list [] [] i (sym a.each ∙ sym e)))

-- ---- lists over the numbers of formulas

pub range_more : (n : ℕ) → range_with_len 0 (n + 1) ≡ range_with_len 0 n ++ n ∷ []
range_more n = let e : 0 + n ≡ n = omega arith in range_split 0 n 1 ∙ ap (λ k. range_with_len 0 n ++ k ∷ []) e

pub filter_next : (p : ℕ → Bool) (n : ℕ) (xs new : List ℕ) (b : Bool) → xs ≡ filter p (range_with_len 0 n) → p n ≡ b → new ≡ cond b (xs ++ n ∷ []) xs → new ≡ filter p (range_with_len 0 (n + 1))
filter_next p n xs new b e h k =
    k ∙ choose b ∙ ap (λ ys. ys ++ cond b (n ∷ []) []) e
    ∙ sym (ap (filter p) (range_more n) ∙ filter-append p (range_with_len 0 n) (n ∷ []) ∙ ap (λ t. filter p (range_with_len 0 n) ++ cond t (n ∷ []) []) h)
  where
    choose : (b : Bool) → cond b (xs ++ n ∷ []) xs ≡ xs ++ cond b (n ∷ []) []
    choose true = refl
    choose false = sym (append-nil xs)

pub flat_next : {X : Type 0} (f : ℕ → List X) (n : ℕ) (xs new more : List X) → xs ≡ flat_map f (range_with_len 0 n) → more ≡ f n → new ≡ xs ++ more → new ≡ flat_map f (range_with_len 0 (n + 1))
flat_next f n xs new more e h k =
    k ∙ ap (λ ys. ys ++ more) e ∙ ap (λ ys. flat_map f (range_with_len 0 n) ++ ys) h
    ∙ sym (ap (flat_map f) (range_more n) ∙ flat_map-append f (range_with_len 0 n) (n ∷ []) ∙ ap (λ ys. flat_map f (range_with_len 0 n) ++ ys) (append-nil (f n)))

abbrev record_of : ℕ → ℕ → Bool → Literal
record_of n signal positive = record { number = n; signal = signal; positive = positive }

pub literal_fits : (signals n : ℕ) (node : Node) (l : Literal) → l ∷ [] ≡ literal_at n node → IsLiteralBelow signals node → n < 512 → (l.number < 512) × (l.signal < signals)
literal_fits signals n (Lit signal positive) l e b h =
    let i : l ≡ record_of n signal positive = cc in
    subst (λ (x : Literal). (x.number < 512) × (x.signal < signals)) (sym i) (h, b)
literal_fits signals n True l e b h = absurd cc
literal_fits signals n False l e b h = absurd cc
literal_fits signals n (And f g) l e b h = absurd cc
literal_fits signals n (Or f g) l e b h = absurd cc
literal_fits signals n (Next f) l e b h = absurd cc
literal_fits signals n (Until f g) l e b h = absurd cc
literal_fits signals n (Release f g) l e b h = absurd cc

-- ---- the edge of a cover

and_self : (a : Bool) → a ≡ true → (b : Bool) → b ≡ true → (a && b) ≡ true
and_self a e b f = ap (λ x. x && b) e ∙ f

pub same_self : (a : Spot) → same_spot a a ≡ true
same_self a = and_self _ (eq-eqb a.set a.set refl) _ (eq-eqb a.level a.level refl)

position_pushed : {X : Type 0} (p : X → Bool) (xs : List X) (x : X) → list_any p xs ≡ false → p x ≡ true → position_or_len p (xs ++ x ∷ []) ≡ position_or_len p xs
position_pushed p [] x n y = ap (λ b. cond (not b) 1 0) y
position_pushed p (z ∷ zs) x n y = go (p z) refl n (λ k. position_pushed p zs x k y)
  where
    go : (b : Bool) → p z ≡ b → (b || list_any p zs) ≡ false → (list_any p zs ≡ false → position_or_len p (zs ++ x ∷ []) ≡ position_or_len p zs)
        → cond (not b) (1 + position_or_len p (zs ++ x ∷ [])) 0 ≡ cond (not b) (1 + position_or_len p zs) 0
    go true e k rec = refl
    go false e k rec = ap (λ n. 1 + n) (rec k)

pub position_inserted : (ks : List Spot) (k : Spot) → position_or_len (same_spot k) (insert_key same_spot ks k) ≡ position_or_len (same_spot k) ks
position_inserted ks k = go (list_any (same_spot k) ks) refl
  where
    go : (b : Bool) → list_any (same_spot k) ks ≡ b → position_or_len (same_spot k) (cond b ks (ks ++ k ∷ [])) ≡ position_or_len (same_spot k) ks
    go true e = refl
    go false e = position_pushed (same_spot k) ks k e (same_self k)

pub place_put : (ks new : List Place) (k : Place) (t : Spot) → new ≡ insert_key place_eq.eq-value.it ks k → spot_of k ≡ t → map spot_of new ≡ insert_key same_spot (map spot_of ks) t
place_put ks new k t e f = ap (map spot_of) e ∙ spots_inserted ks k ∙ ap (insert_key same_spot (map spot_of ks)) f

pub place_number : (ks new : List Place) (k : Place) (t : Spot) (n : ℕ) → new ≡ insert_key place_eq.eq-value.it ks k → spot_of k ≡ t → n ≡ position_or_len (place_eq.eq-value.it k) ks
    → n ≡ position_or_len (same_spot t) (map spot_of new)
place_number ks new k t n e f h =
    h ∙ spot_position ks k ∙ ap (λ s. position_or_len (same_spot s) (map spot_of ks)) f ∙ sym (position_inserted (map spot_of ks) t)
    ∙ ap (position_or_len (same_spot t)) (sym (place_put ks new k t e f))

abbrev edge_of : Cube → ℕ → Bool → Edge
edge_of cube next marked = record { cube = cube; next = next; marked = marked }

pub edge_is : (literals : List Literal) (untils : List ℕ) (spots : List Spot) (level : ℕ) (c : CoverSets) (cube : Cube) (next : ℕ) (marked : Bool)
    → cube ≡ cube_in literals c.literals → next ≡ position_or_len (same_spot (target untils level c)) spots → marked ≡ is_marked untils level c
    → edge_of cube next marked ≡ edge_in literals untils spots level c
edge_is literals untils spots level c cube next marked e f g =
    ap (λ x. edge_of x next marked) e ∙ ap (λ x. edge_of (cube_in literals c.literals) x marked) f ∙ ap (edge_of (cube_in literals c.literals) (position_or_len (same_spot (target untils level c)) spots)) g

pub many_places : (ks new : List Place) (k : Place) (t : Spot) → new ≡ insert_key place_eq.eq-value.it ks k → spot_of k ≡ t → 4096 < length new → 4096 < length (insert_key same_spot (map spot_of ks) t)
many_places ks new k t e f l =
    let p : length (map spot_of new) ≡ length new = length-map new spot_of in
    let q : length (insert_key same_spot (map spot_of ks) t) ≡ length (map spot_of new) = ap length (sym (place_put ks new k t e f)) in
    omega arith
