-- Ways of states.
use Rattle.std.proofs.Common.{◌≡◌, ℕ, ◌<◌, ◌+◌, ◌⊎◌, Bool, true, false, nat_lt, List, [], ◌∷◌, ◌++◌, length, get_or, take, inl, inr, refl, sym, ◌∙◌, ap, subst, arith, length-append, length-take}
use borrow.Author.Tests.{ltb-true, ltb-false}
use Rattle.std.proofs.lemmas.List.{get_or_append_left, get_or_push, take_more}
use Rattle.std.specs.Prelude.{nat_eq, bit_and, IsPermutation, Vec, Result, Ok, Err, IfOk}
use Rattle.std.specs.declared.alloc.Global.{Global}
use Rattle.std.specs.List.{All, Contains}
use Rattle.std.proofs.lemmas.Bool.Decides.{Decides-eqb}
use Rattle.std.proofs.lemmas.Nat.{and_comm}
use Rattle.std.proofs.lemmas.List.Elements.{All-contains, All-more, All-weaker, Contains-get_or}
use Rattle.std.proofs.lemmas.List.Sorted.{Contains-permutation, IsPermutation-sym}
use Rattle.word_core.specs.declared.automata.Edge.{Edge}
use Rattle.word_core.specs.declared.cubes.Cube.{Cube}
use Rattle.word_core.specs.Automaton.{AutomatonData, edges_at}
use Rattle.word_core.specs.Cube.{holds}
use Rattle.word_core.proofs.BitLaws.{within_block}
use Rattle.nba_quotient.specs.Ways.{Way, IsWayOf, Absorbs, IsAbsorbed, AreWays, AreWaysOf}

pub wider : (n w : Cube) → bit_and n.care w.care ≡ w.care → nat_eq (bit_and n.want w.care) w.want ≡ true → (x : ℕ) → holds n x ≡ true → holds w x ≡ true
wider n w care want x h =
    let part : bit_and w.care n.care ≡ w.care = and_comm w.care n.care ∙ care in
    let here : bit_and x n.care ≡ n.want = (Decides-eqb (bit_and x n.care) n.want).0 h in
    let is : bit_and x w.care ≡ w.want = within_block x n.care n.want w.care part here ∙ (Decides-eqb (bit_and n.want w.care) w.want).0 want in
    (Decides-eqb (bit_and x w.care) w.want).1 is

pub absorbs_same : (v : Way) → Absorbs v v
absorbs_same v = record { class = refl; marked = λ h. h; cube = λ x h. h }

-- where one way for each edge is put in order, and each of them absorbed by a kept one
pub ways_are : (a : AutomatonData) (of : List ℕ) (s : ℕ) (ways sorted kept : List Way) → AreWaysOf of (edges_at a s) ways
    → IsPermutation ways sorted → All (IsAbsorbed kept) sorted → All (Contains sorted) kept → AreWays a of s kept
ways_are a of s ways sorted kept zip moved all only = record {
  all = λ e v there is.
      let l : there.0 < length ways = omega (arith, there.1, zip.count) in
      let w : Way = get_or ways there.0 v in
      let way : IsWayOf of (get_or (edges_at a s) there.0 e) w = zip.each there.0 e v there.1 in
      let way2 : IsWayOf of e w = subst (λ d. IsWayOf of d w) there.2 way in
      let kept_one = All-contains (IsAbsorbed kept) sorted w all (Contains-permutation ways sorted w moved (Contains-get_or ways there.0 v l)) in
      (kept_one.0, kept_one.1, narrower of e v w kept_one.0 is way2 kept_one.2);
  only = λ w there.
      let c : Contains ways w = Contains-permutation sorted ways w (IsPermutation-sym ways sorted moved) (All-contains (Contains sorted) kept w only there) in
      by w c;
}
  where
    narrower : (of : List ℕ) (e : Edge) (v w kept : Way) → IsWayOf of e v → IsWayOf of e w → Absorbs kept w → Absorbs kept v
    narrower of e v w k is way h = record {
      class = h.class ∙ way.class ∙ sym is.class;
      marked = λ m. unmarked v.2 refl (way.marked (h.marked m)) is.unmarked;
      cube = λ x m. h.cube x (subst (λ c. holds c x ≡ true) (is.cube ∙ sym way.cube) m);
    }
      where
        differ : false ≡ true → ⊥
        differ e = cc

        unmarked : (b : Bool) → v.2 ≡ b → e.marked ≡ false → (v.2 ≡ false → e.marked ≡ true) → v.2 ≡ true
        unmarked true e off on = e
        unmarked false e off on = absurd (differ (sym off ∙ on e))

    by : (w : Way) → Contains ways w → (e : Edge) × Contains (edges_at a s) e × IsWayOf of e w
    by w c =
        let l : c.0 < length (edges_at a s) = omega (arith, c.1, zip.count) in
        let d : Edge = record { cube = w.3; next = 0; marked = true } in
        let e : Edge = get_or (edges_at a s) c.0 d in
        let way : IsWayOf of e (get_or ways c.0 w) = zip.each c.0 d w l in
        (e, Contains-get_or (edges_at a s) c.0 d l, subst (IsWayOf of e) c.2 way)

-- one way more is looked at
pub kept_more : (ways kept now : List Way) (i : ℕ) (w : Way) → i < length ways → w ≡ get_or ways i w
    → All (IsAbsorbed kept) (take i ways) → All (Contains ways) kept
    → IsAbsorbed now w → ((v : Way) → Contains kept v → Contains now v) → ((v : Way) → Contains now v → Contains kept v ⊎ (w ≡ v))
    → All (IsAbsorbed now) (take (i + 1) ways) × All (Contains ways) now
kept_more ways kept now i w l is all only absorbed more cases = (
  All-more (IsAbsorbed now) ways i w l
      (All-weaker (IsAbsorbed kept) (IsAbsorbed now) (λ v h. (h.0, more h.0 h.1, h.2)) (take i ways) all)
      (subst (IsAbsorbed now) is absorbed),
  λ k d h. from (get_or now k d) (cases (get_or now k d) (Contains-get_or now k d h)),
)
  where
    from : (v : Way) → Contains kept v ⊎ (w ≡ v) → Contains ways v
    from v (inl h) = All-contains (Contains ways) kept v only h
    from v (inr h) = subst (Contains ways) (sym is ∙ h) (Contains-get_or ways i w l)

pub ways_found : {E : Type 0} (a : AutomatonData) (of : List ℕ) (s : ℕ) (ways sorted : List Way) → AreWaysOf of (edges_at a s) ways → IsPermutation ways sorted
    → (r : Result (Vec Way Global) E) → IfOk r (λ v. All (IsAbsorbed v.items) sorted) → IfOk r (λ v. All (Contains sorted) v.items) → IfOk r (λ v. AreWays a of s v.items)
ways_found a of s ways sorted zip moved (Ok v) all only = ways_are a of s ways sorted v.items zip moved all only
ways_found a of s ways sorted zip moved (Err e) all only = tt

-- one edge more has a way
pub ways_push : (of : List ℕ) (edges : List Edge) (ways : List Way) (i : ℕ) (e : Edge) (w : Way) → i < length edges → get_or edges i e ≡ e → AreWaysOf of (take i edges) ways → IsWayOf of e w
    → AreWaysOf of (take (i + 1) edges) (ways ++ w ∷ [])
ways_push of edges ways i e w l is zip way = record { count = omega (arith, length-take i edges, length-take (i + 1) edges, length-append ways (w ∷ []), zip.count); each = each }
  where
    size : length ways ≡ i
    size = omega (arith, length-take i edges, zip.count)

    each : (k : ℕ) (d : Edge) (v : Way) → k < length (take (i + 1) edges) → IsWayOf of (get_or (take (i + 1) edges) k d) (get_or (ways ++ w ∷ []) k v)
    each k d v h = by (nat_lt k i) refl
      where
        whole : take (i + 1) edges ≡ take i edges ++ e ∷ []
        whole = take_more edges i e l ∙ ap (λ (x : Edge). take i edges ++ x ∷ []) is

        by : (b : Bool) → nat_lt k i ≡ b → IsWayOf of (get_or (take (i + 1) edges) k d) (get_or (ways ++ w ∷ []) k v)
        by true t =
            let m : k < i = ltb-true k i t in
            let n : k < length (take i edges) = omega (arith, length-take i edges) in
            let o : k < length ways = omega (arith, size) in
            rw (whole, get_or_append_left (take i edges) (e ∷ []) d k n, get_or_append_left ways (w ∷ []) v k o) (zip.each k d v n)
        by false t =
            let m : k ≡ i = omega (arith, ltb-false k i t, length-take (i + 1) edges) in
            let n : length (take i edges) ≡ k = omega (arith, length-take i edges) in
            let o : length ways ≡ k = omega (arith, size) in
            rw (whole, get_or_push (take i edges) e d k n, get_or_push ways w v k o) way
