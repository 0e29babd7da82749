-- Paths through an automaton, and the marked edges on them.
use Rattle.std.proofs.Common.{◌≡◌, ℕ, zero, suc, ◌+◌, ◌<◌, ◌≤◌, ◌⊎◌, inl, inr, Bool, true, false, ◌&&◌, if◌then◌else◌, List, [], ◌∷◌, ◌++◌, length, get_or, replicate, refl, ap, sym, ◌∙◌, subst, arith}
use Rattle.std.specs.Prelude.{Some}
use Rattle.std.specs.List.{All, Contains}
use Rattle.std.proofs.lemmas.Bool.{and_parts, and_from, cases_lt}
use Rattle.std.proofs.lemmas.List.{get_or-map, length-map, get_or_past}
use Rattle.std.proofs.lemmas.List.Elements.{All-contains, Contains-get_or}
use Rattle.std.proofs.lemmas.List.Folds.{Any-from_list_any, list_any_at}
use Rattle.word_core.specs.declared.automata.Edge.{Edge}
use Rattle.word_core.specs.Automaton.{AutomatonData, edges_at}
use Rattle.word_core.specs.Run.{count}
use Rattle.nba_trim.specs.Live.{IsPath, Returns, IsLive, IsReachable}
use Rattle.nba_trim.specs.Search.{ends, at, trues, has_mark, is_start, Rejoins, marked_edge, edge_back, Reached, first_state, edge_on, AreRejoining, IsBoundedOutside, AreLive}
use Rattle.nba_trim.proofs.Trues.{all_true_at, trues_all}

-- the end of an edge
pub ends_at : (edges : List Edge) (e : Edge) → Contains edges e → Contains (ends edges) e.next
ends_at edges e h =
    let l : h.0 < length (ends edges) = omega (arith, h.1, length-map edges (λ (e : Edge). e.next)) in
    (h.0, l, get_or-map (λ (e : Edge). e.next) edges h.0 e e.next h.1 ∙ ap (λ (e : Edge). e.next) h.2)

pub record IsEnd (edges : List Edge) (p : ℕ) : Type 0 where
  pub edge : Edge
  pub among : Contains edges edge
  pub next : edge.next ≡ p

pub end_of : (edges : List Edge) (p : ℕ) → Contains (ends edges) p → IsEnd edges p
end_of [] p h = absurd (omega (arith, h.1))
end_of (e ∷ es) p (zero, l, is) = record { edge = e; among = (zero, omega arith, refl); next = is }
end_of (e ∷ es) p (suc k, l, is) =
    let r = end_of es p (k, omega arith, is) in
    record { edge = r.edge; among = (suc r.among.0, omega (arith, r.among.1), r.among.2); next = r.next }

one_more : (b : Bool) (n m : ℕ) → b ≡ true → n ≤ m → (if b then 1 else 0) + n ≤ suc m
one_more true n m h l = omega arith
one_more false n m h l = absurd (cc)

no_more : (b : Bool) (n m : ℕ) → b ≡ false → n ≤ m → (if b then 1 else 0) + n ≤ m
no_more true n m h l = absurd (cc)
no_more false n m h l = omega arith

module _ (a : AutomatonData) where
  pub path_join : (q p r : ℕ) (es fs : List Edge) → IsPath a q es p → IsPath a p fs r → IsPath a q (es ++ fs) r
  path_join q p r [] fs h k = subst (λ x. IsPath a x fs r) (sym h) k
  path_join q p r (e ∷ es) fs h k = (h.0, path_join e.next p r es fs h.1 k)

  pub count_join : (es fs : List Edge) → count (es ++ fs) ≡ count es + count fs
  count_join [] fs = omega arith
  count_join (e ∷ es) fs = ap (λ n. (if e.marked then 1 else 0) + n) (count_join es fs) ∙ sums (if e.marked then 1 else 0) (count es) (count fs)
    where
      sums : (x y z : ℕ) → x + (y + z) ≡ (x + y) + z
      sums x y z = omega arith

  -- a path that has so many marked edges and ends in a list
  record IsLong (states : List ℕ) (q b : ℕ) : Type 0 where
    path : List Edge
    last : ℕ
    is : IsPath a q path last
    within : Contains states last
    many : b ≤ count path

  long : (states : List ℕ) → All (Returns a states) states → (b q : ℕ) → Contains states q → IsLong states q b
  long states each zero q h = record { path = []; last = q; is = refl; within = h; many = omega arith }
  long states each (suc b) q h =
      let r = All-contains (Returns a states) states q each h in
      let s = long states each b r.last r.within in
      record {
        path = r.path ++ s.path;
        last = s.last;
        is = path_join q r.last s.last r.path s.path r.is s.is;
        within = s.within;
        many = omega (arith, r.marked, s.many, count_join r.path s.path);
      }

  module _ (live : List Bool) where
    -- a start has a marked edge
    record IsMarkedEdge (q : ℕ) : Type 0 where
      edge : Edge
      among : Contains (edges_at a q) edge
      marked : edge.marked ≡ true
      next : at live edge.next ≡ true

    start_edge : (q : ℕ) → is_start a live q ≡ true → IsMarkedEdge q
    start_edge q h =
        let p = and_parts (at live q) (has_mark live (edges_at a q)) h in
        let e = Any-from_list_any (λ (e : Edge). e.marked && at live e.next) (edges_at a q) p.1 in
        let m = and_parts e.1.marked (at live e.1.next) e.4 in
        record { edge = e.1; among = (e.0, e.2, e.3); marked = m.0; next = m.1 }

    pub start_from : (q : ℕ) (e : Edge) → at live q ≡ true → Contains (edges_at a q) e → e.marked ≡ true → at live e.next ≡ true → is_start a live q ≡ true
    start_from q e h c marked next =
        and_from (at live q) (has_mark live (edges_at a q)) h
        (list_any_at (λ (e : Edge). e.marked && at live e.next) (edges_at a q) c.0 e c.1
        (subst (λ f. (f.marked && at live f.next) ≡ true) (sym c.2) (and_from e.marked (at live e.next) marked next)))

    pub start_live : (q : ℕ) → is_start a live q ≡ true → at live q ≡ true
    start_live q h = (and_parts (at live q) (has_mark live (edges_at a q)) h).0

    pub rejoins_live : (q : ℕ) → Rejoins a live q → at live q ≡ true
    rejoins_live q (marked_edge _ h) = (and_parts (at live q) (has_mark live (edges_at a q)) h).0
    rejoins_live q (edge_back _ p h c r) = h

    -- the path of a state that rejoins
    record IsRejoining (q : ℕ) : Type 0 where
      path : List Edge
      last : ℕ
      is : IsPath a q path last
      within : at live last ≡ true
      marked : 0 < count path

    some_mark : (b : Bool) (n : ℕ) → b ≡ true → 0 < (if b then 1 else 0) + n
    some_mark true n h = omega arith
    some_mark false n h = absurd (cc)

    rejoining_path : (q : ℕ) → Rejoins a live q → IsRejoining q
    rejoining_path q (marked_edge _ h) =
        let e = start_edge q h in
        record { path = e.edge ∷ []; last = e.edge.next; is = (e.among, refl); within = e.next; marked = some_mark e.edge.marked 0 e.marked }
    rejoining_path q (edge_back _ p h c r) =
        let e = end_of (edges_at a q) p c in
        let s = rejoining_path p r in
        record {
          path = e.edge ∷ s.path;
          last = s.last;
          is = (e.among, subst (λ x. IsPath a x s.path s.last) (sym e.next) s.is);
          within = s.within;
          marked = omega (arith, s.marked);
        }

    -- a state that doesn't rejoin has a path with at most one marked edge more than those that weren't live
    pub bounded_more : (left : List Bool) (bound : ℕ) → AreRejoining a live left → IsBoundedOutside a live bound → IsBoundedOutside a left (suc bound)
    bounded_more left bound are outside q [] p out is = omega arith
    bounded_more left bound are outside q (e ∷ es) p out is = go (at live q) refl (bounded_more left bound are outside e.next es p)
      where
        Rest : Type 0
        Rest = at left e.next ≡ false → IsPath a e.next es p → count es ≤ suc bound

        no_start : at left q ≡ false → at live q ≡ true → e.marked ≡ true → at live e.next ≡ false
        no_start o h m = by (at live e.next) refl
          where
            by : (b : Bool) → at live e.next ≡ b → at live e.next ≡ false
            by false n = n
            by true n = let c : at left q ≡ true = are.complete q (marked_edge q (start_from q e h is.0 m n)) in absurd (cc)

        no_step : at left q ≡ false → at live q ≡ true → at left e.next ≡ false
        no_step o h = by (at left e.next) refl
          where
            by : (b : Bool) → at left e.next ≡ b → at left e.next ≡ false
            by false n = n
            by true n = let c : at left q ≡ true = are.complete q (edge_back q e.next h (ends_at (edges_at a q) e is.0) (are.sound e.next n)) in absurd (cc)

        marked_case : at live q ≡ true → (b : Bool) → e.marked ≡ b → Rest → count (e ∷ es) ≤ suc bound
        marked_case h true m rest =
            let o = outside e.next es p (no_start out h m) is.1 in
            one_more e.marked (count es) bound m o
        marked_case h false m rest =
            let o = rest (no_step out h) is.1 in
            no_more e.marked (count es) (suc bound) m o

        go : (b : Bool) → at live q ≡ b → Rest → count (e ∷ es) ≤ suc bound
        go false h rest = let o = outside q (e ∷ es) p h is in omega (arith, o)
        go true h rest = marked_case h e.marked refl rest

    -- the states of which it is told, from a number on
    places : ℕ → List Bool → List ℕ
    places n [] = []
    places n (true ∷ bs) = n ∷ places (suc n) bs
    places n (false ∷ bs) = places (suc n) bs

    later : (n x : ℕ) (xs : List ℕ) → Contains xs x → Contains (n ∷ xs) x
    later n x xs c = (suc c.0, omega (arith, c.1), c.2)

    has_place : (n q : ℕ) (bs : List Bool) → at bs q ≡ true → Contains (places n bs) (n + q)
    unfolding places
    has_place n q [] h = absurd (cc)
    has_place n zero (true ∷ bs) h = subst (λ x. Contains (n ∷ places (suc n) bs) x) (omega arith) (zero, omega arith, refl)
    has_place n zero (false ∷ bs) h = absurd (cc)
    has_place n (suc q) (true ∷ bs) h = later n (n + suc q) (places (suc n) bs) (subst (Contains (places (suc n) bs)) (omega arith) (has_place (suc n) q bs h))
    has_place n (suc q) (false ∷ bs) h = subst (Contains (places (suc n) bs)) (omega arith) (has_place (suc n) q bs h)

    record IsPlace (n : ℕ) (bs : List Bool) (x : ℕ) : Type 0 where
      place : ℕ
      is : x ≡ n + place
      told : at bs place ≡ true

    is_place : (n : ℕ) (bs : List Bool) (x : ℕ) → Contains (places n bs) x → IsPlace n bs x
    unfolding places
    is_place n [] x h = absurd (omega (arith, h.1))
    is_place n (true ∷ bs) x (zero, l, is) = record { place = 0; is = omega (arith, is); told = refl }
    is_place n (true ∷ bs) x (suc k, l, is) =
        let r = is_place (suc n) bs x (k, omega arith, is) in
        record { place = suc r.place; is = omega (arith, r.is); told = r.told }
    is_place n (false ∷ bs) x h =
        let r = is_place (suc n) bs x h in
        record { place = suc r.place; is = omega (arith, r.is); told = r.told }

    module _ (are : AreLive a live) where
      pub live_is : (q : ℕ) → at live q ≡ true → IsLive a q
      live_is q h = record {
        states = places 0 live;
        among = subst (Contains (places 0 live)) (omega arith) (has_place 0 q live h);
        each = λ k d l.
            let p = is_place 0 live (get_or (places 0 live) k d) (Contains-get_or (places 0 live) k d l) in
            let told : at live (get_or (places 0 live) k d) ≡ true = ap (at live) (p.is ∙ omega arith) ∙ p.told in
            let r = rejoining_path (get_or (places 0 live) k d) (are.rejoin (get_or (places 0 live) k d) told) in
            record { path = r.path; last = r.last; is = r.is; within = subst (Contains (places 0 live)) (omega arith) (has_place 0 r.last live r.within); marked = r.marked };
      }

      -- a state with a path to a live one is told
      pub is_live : (r q : ℕ) (es : List Edge) → IsPath a r es q → IsLive a q → at live r ≡ true
      is_live r q es is h = go (at live r) refl
        where
          go : (b : Bool) → at live r ≡ b → at live r ≡ true
          go true e = e
          go false e =
              let s = long h.states h.each (suc are.bound) q h.among in
              let o = are.outside r (es ++ s.path) s.last e (path_join r q s.last es s.path is s.is) in
              absurd (omega (arith, o, s.many, count_join es s.path))

      pub reached_from : (first q : ℕ) (es : List Edge) → Reached a live first → IsPath a first es q → IsLive a q → Reached a live q
      reached_from first q [] r is h = subst (Reached a live) is r
      reached_from first q (e ∷ es) r is h =
          reached_from e.next q es (edge_on first e.next r (ends_at (edges_at a first) e is.0) (is_live e.next q es is.1 h)) is.1 h

      pub reached_all : (q : ℕ) → IsLive a q → IsReachable a q → Reached a live q
      reached_all q h r = reached_from r.first q r.path (first_state r.first r.begins (is_live r.first q r.path r.is h)) r.is h

    -- what is closed under the steps has all states that they reach
    pub reached_closed : (found : List Bool) → ((q : ℕ) → (a.init ≡ Some q) × (at live q ≡ true) → at found q ≡ true)
        → ((p q : ℕ) → at found p ≡ true → Contains (ends (edges_at a p)) q × (at live q ≡ true) → at found q ≡ true) → (q : ℕ) → Reached a live q → at found q ≡ true
    reached_closed found started closed q (first_state _ b h) = started q (b, h)
    reached_closed found started closed q (edge_on p _ r c h) = closed p q (reached_closed found started closed p r) (c, h)

    pub rejoins_closed : (found : List Bool) → ((q : ℕ) → is_start a live q ≡ true → at found q ≡ true)
        → ((p q : ℕ) → at found p ≡ true → Contains (ends (edges_at a q)) p × (at live q ≡ true) → at found q ≡ true) → (q : ℕ) → Rejoins a live q → at found q ≡ true
    rejoins_closed found started closed q (marked_edge _ h) = started q h
    rejoins_closed found started closed q (edge_back _ p h c r) = closed p q (rejoins_closed found started closed p r) (c, h)

    pub reached_live : (q : ℕ) → Reached a live q → at live q ≡ true
    reached_live q (first_state _ b h) = h
    reached_live q (edge_on p _ r c h) = h

    pub reachable : (q : ℕ) → Reached a live q → IsReachable a q
    reachable q (first_state _ b h) = record { first = q; begins = b; path = []; is = refl }
    reachable q (edge_on p _ r c h) =
        let s = reachable p r in
        let e = end_of (edges_at a p) q c in
        record { first = s.first; begins = s.begins; path = s.path ++ e.edge ∷ []; is = path_join s.first p q s.path (e.edge ∷ []) s.is (e.among, e.next) }

-- all states are told at first: the others have no path
pub outside_all : (a : AutomatonData) (live : List Bool) → live ≡ replicate (length a.states) true → IsBoundedOutside a live 0
outside_all a live is q [] p out path = omega arith
outside_all a live is q (e ∷ es) p out path = by (cases_lt q (length a.states))
  where
    by : (q < length a.states) ⊎ (length a.states ≤ q) → count (e ∷ es) ≤ 0
    by (inl l) = let t : at live q ≡ true = ap (λ l. at l q) is ∙ all_true_at (length a.states) q l in absurd (cc)
    by (inr l) = let none : Contains [] e = subst (λ es. Contains es e) (get_or_past a.states q [] l) path.0 in absurd (omega (arith, none.1))

-- the states that are told are the live ones as soon as none is dropped
pub live_when : (a : AutomatonData) (live left : List Bool) (bound : ℕ) → length live ≡ length a.states → AreRejoining a live left → trues live ≤ trues left → IsBoundedOutside a live bound → AreLive a live
live_when a live left bound each are all outside = record {
  each = each;
  rejoin = λ q h. are.sound q (trues_all left live are.count (λ p k. rejoins_live a live p (are.sound p k)) all q h);
  bound = bound;
  outside = outside;
}
