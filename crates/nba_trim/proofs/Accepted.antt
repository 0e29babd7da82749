-- The trimmed automaton accepts the same lassos.
use Rattle.std.proofs.Common.{◌≡◌, ℕ, zero, suc, ◌+◌, ◌<◌, ◌≤◌, ◌⊎◌, inl, inr, Bool, true, false, if◌then◌else◌, List, [], ◌∷◌, length, get_or, take, Option, Some, None, refl, ap, sym, ◌∙◌, subst, arith}
use Rattle.std.specs.Option.{IsSomeAnd}
use Rattle.std.specs.List.{Contains, cons_option}
use Rattle.std.proofs.lemmas.Bool.{cases_lt}
use Rattle.std.proofs.lemmas.List.{get_or-map, take_all, take-append-le, length_push}
use Rattle.word_core.specs.declared.automata.Edge.{Edge}
use Rattle.word_core.specs.Automaton.{AutomatonData, edges_at}
use Rattle.word_core.specs.Cube.{holds}
use Rattle.word_core.specs.Lasso.{LassoData, prefix, bits_at}
use Rattle.word_core.specs.Run.{IsRunFrom, IsRun, count, Accepts}
use Rattle.nba_trim.specs.Live.{IsPath}
use Rattle.nba_trim.specs.Search.{at, Reached, first_state, edge_on, AreReached, AreLive}
use Rattle.nba_trim.specs.Numbers.{AreTrue}
use Rattle.nba_trim.specs.Trimmed.{number_of, number_if, edge_to, kept_edge, kept_edges, restricted, AreKept, HasNoLiveFirst, AcceptSame}
use Rattle.nba_trim.proofs.Paths.{ends_at, live_is, is_live, reached_all, reached_live, reachable}
use Rattle.nba_trim.proofs.Numbering.{is_number, has_number}

-- the first letters of a part of the unrolling are a part of it
prefix_length : (w : LassoData) (n : ℕ) → length (prefix w n) ≡ n
prefix_length w zero = refl
prefix_length w (suc n) = omega (arith, length_push (prefix w n) (bits_at w n), prefix_length w n)

take_prefix : (w : LassoData) (n m : ℕ) → n ≤ m → take n (prefix w m) ≡ prefix w n
take_prefix w n zero l = let none : n ≡ 0 = omega arith in ap (λ k. take k []) none ∙ ap (prefix w) (sym none)
take_prefix w n (suc m) l = by (cases_lt n (suc m)) (take_prefix w n m)
  where
    by : (n < suc m) ⊎ (suc m ≤ n) → (n ≤ m → take n (prefix w m) ≡ prefix w n) → take n (prefix w (suc m)) ≡ prefix w n
    by (inl e) rest = take-append-le n (prefix w m) (bits_at w m ∷ []) (omega (arith, prefix_length w m)) ∙ rest (omega arith)
    by (inr e) rest =
        let same : n ≡ suc m = omega arith in
        take_all n (prefix w (suc m)) (omega (arith, prefix_length w (suc m))) ∙ ap (prefix w) (sym same)

module _ (a : AutomatonData) (kept : List ℕ) where
  abbrev trimmed : AutomatonData
  trimmed = restricted a kept

  edges_kept : (k : ℕ) → k < length kept → edges_at trimmed k ≡ kept_edges kept (edges_at a (get_or kept k 0))
  edges_kept k l = get_or-map (λ q. kept_edges kept (edges_at a q)) kept k 0 [] l

  -- a kept edge, and the one that it was
  record IsOld (edges : List Edge) (e : Edge) : Type 0 where
    edge : Edge
    among : Contains edges edge
    is : kept_edge kept edge ≡ Some e

  later : (x : Edge) (xs : List Edge) (e : Edge) → Contains xs e → Contains (x ∷ xs) e
  later x xs e c = (suc c.0, omega (arith, c.1), c.2)

  edge_from : (edges : List Edge) (e : Edge) → Contains (kept_edges kept edges) e → IsOld edges e
  edge_from [] e c = absurd (omega (arith, c.1))
  edge_from (x ∷ xs) e c = go (kept_edge kept x) refl (edge_from xs e) c
    where
      behind : IsOld xs e → IsOld (x ∷ xs) e
      behind o = record { edge = o.edge; among = later x xs o.edge o.among; is = o.is }

      go : (o : Option Edge) → kept_edge kept x ≡ o → (Contains (kept_edges kept xs) e → IsOld xs e) → Contains (kept_edges kept (x ∷ xs)) e → IsOld (x ∷ xs) e
      go None i rest c = behind (rest (subst (λ o. Contains (cons_option o (kept_edges kept xs)) e) i c))
      go (Some y) i rest c = first (subst (λ o. Contains (cons_option o (kept_edges kept xs)) e) i c)
        where
          first : Contains (y ∷ kept_edges kept xs) e → IsOld (x ∷ xs) e
          first (zero, l, same) = record { edge = x; among = (zero, omega arith, refl); is = i ∙ ap Some same }
          first (suc k, l, same) = behind (rest (k, omega arith, same))

  edge_to_new : (edges : List Edge) (x e : Edge) → Contains edges x → kept_edge kept x ≡ Some e → Contains (kept_edges kept edges) e
  edge_to_new [] x e c is = absurd (omega (arith, c.1))
  edge_to_new (y ∷ ys) x e (zero, l, same) is =
      subst (λ o. Contains (cons_option o (kept_edges kept ys)) e) (sym (ap (kept_edge kept) same ∙ is)) (zero, omega arith, refl)
  edge_to_new (y ∷ ys) x e (suc k, l, same) is = go (kept_edge kept y) (edge_to_new ys x e (k, omega arith, same) is)
    where
      go : (o : Option Edge) → Contains (kept_edges kept ys) e → Contains (cons_option o (kept_edges kept ys)) e
      go None c = c
      go (Some z) c = later z (kept_edges kept ys) e c

  -- what a kept edge keeps
  record Moves (e f : Edge) : Type 0 where
    number : number_of kept e.next ≡ Some f.next
    cube : f.cube ≡ e.cube
    marked : f.marked ≡ e.marked

  moves : (e f : Edge) → kept_edge kept e ≡ Some f → Moves e f
  moves e f h = go (number_of kept e.next) refl (h)
    where
      go : (o : Option ℕ) → number_of kept e.next ≡ o → edge_to e (number_of kept e.next) ≡ Some f → Moves e f
      go None i h = let none : edge_to e (number_of kept e.next) ≡ None = ap (edge_to e) i in absurd (cc)
      go (Some n) i h =
          let some : Some (record { cube = e.cube; next = n; marked = e.marked }) ≡ Some f = sym (ap (edge_to e) i) ∙ h in
          let same : record { cube = e.cube; next = n; marked = e.marked } ≡ f = cc in
          record { number = i ∙ ap (λ (x : Edge). Some x.next) same; cube = ap (λ (x : Edge). x.cube) (sym same); marked = ap (λ (x : Edge). x.marked) (sym same) }

  record IsRunOf (b : AutomatonData) (q : ℕ) (letters : List ℕ) (n : ℕ) : Type 0 where
    edges : List Edge
    run : IsRunFrom b q letters edges
    counts : count edges ≡ n

  run_back : (k : ℕ) (letters : List ℕ) (es : List Edge) → k < length kept → IsRunFrom trimmed k letters es → IsRunOf a (get_or kept k 0) letters (count es)
  run_back k [] [] l r = record { edges = []; run = tt; counts = refl }
  run_back k [] (e ∷ es) l r = absurd r
  run_back k (x ∷ xs) [] l r = absurd r
  run_back k (x ∷ xs) (e ∷ es) l r =
      let o = edge_from (edges_at a (get_or kept k 0)) e (subst (λ edges. Contains edges e) (edges_kept k l) r.0) in
      let m = moves o.edge e o.is in
      let n = is_number kept o.edge.next e.next m.number in
      let s = run_back e.next xs es n.within r.2 in
      record {
        edges = o.edge ∷ s.edges;
        run = (o.among, subst (λ c. holds c x ≡ true) m.cube r.1, subst (λ q. IsRunFrom a q xs s.edges) n.is s.run);
        counts = ap (λ b. (if b then 1 else 0) + count s.edges) (sym m.marked) ∙ ap (λ n. (if e.marked then 1 else 0) + n) s.counts;
      }

  Stays : List Edge → Type 0
  Stays [] = Unit {0}
  Stays (e ∷ es) = Contains kept e.next × Stays es

  run_on : (k : ℕ) (letters : List ℕ) (es : List Edge) → k < length kept → IsRunFrom a (get_or kept k 0) letters es → Stays es → IsRunOf trimmed k letters (count es)
  unfolding Stays
  run_on k [] [] l r stays = record { edges = []; run = tt; counts = refl }
  run_on k [] (e ∷ es) l r stays = absurd r
  run_on k (x ∷ xs) [] l r stays = absurd r
  run_on k (x ∷ xs) (e ∷ es) l r stays =
      let h = has_number kept e.next stays.0 in
      let n = is_number kept e.next h.number h.is in
      let f : Edge = record { cube = e.cube; next = h.number; marked = e.marked } in
      let new : Contains (edges_at trimmed k) f = subst (λ edges. Contains edges f) (sym (edges_kept k l)) (edge_to_new (edges_at a (get_or kept k 0)) e f r.0 (ap (edge_to e) h.is)) in
      let s = run_on h.number xs es n.within (subst (λ q. IsRunFrom a q xs es) (sym n.is) r.2) stays.1 in
      record {
        edges = f ∷ s.edges;
        run = (new, r.1, s.run);
        counts = ap (λ n. (if e.marked then 1 else 0) + n) s.counts;
      }

  record IsWalk (q : ℕ) (es : List Edge) : Type 0 where
    last : ℕ
    path : IsPath a q es last

  run_path : (q : ℕ) (letters : List ℕ) (es : List Edge) → IsRunFrom a q letters es → IsWalk q es
  run_path q [] [] r = record { last = q; path = refl }
  run_path q [] (e ∷ es) r = absurd r
  run_path q (x ∷ xs) [] r = absurd r
  run_path q (x ∷ xs) (e ∷ es) r = let s = run_path e.next xs es r.2 in record { last = s.last; path = (r.0, s.path) }

  module _ (live : List Bool) (are : AreLive a live) (all : (q : ℕ) → Reached a live q → Contains kept q) where
    -- the part of a run on the states that are kept
    record IsCut (q : ℕ) (letters : List ℕ) (es : List Edge) : Type 0 where
      letter_count : ℕ
      short : letter_count ≤ length letters
      edges : List Edge
      run : IsRunFrom a q (take letter_count letters) edges
      stays : Stays edges
      many : count es ≤ count edges + suc are.bound

    at_most_one : (b : Bool) (n m : ℕ) → n ≤ m → (if b then 1 else 0) + n ≤ 0 + suc m
    at_most_one true n m l = omega arith
    at_most_one false n m l = omega arith

    cut : (q : ℕ) (letters : List ℕ) (es : List Edge) → Reached a live q → IsRunFrom a q letters es → IsCut q letters es
    unfolding Stays
    cut q [] [] reached r = record { letter_count = 0; short = omega arith; edges = []; run = tt; stays = tt; many = omega arith }
    cut q [] (e ∷ es) reached r = absurd r
    cut q (x ∷ xs) [] reached r = absurd r
    cut q (x ∷ xs) (e ∷ es) reached r = go (at live e.next) refl (λ s. cut e.next xs es s r.2)
      where
        go : (b : Bool) → at live e.next ≡ b → (Reached a live e.next → IsCut e.next xs es) → IsCut q (x ∷ xs) (e ∷ es)
        go false h rest =
            let p = run_path e.next xs es r.2 in
            let o = are.outside e.next es p.last h p.path in
            record { letter_count = 0; short = omega arith; edges = []; run = tt; stays = tt; many = at_most_one e.marked (count es) are.bound o }
        go true h rest =
            let s : Reached a live e.next = edge_on q e.next reached (ends_at (edges_at a q) e r.0) h in
            let c = rest s in
            record {
              letter_count = suc c.letter_count;
              short = omega (arith, c.short);
              edges = e ∷ c.edges;
              run = (r.0, r.1, c.run);
              stays = (all e.next s, c.stays);
              many = omega (arith, c.many);
            }

    accepts_on : (w : LassoData) → Accepts a w → Accepts trimmed w
    accepts_on w accepts b =
        let r = accepts (b + suc are.bound) in
        begin a.init refl r.0 r.1 r.2 r.3
      where
        begin : (o : Option ℕ) → a.init ≡ o → (n : ℕ) (es : List Edge) → IsSomeAnd a.init (λ q. IsRunFrom a q (prefix w n) es) → b + suc are.bound < count es
            → (n : ℕ) × (es : List Edge) × IsRun trimmed (prefix w n) es × (b < count es)
        begin None i n es run more = absurd (subst (λ o. IsSomeAnd o (λ q. IsRunFrom a q (prefix w n) es)) i run)
        begin (Some q) i n es run more = go (at live q) refl
          where
            from : IsRunFrom a q (prefix w n) es
            from = subst (λ o. IsSomeAnd o (λ q. IsRunFrom a q (prefix w n) es)) i run

            go : (t : Bool) → at live q ≡ t → (n : ℕ) × (es : List Edge) × IsRun trimmed (prefix w n) es × (b < count es)
            go false h =
                let p = run_path q (prefix w n) es from in
                let o = are.outside q es p.last h p.path in
                absurd (omega (arith, o, more))
            go true h =
                let s : Reached a live q = first_state q i h in
                let c = cut q (prefix w n) es s from in
                let k = has_number kept q (all q s) in
                let m = is_number kept q k.number k.is in
                let on = run_on k.number (take c.letter_count (prefix w n)) c.edges m.within (subst (λ x. IsRunFrom a x (take c.letter_count (prefix w n)) c.edges) (sym m.is) c.run) c.stays in
                let part : take c.letter_count (prefix w n) ≡ prefix w c.letter_count = take_prefix w c.letter_count n (omega (arith, c.short, prefix_length w n)) in
                let init_is : number_if kept a.init ≡ Some k.number = ap (number_if kept) i ∙ k.is in
                let here : IsRunFrom trimmed k.number (prefix w c.letter_count) on.edges = subst (λ l. IsRunFrom trimmed k.number l on.edges) part on.run in
                (c.letter_count, on.edges, subst (λ o. IsSomeAnd o (λ x. IsRunFrom trimmed x (prefix w c.letter_count) on.edges)) (sym init_is) here, omega (arith, on.counts, c.many, more))

  accepts_back : (w : LassoData) → Accepts trimmed w → Accepts a w
  accepts_back w accepts b = let r = accepts b in begin a.init refl r.0 r.1 r.2 r.3
    where
      begin : (o : Option ℕ) → a.init ≡ o → (n : ℕ) (es : List Edge) → IsSomeAnd (number_if kept a.init) (λ q. IsRunFrom trimmed q (prefix w n) es) → b < count es
          → (n : ℕ) × (es : List Edge) × IsRun a (prefix w n) es × (b < count es)
      begin None i n es run more = absurd (subst (λ o. IsSomeAnd (number_if kept o) (λ q. IsRunFrom trimmed q (prefix w n) es)) i run)
      begin (Some q) i n es run more = go (number_of kept q) refl
        where
          go : (o : Option ℕ) → number_of kept q ≡ o → (n : ℕ) × (es : List Edge) × IsRun a (prefix w n) es × (b < count es)
          go None e = absurd (subst (λ o. IsSomeAnd o (λ q. IsRunFrom trimmed q (prefix w n) es)) (ap (number_if kept) i ∙ e) run)
          go (Some k) e =
              let from : IsRunFrom trimmed k (prefix w n) es = subst (λ o. IsSomeAnd o (λ q. IsRunFrom trimmed q (prefix w n) es)) (ap (number_if kept) i ∙ e) run in
              let m = is_number kept q k e in
              let back = run_back k (prefix w n) es m.within from in
              let here : IsRunFrom a q (prefix w n) back.edges = subst (λ x. IsRunFrom a x (prefix w n) back.edges) m.is back.run in
              (n, back.edges, subst (λ o. IsSomeAnd o (λ x. IsRunFrom a x (prefix w n) back.edges)) (sym i) here, omega (arith, back.counts, more))

module _ (a : AutomatonData) (live reached : List Bool) (kept : List ℕ) (are : AreLive a live) (on : AreReached a live reached) (these : AreTrue reached kept) where
  pub kept_are : AreKept a kept
  kept_are = record {
    ascending = these.ascending;
    exactly = λ q. (
      (λ c. let r = on.sound q (these.sound q c) in (live_is a live are q (reached_live a live q r), reachable a live q r)),
      (λ h. these.complete q (on.complete q (reached_all a live are q h.0 h.1))),
    );
  }

  pub accept_same : AcceptSame a (restricted a kept)
  accept_same w = (accepts_back a kept w, accepts_on a kept live are (λ q r. these.complete q (on.complete q r)) w)

  -- where the first state isn't live, none is kept
  none_kept : HasNoLiveFirst a → kept ≡ []
  none_kept dead = go kept refl
    where
      go : (states : List ℕ) → kept ≡ states → kept ≡ []
      go [] e = e
      go (q ∷ qs) e =
          let c : Contains kept q = subst (λ states. Contains states q) (sym e) (zero, omega arith, refl) in
          let r = on.sound q (these.sound q c) in
          let s = reachable a live q r in
          absurd (dead s.first s.begins (live_is a live are s.first (is_live a live are s.first q s.path s.is (live_is a live are q (reached_live a live q r)))))

  none_numbered : (o : Option ℕ) → number_if [] o ≡ None
  none_numbered None = refl
  none_numbered (Some q) = refl

  pub none_left : (t : AutomatonData) → t ≡ restricted a kept → HasNoLiveFirst a → (t.states ≡ []) × (t.init ≡ None)
  none_left t is dead =
      let e : t ≡ restricted a [] = is ∙ ap (restricted a) (none_kept dead) in
      (ap (λ (t : AutomatonData). t.states) e, ap (λ (t : AutomatonData). t.init) e ∙ none_numbered a.init)
