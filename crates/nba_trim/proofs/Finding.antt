-- What a search finds, one state more.
use Rattle.std.proofs.Common.{◌≡◌, ℕ, ◌+◌, ◌<◌, ◌≤◌, ◌⊎◌, inl, inr, Bool, true, false, nat_eq, List, [], ◌∷◌, ◌++◌, length, get_or, set, take, replicate, refl, ap, sym, ◌∙◌, subst, arith}
use Rattle.std.specs.List.{Contains}
use borrow.Author.Tests.{eqb-true, eqb-false}
use Rattle.std.proofs.lemmas.List.{get_or_default, take_more, length_push, length-set, get_or-set_same, get_or-set_other}
use Rattle.std.proofs.lemmas.List.Elements.{All-nil, All-push, All-weaker, Contains-push, Contains-push_cases, Contains-append_left}
use Rattle.nba_trim.specs.Search.{AreStates, SearchData, IsSearch, Finds, at, trues}
use Rattle.nba_trim.proofs.Trues.{trues_low, trues_set, trues_none, none_true}

pub finds_more : (P Q R : ℕ → Type 0) (a b c : SearchData) → Finds P a b → Finds Q b c → ((q : ℕ) → R q → P q ⊎ Q q) → ((q : ℕ) → P q → R q) → ((q : ℕ) → Q q → R q) → Finds R a c
finds_more P Q R a b c f g cut left right = record {
  count = g.count ∙ f.count;
  longer = omega (arith, f.longer, g.longer);
  same = λ k d l. g.same k d (omega (arith, f.longer)) ∙ f.same k d l;
  kept = λ q h. g.kept q (f.kept q h);
  sound = λ q h. which q (g.sound q h);
  complete = λ q r. whole q (cut q r);
}
  where
    first : (q : ℕ) → (at a.found q ≡ true) ⊎ P q → (at a.found q ≡ true) ⊎ R q
    first q (inl h) = inl h
    first q (inr p) = inr (left q p)

    which : (q : ℕ) → (at b.found q ≡ true) ⊎ Q q → (at a.found q ≡ true) ⊎ R q
    which q (inl h) = first q (f.sound q h)
    which q (inr r) = inr (right q r)

    whole : (q : ℕ) → P q ⊎ Q q → at c.found q ≡ true
    whole q (inl p) = g.kept q (f.complete q p)
    whole q (inr r) = g.complete q r

-- what the first states of a list are
pub take_cases : (xs : List ℕ) (i d x : ℕ) → i < length xs → Contains (take (i + 1) xs) x → Contains (take i xs) x ⊎ (x ≡ get_or xs i d)
take_cases xs i d x l h = turn (Contains-push_cases (take i xs) (get_or xs i d) x (subst (λ ys. Contains ys x) (take_more xs i d l) h))
  where
    turn : Contains (take i xs) x ⊎ (get_or xs i d ≡ x) → Contains (take i xs) x ⊎ (x ≡ get_or xs i d)
    turn (inl c) = inl c
    turn (inr e) = inr (sym e)

pub take_before : (xs : List ℕ) (i d x : ℕ) → i < length xs → Contains (take i xs) x → Contains (take (i + 1) xs) x
take_before xs i d x l h = subst (λ ys. Contains ys x) (sym (take_more xs i d l)) (Contains-append_left (take i xs) (get_or xs i d ∷ []) x h)

pub take_here : (xs : List ℕ) (i d x : ℕ) → i < length xs → x ≡ get_or xs i d → Contains (take (i + 1) xs) x
take_here xs i d x l e = subst (λ ys. Contains ys x) (sym (take_more xs i d l)) (subst (λ y. Contains (take i xs ++ y ∷ []) x) e (Contains-push (take i xs) x))

-- one more of the states of a list is found where it is live
pub finds_next : (xs : List ℕ) (live : List Bool) (i d x : ℕ) (a b c : SearchData) → i < length xs → x ≡ get_or xs i d
    → Finds (λ p. Contains (take i xs) p × (at live p ≡ true)) a b → Finds (λ p. (p ≡ x) × (at live x ≡ true)) b c
    → Finds (λ p. Contains (take (i + 1) xs) p × (at live p ≡ true)) a c
finds_next xs live i d x a b c l is f g =
    finds_more (λ p. Contains (take i xs) p × (at live p ≡ true)) (λ p. (p ≡ x) × (at live x ≡ true)) (λ p. Contains (take (i + 1) xs) p × (at live p ≡ true)) a b c f g
    (λ q r. cut q r (take_cases xs i d q l r.0))
    (λ q p. (take_before xs i d q l p.0, p.1))
    (λ q r. (take_here xs i d q l (r.0 ∙ is), ap (at live) r.0 ∙ r.1))
  where
    cut : (q : ℕ) → Contains (take (i + 1) xs) q × (at live q ≡ true) → Contains (take i xs) q ⊎ (q ≡ get_or xs i d)
        → (Contains (take i xs) q × (at live q ≡ true)) ⊎ ((q ≡ x) × (at live x ≡ true))
    cut q r (inl c) = inl (c, r.1)
    cut q r (inr e) = let same : q ≡ x = e ∙ sym is in inr (same, ap (at live) (sym same) ∙ r.1)

module _ (found : List Bool) (queue : List ℕ) (q : ℕ) (within : q < length found) (new : at found q ≡ false) where
  at_set : (p : ℕ) → at found p ≡ true → at (set found q true) p ≡ true
  at_set p h = go (nat_eq p q) refl
    where
      go : (b : Bool) → nat_eq p q ≡ b → at (set found q true) p ≡ true
      go true e = ap (at (set found q true)) (eqb-true p q e) ∙ get_or-set_same found q true false within
      go false e = get_or-set_other found q p true false (eqb-false p q e) ∙ h

  set_cases : (p : ℕ) → at (set found q true) p ≡ true → (at found p ≡ true) ⊎ (p ≡ q)
  set_cases p h = go (nat_eq p q) refl
    where
      go : (b : Bool) → nat_eq p q ≡ b → (at found p ≡ true) ⊎ (p ≡ q)
      go true e = inr (eqb-true p q e)
      go false e = inl (sym (get_or-set_other found q p true false (eqb-false p q e)) ∙ h)

  pub search_push : IsSearch found queue → IsSearch (set found q true) (queue ++ q ∷ [])
  search_push s = record {
    states = subst (λ n. AreStates n (queue ++ q ∷ [])) (sym (length-set found q true)) (All-push (λ p. p < length found) queue q s.states within);
    counted = omega (arith, length_push queue q, trues_set found q within new, s.counted);
    has = λ p h. which p (set_cases p h);
    marked = All-push (λ p. at (set found q true) p ≡ true) queue q (All-weaker (λ p. at found p ≡ true) (λ p. at (set found q true) p ≡ true) at_set queue s.marked) (get_or-set_same found q true false within);
  }
    where
      which : (p : ℕ) → (at found p ≡ true) ⊎ (p ≡ q) → Contains (queue ++ q ∷ []) p
      which p (inl h) = Contains-append_left queue (q ∷ []) p (s.has p h)
      which p (inr e) = subst (λ r. Contains (queue ++ r ∷ []) p) e (Contains-push queue p)

pub search_none : (found : List Bool) (count : ℕ) → found ≡ replicate count false → IsSearch found []
search_none found count is = record {
  states = All-nil (λ q. q < length found);
  counted = sym (ap trues is ∙ trues_none count);
  has = λ q h. let none : at found q ≡ false = ap (λ l. at l q) is ∙ none_true count q in absurd (cc);
  marked = All-nil (λ q. at found q ≡ true);
}

-- a search that goes on from the states that it found
pub record Spread (Start : ℕ → Type 0) (Next : ℕ → ℕ → Type 0) (Reach : ℕ → Type 0) (n done : ℕ) (s : SearchData) : Type 0 where
  pub count : length s.found ≡ n
  pub sound : (q : ℕ) → at s.found q ≡ true → Reach q
  pub started : (q : ℕ) → Start q → at s.found q ≡ true
  pub closed : (k : ℕ) → k < done → (q : ℕ) → Next (get_or s.queue k 0) q → at s.found q ≡ true

module _ (Start : ℕ → Type 0) (Next : ℕ → ℕ → Type 0) (Reach : ℕ → Type 0) (n : ℕ) where
  pub spread_begin : (a b : SearchData) → length a.found ≡ n → ((q : ℕ) → at a.found q ≡ false) → Finds Start a b → ((q : ℕ) → Start q → Reach q) → Spread Start Next Reach n 0 b
  spread_begin a b count none f starts = record {
    count = f.count ∙ count;
    sound = λ q h. which q (f.sound q h);
    started = f.complete;
    closed = λ k l q h. absurd (omega arith);
  }
    where
      which : (q : ℕ) → (at a.found q ≡ true) ⊎ Start q → Reach q
      which q (inl h) = let no : at a.found q ≡ false = none q in absurd (cc)
      which q (inr s) = starts q s

  pub spread_step : (done : ℕ) (a b : SearchData) → IsSearch a.found a.queue → done < length a.queue → Finds (Next (get_or a.queue done 0)) a b → ((p q : ℕ) → Reach p → Next p q → Reach q)
      → Spread Start Next Reach n done a → Spread Start Next Reach n (done + 1) b
  spread_step done a b search within f more s = record {
    count = f.count ∙ s.count;
    sound = λ q h. which q (f.sound q h);
    started = λ q h. f.kept q (s.started q h);
    closed = λ k l q h.
        let next : Next (get_or a.queue k 0) q = subst (λ p. Next p q) (f.same k 0 (omega (arith, l, within))) h in
        here k l q next (nat_eq k done) refl;
  }
    where
      which : (q : ℕ) → (at a.found q ≡ true) ⊎ Next (get_or a.queue done 0) q → Reach q
      which q (inl h) = s.sound q h
      which q (inr h) = more (get_or a.queue done 0) q (s.sound (get_or a.queue done 0) (search.marked done 0 within)) h

      here : (k : ℕ) → k < done + 1 → (q : ℕ) → Next (get_or a.queue k 0) q → (t : Bool) → nat_eq k done ≡ t → at b.found q ≡ true
      here k l q h true e = f.complete q (subst (λ i. Next (get_or a.queue i 0) q) (eqb-true k done e) h)
      here k l q h false e = let other : k ≡ done → ⊥ = eqb-false k done e in f.kept q (s.closed k (omega arith) q h)

  pub spread_end : (done : ℕ) (s : SearchData) → IsSearch s.found s.queue → length s.queue ≤ done → Spread Start Next Reach n done s → (p q : ℕ) → at s.found p ≡ true → Next p q → at s.found q ≡ true
  spread_end done s search all h p q found next =
      let c = search.has p found in
      h.closed c.0 (omega (arith, c.1, all)) q (subst (λ r. Next r q) (sym (get_or_default s.queue c.0 0 p c.1 ∙ c.2)) next)

pub search_few : (found : List Bool) (queue : List ℕ) → IsSearch found queue → length queue ≤ length found
search_few found queue s = omega (arith, s.counted, trues_low found)
