-- Edges that give way can be left out.
use Rattle.std.proofs.Common.{◌≡◌, ℕ, zero, suc, ◌+◌, ◌-◌, ◌<◌, ◌≤◌, ◌⊎◌, inl, inr, Bool, true, false, cond, ◌&&◌, ◌||◌, List, [], ◌∷◌, ◌++◌, length, get_or, map, max, take, refl, sym, ap, ◌∙◌, subst, arith}
use Rattle.std.specs.Prelude.{nat_eq}
use Rattle.std.specs.Int.{bit_at}
use Rattle.std.specs.List.{All, Contains, filter}
use Rattle.std.proofs.lemmas.Bool.{and_parts}
use Rattle.std.proofs.lemmas.List.{take_all, take_more}
use Rattle.std.proofs.lemmas.List.Elements.{All-contains, All-nil, All-push, All-weaker, Contains-append_left, Contains-append_right, Contains-get_or, Contains-push}
use Rattle.word_core.specs.declared.cubes.Cube.{Cube}
use Rattle.action_groups.specs.declared.orders.Order.{Order}
use Rattle.action_groups.specs.declared.ways.Way.{Way}
use Rattle.action_groups.specs.Numbers.{step_number, step_of, steps_number}
use Rattle.action_groups.specs.Tests.{allowing, allows_from, signal_of}
use Rattle.action_groups.specs.Thinned.{AllowSame, GivesWay, cares_for_none, cares_not}
use Rattle.action_groups.proofs.Steps.{number_rises}

-- what a filter keeps
kept_in : (b : Bool) (x : Way) (r : List Way) (w : Way) → Contains r w → Contains (cond b (x ∷ r) r) w
kept_in true x r w c = Contains-append_right (x ∷ []) r w c
kept_in false x r w c = c

filtered_at : (f : Way → Bool) (xs : List Way) (w : Way) (k : ℕ) → k < length xs → get_or xs k w ≡ w → f w ≡ true → Contains (filter f xs) w
filtered_at f [] w k lt e t = absurd (omega arith)
filtered_at f (x ∷ xs) w zero lt e t =
    subst (λ b. Contains (cond b (x ∷ filter f xs) (filter f xs)) w) (sym (ap f e ∙ t)) (0, omega arith, e)
filtered_at f (x ∷ xs) w (suc k) lt e t = kept_in (f x) x (filter f xs) w (filtered_at f xs w k (omega (arith, lt)) e t)

filtered : (f : Way → Bool) (xs : List Way) (w : Way) → Contains xs w → f w ≡ true → Contains (filter f xs) w
filtered f xs w c t = filtered_at f xs w c.0 c.1 c.2 t

unfiltered : (f : Way → Bool) (xs : List Way) (w : Way) → Contains (filter f xs) w → Contains xs w × (f w ≡ true)
unfiltered f [] w c = (let lt : c.0 < 0 = c.1 in absurd (omega arith))
unfiltered f (x ∷ xs) w c = by (unfiltered f xs w) (f x) refl c
  where
    later : Contains xs w × (f w ≡ true) → Contains (x ∷ xs) w × (f w ≡ true)
    later r = (Contains-append_right (x ∷ []) xs w r.0, r.1)

    at : (Contains (filter f xs) w → Contains xs w × (f w ≡ true)) → f x ≡ true → (k : ℕ) → k < suc (length (filter f xs)) → get_or (x ∷ filter f xs) k w ≡ w → Contains (x ∷ xs) w × (f w ≡ true)
    at rest t zero lt e = ((0, omega arith, e), ap f (sym e) ∙ t)
    at rest t (suc k) lt e = later (rest (k, omega (arith, lt), e))

    by : (Contains (filter f xs) w → Contains xs w × (f w ≡ true)) → (b : Bool) → f x ≡ b → Contains (cond b (x ∷ filter f xs) (filter f xs)) w → Contains (x ∷ xs) w × (f w ≡ true)
    by rest true t c = at rest t c.0 c.1 c.2
    by rest false t c = later (rest c)

-- the number of a list is the greatest of its edges' numbers
counted_at : (ws : List Way) (w : Way) (q p k : ℕ) → k < length ws → get_or ws k w ≡ w → step_number (step_of w) q p ≤ steps_number (map step_of ws) q p
counted_at [] w q p k lt e = absurd (omega arith)
counted_at (x ∷ xs) w q p zero lt e =
    subst (λ (y : Way). step_number (step_of y) q p ≤ max (step_number (step_of x) q p) (steps_number (map step_of xs) q p)) e (left (step_number (step_of x) q p) (steps_number (map step_of xs) q p))
  where
    left : (a b : ℕ) → a ≤ max a b
    left a b = omega arith
counted_at (x ∷ xs) w q p (suc k) lt e = right (step_number (step_of x) q p) (steps_number (map step_of xs) q p) (step_number (step_of w) q p) (counted_at xs w q p k (omega (arith, lt)) e)
  where
    right : (a b c : ℕ) → c ≤ b → c ≤ max a b
    right a b c h = omega arith

counted : (ws : List Way) (w : Way) (q p : ℕ) → Contains ws w → step_number (step_of w) q p ≤ steps_number (map step_of ws) q p
counted ws w q p c = counted_at ws w q p c.0 c.1 c.2

at_most : (ws : List Way) (q p m : ℕ) → ((w : Way) → Contains ws w → step_number (step_of w) q p ≤ m) → steps_number (map step_of ws) q p ≤ m
at_most [] q p m h = omega arith
at_most (x ∷ xs) q p m h =
    both (step_number (step_of x) q p) (steps_number (map step_of xs) q p) (h x (0, omega arith, refl)) (at_most xs q p m (λ w c. h w (Contains-append_right (x ∷ []) xs w c)))
  where
    both : (a b : ℕ) → a ≤ m → b ≤ m → max a b ≤ m
    both a b h k = omega arith

-- lists of the same edges do the same
pub same_edges : (order : Order) (place : ℕ) (ways others : List Way) → All (Contains others) ways → All (Contains ways) others → AllowSame order place ways others
same_edges order place ways others within each bits q p = both _ _ (below ways others within) (below others ways each)
  where
    allowed : Way → Bool
    allowed w = allows_from order (order.inputs + order.outputs - place) place bits w.edge.cube

    both : (a b : ℕ) → a ≤ b → b ≤ a → a ≡ b
    both a b l k = omega arith

    below : (xs ys : List Way) → All (Contains ys) xs → steps_number (map step_of (allowing order place bits xs)) q p ≤ steps_number (map step_of (allowing order place bits ys)) q p
    below xs ys h =
        at_most (allowing order place bits xs) q p _ (λ w c.
        let f = unfiltered allowed xs w c in
        counted (allowing order place bits ys) w q p (filtered allowed ys w (All-contains (Contains ys) xs w h f.0) f.1))

-- a cube that cares for no signal allows each value
allows_all : (order : Order) (n place bits : ℕ) (c : Cube) → cares_not order n place c ≡ true → allows_from order n place bits c ≡ true
allows_all order zero place bits c h = refl
allows_all order (suc n) place bits c h =
    let parts = and_parts (nat_eq (bit_at c.care (signal_of order place)) 0) (cares_not order n (suc place) c) h in
    ap (λ b. (b || nat_eq (bit_at c.want (signal_of order place)) (bit_at bits place)) && allows_from order n (suc place) bits c) parts.0
    ∙ allows_all order n (suc place) bits c parts.1

pub cares_more : (order : Order) (k : ℕ) (c : Cube) → k < order.inputs + order.outputs
    → cares_for_none order k c ≡ (nat_eq (bit_at c.care (signal_of order k)) 0 && cares_for_none order (k + 1) c)
cares_more order k c lt =
    ap (λ n. cares_not order n k c) more ∙ ap (λ n. nat_eq (bit_at c.care (signal_of order k)) 0 && cares_not order (order.inputs + order.outputs - (k + 1)) n c) next
  where
    more : order.inputs + order.outputs - k ≡ suc (order.inputs + order.outputs - (k + 1))
    more = omega arith

    next : suc k ≡ k + 1
    next = omega arith

pub cares_end : (order : Order) (k : ℕ) (c : Cube) → order.inputs + order.outputs ≤ k → cares_for_none order k c ≡ true
cares_end order k c le = ap (λ n. cares_not order n k c) none
  where
    none : order.inputs + order.outputs - k ≡ 0
    none = omega arith

module _ (order : Order) (place : ℕ) (ways : List Way) where
  -- an edge is kept, or gives way to one of the list
  abbrev pub Stays : List Way → Way → Type 0
  Stays kept w = Contains kept w ⊎ ((v : Way) × Contains ways v × GivesWay order place w v)

  -- of the first edges those that don't give way
  pub record AreThinned (upto : ℕ) (kept : List Way) : Type 0 where
    pub within : All (Contains ways) kept
    pub each : All (Stays kept) (take upto ways)

  pub thin_start : AreThinned 0 []
  thin_start = record { within = All-nil (Contains ways); each = All-nil (Stays []) }

  pub thin_keep : (i : ℕ) (kept now : List Way) (d : Way) → i < length ways → now ≡ kept ++ get_or ways i d ∷ [] → AreThinned i kept → AreThinned (i + 1) now
  thin_keep i kept now d lt e h = record {
    within = subst (All (Contains ways)) (sym e) (All-push (Contains ways) kept (get_or ways i d) h.within (Contains-get_or ways i d lt));
    each = subst (All (Stays now)) (sym (take_more ways i d lt))
        (All-push (Stays now) (take i ways) (get_or ways i d) (All-weaker (Stays kept) (Stays now) wider (take i ways) h.each) (inl (subst (λ l. Contains l (get_or ways i d)) (sym e) (Contains-push kept (get_or ways i d)))));
  }
    where
      wider : (w : Way) → Stays kept w → Stays now w
      wider w (inl c) = inl (subst (λ l. Contains l w) (sym e) (Contains-append_left kept (get_or ways i d ∷ []) w c))
      wider w (inr g) = inr g

  pub thin_leave : (i : ℕ) (kept : List Way) (d v : Way) → i < length ways → Contains ways v → GivesWay order place (get_or ways i d) v → AreThinned i kept → AreThinned (i + 1) kept
  thin_leave i kept d v lt c g h = record {
    within = h.within;
    each = subst (All (Stays kept)) (sym (take_more ways i d lt)) (All-push (Stays kept) (take i ways) (get_or ways i d) h.each (inr (v, c, g)));
  }

  pub thin_all : (i : ℕ) (kept : List Way) → length ways ≤ i → AreThinned i kept → AllowSame order place kept ways
  thin_all i kept le h bits q p = both _ _ below above
    where
      full : All (Stays kept) ways
      full = subst (All (Stays kept)) (take_all i ways le) h.each

      allowed : Way → Bool
      allowed w = allows_from order (order.inputs + order.outputs - place) place bits w.edge.cube

      both : (a b : ℕ) → a ≤ b → b ≤ a → a ≡ b
      both a b l k = omega arith

      through : (a b c : ℕ) → a ≤ b → b ≤ c → a ≤ c
      through a b c l k = omega arith

      leader_stays : (v : Way) → cares_for_none order place v.edge.cube ≡ true → Stays kept v → Contains kept v
      leader_stays v t (inl c) = c
      leader_stays v t (inr g) = (let f : cares_for_none order place v.edge.cube ≡ false = g.2.cares in absurd (cc))

      counts : (w : Way) → allowed w ≡ true → Stays kept w → step_number (step_of w) q p ≤ steps_number (map step_of (allowing order place bits kept)) q p
      counts w t (inl c) = counted (allowing order place bits kept) w q p (filtered allowed kept w c t)
      counts w t (inr g) =
          let v : Way = g.0 in
          let r = g.2.replaced in
          let stays : Contains kept v = leader_stays v r.decided (All-contains (Stays kept) ways v full g.1) in
          through (step_number (step_of w) q p) (step_number (step_of v) q p) (steps_number (map step_of (allowing order place bits kept)) q p)
          (number_rises (step_of w) (step_of v) q p (sym r.from) (sym r.next) r.marked)
          (counted (allowing order place bits kept) v q p (filtered allowed kept v stays (allows_all order (order.inputs + order.outputs - place) place bits v.edge.cube r.decided)))

      below : steps_number (map step_of (allowing order place bits kept)) q p ≤ steps_number (map step_of (allowing order place bits ways)) q p
      below =
          at_most (allowing order place bits kept) q p _ (λ w c.
          let f = unfiltered allowed kept w c in
          counted (allowing order place bits ways) w q p (filtered allowed ways w (All-contains (Contains ways) kept w h.within f.0) f.1))

      above : steps_number (map step_of (allowing order place bits ways)) q p ≤ steps_number (map step_of (allowing order place bits kept)) q p
      above =
          at_most (allowing order place bits ways) q p _ (λ w c.
          let f = unfiltered allowed ways w c in
          counts w f.1 (All-contains (Stays kept) ways w full f.0))
