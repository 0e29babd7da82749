-- Runs of a tableau as rows of covers, and what they say of a lasso.
use Rattle.std.proofs.Common.{◌≡◌, ℕ, zero, suc, ◌+◌, ◌-◌, ◌^◌, ◌<◌, ◌≤◌, ◌⊎◌, inl, inr, Bool, true, false, not, ◌&&◌, ◌||◌, cond, nat_eq, nat_lt, eqb, List, [], ◌∷◌, ◌++◌, length, get_or, drop, Some, refl, sym, ap, ◌∙◌, subst, arith}
use Rattle.std.specs.Int.{bit_at}
use Rattle.std.specs.List.{Contains, filter, flat_map, list_any, position_or_len, range_with_len}
use Rattle.std.proofs.lemmas.Bool.{and_from, both_ways, eq-eqb, eqb-true, eqb-false, leb-false, lt-leb, ltb-true, ltb-false, not-true}
use Rattle.std.proofs.lemmas.List.{get_or-drop, get_or_past, get_or-map, length-drop}
use Rattle.ltl_form.specs.declared.normals.Node.{Node}
use Rattle.ltl_form.specs.declared.normals.Node.TheVariants.{True, False, Lit, And, Or, Next, Until, Release}
use Rattle.ltl_form.specs.Normal.{IsNodeAt, IsNormal}
use Rattle.ltl_form.specs.Meaning.{release_within, tree_holds, until_within}
use Rattle.ltl_form.specs.NodeTrees.{formula_at}
use Rattle.ltl_form.specs.Tree.{literal}
use Rattle.word_core.specs.declared.automata.Edge.{Edge}
use Rattle.word_core.specs.Automaton.{AutomatonData, edges_at}
use Rattle.word_core.specs.Cube.{holds}
use Rattle.word_core.specs.Lasso.{LassoData, bits_at, size}
use Rattle.word_core.specs.Run.{Accepts, IsRunFrom, count}
use Rattle.cover_sets.specs.Covers.{CoverSets, Row, consistent, contrary, negations, no_demand, node_at, opposites, pairs_with, products, rows_of, set_row, times, with_members}
use Rattle.cover_sets.specs.Numbers.{has}
use Rattle.cover_sets.proofs.FormulaRows.{consistent_none}
use Rattle.cover_sets.proofs.Members.{IsIn}
use Rattle.cover_sets.proofs.ReducedLists.{reduced_in}
use Rattle.tableau_nba.specs.declared.cubes.Literal.{Literal}
use Rattle.tableau_nba.specs.Acceptance.{AcceptsByTruth, AcceptsTruthOf}
use Rattle.tableau_nba.specs.Walks.{Spot, all_spots, automaton_in, cube_in, edge_in, edges_in, first_spot, found, is_marked, is_until, list_in, literals_in, met, risen, same_spot, state_in, target, untils_in, walk_data}
use Rattle.tableau_nba.proofs.CubeTruth.{cube_meets, cube_met, literal_by, literal_of_node, meets_literal, node_of_literal}
use Rattle.tableau_nba.proofs.Found.{Extends, Is, Led, contained_is, edge_from, edge_to, is_contained, leads_to, walk_found}
use Rattle.tableau_nba.proofs.Lassos.{bits_pos, letters, pos, prefix_letters, until_first, until_step}
use Rattle.tableau_nba.proofs.Meanings.{Good, Meets, PutsOff, has_only, has_self, holds_node, holds_now, lit_within, meets_and, meets_false, meets_lit, meets_next, meets_or, meets_release, meets_until, set_good, set_meets, times_some}

in_is : (xs : List CoverSets) (c : CoverSets) → IsIn c xs → Is c xs
in_is [] c m = m
in_is (x ∷ xs) c (inl e) = inl e
in_is (x ∷ xs) c (inr m) = inr (in_is xs c m)

is_in : (xs : List CoverSets) (c : CoverSets) → Is c xs → IsIn c xs
is_in [] c m = m
is_in (x ∷ xs) c (inl e) = inl e
is_in (x ∷ xs) c (inr m) = inr (is_in xs c m)

-- ---- untils by level

filtered_is : (p : ℕ → Bool) (s m n : ℕ) → s ≤ n → n < s + m → p n ≡ true → Is n (filter p (range_with_len s m))
filtered_is p s zero n l k t = absurd (omega arith)
filtered_is p s (suc m) n l k t = go (eqb n s) refl (p s) refl (λ a b. filtered_is p (s + 1) m n a b t)
  where
    go : (b : Bool) → eqb n s ≡ b → (c : Bool) → p s ≡ c → (s + 1 ≤ n → n < s + 1 + m → Is n (filter p (range_with_len (s + 1) m)))
        → Is n (cond c (s ∷ filter p (range_with_len (s + 1) m)) (filter p (range_with_len (s + 1) m)))
    go true e true f rec = inl (sym (eqb-true n s e))
    go true e false f rec = absurd (both_ways (p n) (subst (λ j. p j ≡ false) (sym (eqb-true n s e)) f) t)
    go false e true f rec = let ne = eqb-false n s e in inr (rec (omega arith) (omega arith))
    go false e false f rec = let ne = eqb-false n s e in rec (omega arith) (omega arith)

filtered_has : (p : ℕ → Bool) (xs : List ℕ) (n : ℕ) → Is n (filter p xs) → p n ≡ true
filtered_has p [] n m = absurd m
filtered_has p (x ∷ xs) n m = go (p x) refl m (λ k. filtered_has p xs n k)
  where
    go : (b : Bool) → p x ≡ b → Is n (cond b (x ∷ filter p xs) (filter p xs)) → (Is n (filter p xs) → p n ≡ true) → p n ≡ true
    go true e (inl i) rec = subst (λ j. p j ≡ true) i e
    go true e (inr k) rec = rec k
    go false e k rec = rec k

until_shape : (node : Node) → is_until node ≡ true → (f : ℕ) × (g : ℕ) × (node ≡ Until f g)
until_shape (Until f g) h = (f, g, refl)
until_shape True h = absurd (both_ways false refl h)
until_shape False h = absurd (both_ways false refl h)
until_shape (Lit x p) h = absurd (both_ways false refl h)
until_shape (And f g) h = absurd (both_ways false refl h)
until_shape (Or f g) h = absurd (both_ways false refl h)
until_shape (Next f) h = absurd (both_ways false refl h)
until_shape (Release f g) h = absurd (both_ways false refl h)

until_place : (nodes : List Node) (n f g : ℕ) → n < length nodes → node_at nodes n ≡ Until f g → (j : ℕ) × (j < length (untils_in nodes)) × (get_or (untils_in nodes) j n ≡ n)
until_place nodes n f g l e = contained_is (untils_in nodes) n (filtered_is (λ n. is_until (node_at nodes n)) 0 (length nodes) n (omega arith) (omega arith) (ap is_until e))

until_at_place : (nodes : List Node) (j d : ℕ) → j < length (untils_in nodes) → (f : ℕ) × (g : ℕ) × (node_at nodes (get_or (untils_in nodes) j d) ≡ Until f g)
until_at_place nodes j d l = until_shape (node_at nodes (get_or (untils_in nodes) j d)) (filtered_has (λ n. is_until (node_at nodes n)) (range_with_len 0 (length nodes)) (get_or (untils_in nodes) j d) (is_at (untils_in nodes) j d l))
  where
    is_at : (xs : List ℕ) (j d : ℕ) → j < length xs → Is (get_or xs j d) xs
    is_at [] j d l = absurd (omega arith)
    is_at (x ∷ xs) zero d l = inl refl
    is_at (x ∷ xs) (suc j) d l = inr (is_at xs j d (omega arith))

until_within_nodes : (nodes : List Node) (n f g : ℕ) → node_at nodes n ≡ Until f g → n < length nodes
until_within_nodes nodes n f g h = go (nat_lt n (length nodes)) refl
  where
    go : (b : Bool) → nat_lt n (length nodes) ≡ b → n < length nodes
    go true e = ltb-true n (length nodes) e
    go false e = let k : node_at nodes n ≡ True = get_or_past nodes n True (ltb-false n (length nodes) e) in absurd cc

-- an until that is put off stops the level
met_stops : (us : List ℕ) (j n postponed : ℕ) → j < length us → get_or us j n ≡ n → has postponed n ≡ true → met us postponed ≤ j
met_stops [] j n postponed l e h = absurd (omega arith)
met_stops (u ∷ us) zero n postponed l e h = go (has postponed u) (subst (λ x. has postponed x ≡ true) (sym e) h)
  where
    go : (b : Bool) → b ≡ true → cond b 0 (suc (met us postponed)) ≤ 0
    go true t = omega arith
    go false t = absurd (both_ways false refl t)
met_stops (u ∷ us) (suc j) n postponed l e h = go (has postponed u) (met_stops us j n postponed (omega arith) e h)
  where
    go : (b : Bool) → met us postponed ≤ j → cond b 0 (suc (met us postponed)) ≤ suc j
    go true r = omega arith
    go false r = omega arith

risen_stops : (us : List ℕ) (level j n : ℕ) (c : CoverSets) → level ≤ j → j < length us → get_or us j n ≡ n → has c.postponed n ≡ true → risen us level c ≤ j
risen_stops us level j n c l k e h =
    let s : level + (j - level) ≡ j = omega arith in
    let r : met (drop level us) c.postponed ≤ j - level =
    met_stops (drop level us) (j - level) n c.postponed (omega (arith, length-drop level us)) (get_or-drop level us (j - level) n ∙ ap (λ i. get_or us i n) s ∙ e) h in
    omega arith

-- where the level stops an until is put off
met_stop : (us : List ℕ) (postponed d : ℕ) → met us postponed < length us → has postponed (get_or us (met us postponed) d) ≡ true
met_stop [] postponed d l = absurd (omega arith)
met_stop (u ∷ us) postponed d l = go (has postponed u) refl l (λ k. met_stop us postponed d k)
  where
    go : (b : Bool) → has postponed u ≡ b → cond b 0 (suc (met us postponed)) < suc (length us) → (met us postponed < length us → has postponed (get_or us (met us postponed) d) ≡ true)
        → has postponed (get_or (u ∷ us) (cond b 0 (suc (met us postponed))) d) ≡ true
    go true e k rec = e
    go false e k rec = rec (omega arith)

risen_stop : (us : List ℕ) (level d : ℕ) (c : CoverSets) → risen us level c < length us → has c.postponed (get_or us (risen us level c) d) ≡ true
risen_stop us level d c l =
    ap (has c.postponed) (sym (get_or-drop level us (met (drop level us) c.postponed) d)) ∙ met_stop (drop level us) c.postponed d (omega (arith, length-drop level us))

-- ---- consistent covers of sets

any_flat : (p : ℕ × ℕ → Bool) (f : ℕ → List (ℕ × ℕ)) (s m n : ℕ) → s ≤ n → n < s + m → list_any p (f n) ≡ true → list_any p (flat_map f (range_with_len s m)) ≡ true
any_flat p f s zero n l k h = absurd (omega arith)
any_flat p f s (suc m) n l k h = go (eqb n s) refl (λ a b. any_flat p f (s + 1) m n a b h)
  where
    front : (xs ys : List (ℕ × ℕ)) → list_any p xs ≡ true → list_any p (xs ++ ys) ≡ true
    front [] ys t = absurd (both_ways false refl t)
    front (x ∷ xs) ys t = here (p x) t (λ q. front xs ys q)
      where
        here : (b : Bool) → (b || list_any p xs) ≡ true → (list_any p xs ≡ true → list_any p (xs ++ ys) ≡ true) → (b || list_any p (xs ++ ys)) ≡ true
        here true t rec = refl
        here false t rec = rec t

    behind : (xs ys : List (ℕ × ℕ)) → list_any p ys ≡ true → list_any p (xs ++ ys) ≡ true
    behind [] ys t = t
    behind (x ∷ xs) ys t = here (p x) (behind xs ys t)
      where
        here : (b : Bool) → list_any p (xs ++ ys) ≡ true → (b || list_any p (xs ++ ys)) ≡ true
        here true t = refl
        here false t = t

    go : (b : Bool) → eqb n s ≡ b → (s + 1 ≤ n → n < s + 1 + m → list_any p (flat_map f (range_with_len (s + 1) m)) ≡ true) → list_any p (f s ++ flat_map f (range_with_len (s + 1) m)) ≡ true
    go true e rec = front (f s) _ (subst (λ j. list_any p (f j) ≡ true) (eqb-true n s e) h)
    go false e rec = let ne = eqb-false n s e in behind (f s) _ (rec (omega arith) (omega arith))

any_paired : (p : ℕ × ℕ → Bool) (n m : ℕ) (ms : List ℕ) → Is m ms → p (n, m) ≡ true → list_any p (pairs_with n ms) ≡ true
any_paired p n m [] i h = absurd i
any_paired p n m (x ∷ xs) (inl e) h = ap (λ b. b || list_any p (pairs_with n xs)) (subst (λ y. p (n, y) ≡ true) (sym e) h)
any_paired p n m (x ∷ xs) (inr i) h = go (p (n, x)) (any_paired p n m xs i h)
  where
    go : (b : Bool) → list_any p (pairs_with n xs) ≡ true → (b || list_any p (pairs_with n xs)) ≡ true
    go true t = refl
    go false t = t

-- two literals of a consistent set don't contradict each other
consistent_apart : (nodes : List Node) (set : ℕ) (l k : Literal) → consistent (opposites nodes) set ≡ true → Is l (literals_in nodes) → Is k (literals_in nodes) → has set l.number ≡ true → has set k.number ≡ true
    → l.positive ≡ true → k.positive ≡ false → l.signal ≡ k.signal → ⊥
consistent_apart nodes set l k c m n a b p q s =
    let e : node_at nodes l.number ≡ Lit l.signal true = node_of_literal nodes l m ∙ ap (Lit l.signal) p in
    let f : node_at nodes k.number ≡ Lit l.signal false = node_of_literal nodes k n ∙ ap (Lit k.signal) q ∙ ap (λ x. Lit x false) (sym s) in
    let g : contrary (node_at nodes l.number) (node_at nodes k.number) ≡ true = ap (λ x. contrary x (node_at nodes k.number)) e ∙ ap (contrary (Lit l.signal true)) f ∙ eq-eqb l.signal l.signal refl in
    let t : list_any (λ r. has set r.0 && has set r.1) (opposites nodes) ≡ true =
    any_flat (λ r. has set r.0 && has set r.1) (λ n. pairs_with n (negations nodes (node_at nodes n))) 0 (length nodes) l.number (omega arith) (omega (arith, lit_within nodes l.number l.signal true e))
    (any_paired (λ r. has set r.0 && has set r.1) l.number k.number (negations nodes (node_at nodes l.number))
    (filtered_is (λ m. contrary (node_at nodes l.number) (node_at nodes m)) 0 (length nodes) k.number (omega arith) (omega (arith, lit_within nodes k.number l.signal false f)) g) (and_from _ _ a b)) in
    both_ways _ (not-true _ c) t

module _ (nodes : List Node) (root : ℕ) (normal : IsNormal nodes root) (w : LassoData) (some : 0 < length w.cycle) where
  members_consistent : (set k : ℕ) (rest : List Row) (start : Row) (end : List CoverSets) → ((ss : List CoverSets) → start ≡ Some ss → (c : CoverSets) → IsIn c ss → consistent (opposites nodes) c.literals ≡ true)
      → with_members (opposites nodes) set k rest start ≡ Some end → (c : CoverSets) → IsIn c end → consistent (opposites nodes) c.literals ≡ true
  members_consistent set k [] start end p h c m = p end h c m
  members_consistent set k (row ∷ rest) start end p h c m = go (has set k) h (λ s q t. members_consistent set (k + 1) rest s end q t c m)
    where
      timed : (ss : List CoverSets) → times (opposites nodes) start row ≡ Some ss → (c : CoverSets) → IsIn c ss → consistent (opposites nodes) c.literals ≡ true
      timed ss e c m =
          let t = times_some nodes root normal w some start row ss e in
          (reduced_in (opposites nodes) (products t.0 t.1) c (subst (λ xs. IsIn c xs) (sym t.4) m)).1

      go : (b : Bool) → with_members (opposites nodes) set (k + 1) rest (cond b (times (opposites nodes) start row) start) ≡ Some end
          → ((s : Row) → ((ss : List CoverSets) → s ≡ Some ss → (c : CoverSets) → IsIn c ss → consistent (opposites nodes) c.literals ≡ true) → with_members (opposites nodes) set (k + 1) rest s ≡ Some end
          → consistent (opposites nodes) c.literals ≡ true) → consistent (opposites nodes) c.literals ≡ true
      go true q rec = rec (times (opposites nodes) start row) timed q
      go false q rec = rec start p q

  set_consistent : (set : ℕ) (list : List CoverSets) → set_row (opposites nodes) (rows_of nodes) set ≡ Some list → (c : CoverSets) → IsIn c list → consistent (opposites nodes) c.literals ≡ true
  unfolding set_row
  set_consistent set list h c m = members_consistent set 0 (rows_of nodes) (Some (no_demand ∷ [])) list first h c m
    where
      alone : (c : CoverSets) → IsIn c (no_demand ∷ []) → consistent (opposites nodes) c.literals ≡ true
      alone c (inl e) = subst (λ (x : CoverSets). consistent (opposites nodes) x.literals ≡ true) e (consistent_none (opposites nodes))
      alone c (inr m) = absurd m

      first : (ss : List CoverSets) → Some (no_demand ∷ []) ≡ Some ss → (c : CoverSets) → IsIn c ss → consistent (opposites nodes) c.literals ≡ true
      first ss e c m = let i : no_demand ∷ [] ≡ ss = cc in alone c (subst (λ xs. IsIn c xs) (sym i) m)

  -- ---- runs as rows of covers

  abbrev pub Taken : Spot → CoverSets → Type 0
  Taken s c = (list : List CoverSets) × (set_row (opposites nodes) (rows_of nodes) s.set ≡ Some list) × IsIn c list

  abbrev pub LiteralsHold : CoverSets → ℕ → Type 0
  LiteralsHold c i = (n x : ℕ) (p : Bool) → node_at nodes n ≡ Lit x p → has c.literals n ≡ true → holds_now nodes root normal w some n i ≡ true

  abbrev pub to_next : Spot → CoverSets → Spot
  to_next s c = target (untils_in nodes) s.level c

  abbrev pub mark_of : Spot → CoverSets → ℕ
  mark_of s c = cond (is_marked (untils_in nodes) s.level c) 1 0

  -- m letters from letter i on, from a state, with so many marks
  abbrev pub CoverRun : ℕ → ℕ → Spot → ℕ → Type 0
  CoverRun zero i s k = k ≡ 0
  CoverRun (suc m) i s k = (c : CoverSets) × Taken s c × LiteralsHold c i × (left : ℕ) × (k ≡ mark_of s c + left) × CoverRun m (suc i) (to_next s c) left

  mark_few : (s : Spot) (c : CoverSets) → mark_of s c ≤ 1
  mark_few s c = go (is_marked (untils_in nodes) s.level c)
    where
      go : (b : Bool) → cond b 1 0 ≤ 1
      go true = omega arith
      go false = omega arith

  -- what is demanded of the next letter is met by the next cover
  next_meets : (m i k : ℕ) (s : Spot) (c : CoverSets) (n : ℕ) → n < length nodes → has c.next n ≡ true → (r : CoverRun (suc m) i (to_next s c) k) → Meets nodes root normal w some r.0 n
  next_meets m i k s c n l h r = set_meets nodes root normal w some c.next r.1.0 n r.1.1 h l r.0 r.1.2

  -- ---- from runs to truth

  need : ℕ → ℕ
  need zero = 1
  need (suc b) = need b + suc (size w)

  need_some : (b : ℕ) → 1 ≤ need b
  unfolding need
  need_some zero = omega arith
  need_some (suc b) = let h = need_some b in omega arith

  abbrev Sound : ℕ → ℕ → Type 0
  Sound b n = (m i k : ℕ) (s : Spot) (r : CoverRun (suc m) i s k) → Meets nodes root normal w some r.0 n → need b ≤ k → holds_now nodes root normal w some n i ≡ true

  sound_until : (b n f g j : ℕ) → n < length nodes → node_at nodes n ≡ Until f g → Sound b f → Sound b g → j < length (untils_in nodes) → get_or (untils_in nodes) j n ≡ n
      → (m i k : ℕ) (s : Spot) (r : CoverRun (suc m) i s k) → Meets nodes root normal w some r.0 n → ((s.level ≤ j) × (need b ≤ k)) ⊎ (need b + 1 ≤ k) → holds_now nodes root normal w some n i ≡ true
  sound_until b n f g j l e sf sg lj ej zero i k s r h q = go (meets_until nodes root normal w some r.0 n f g l e h)
    where
      enough : ((s.level ≤ j) × (need b ≤ k)) ⊎ (need b + 1 ≤ k) → need b ≤ k
      enough (inl p) = p.1
      enough (inr p) = omega arith

      none : PutsOff nodes root normal w some r.0 n f → ((s.level ≤ j) × (need b ≤ k)) ⊎ (need b + 1 ≤ k) → ⊥
      none p (inl x) =
          let a = risen_stops (untils_in nodes) s.level j n r.0 x.0 lj ej p.postponed in
          let t : is_marked (untils_in nodes) s.level r.0 ≡ false = lt-leb (length (untils_in nodes)) (risen (untils_in nodes) s.level r.0) (omega arith) in
          let u : mark_of s r.0 ≡ 0 = ap (λ y. cond y 1 0) t in
          omega (arith, r.4, r.5, x.1, need_some b)
      none p (inr x) = omega (arith, r.4, r.5, x, need_some b, mark_few s r.0)

      go : Meets nodes root normal w some r.0 g ⊎ PutsOff nodes root normal w some r.0 n f → holds_now nodes root normal w some n i ≡ true
      go (inl p) = holds_node nodes root normal w some n i (Until f g) l e ∙ until_first w some (λ x. tree_holds w (formula_at nodes f) x) (λ x. tree_holds w (formula_at nodes g) x) i (sg zero i k s r p (enough q))
      go (inr p) = absurd (none p q)
  sound_until b n f g j l e sf sg lj ej (suc m) i k s r h q =
      go (meets_until nodes root normal w some r.0 n f g l e h)
      (λ p. sound_until b n f g j l e sf sg lj ej m (suc i) r.3 (to_next s r.0) r.5 (next_meets m (suc i) r.3 s r.0 n l p.next r.5) (rest p q (is_marked (untils_in nodes) s.level r.0) refl))
    where
      enough : ((s.level ≤ j) × (need b ≤ k)) ⊎ (need b + 1 ≤ k) → need b ≤ k
      enough (inl p) = p.1
      enough (inr p) = omega arith

      rest : PutsOff nodes root normal w some r.0 n f → ((s.level ≤ j) × (need b ≤ k)) ⊎ (need b + 1 ≤ k) → (t : Bool) → is_marked (untils_in nodes) s.level r.0 ≡ t
          → (((to_next s r.0).level ≤ j) × (need b ≤ r.3)) ⊎ (need b + 1 ≤ r.3)
      rest p (inl x) t y =
          let a = risen_stops (untils_in nodes) s.level j n r.0 x.0 lj ej p.postponed in
          let z : is_marked (untils_in nodes) s.level r.0 ≡ false = lt-leb (length (untils_in nodes)) (risen (untils_in nodes) s.level r.0) (omega arith) in
          let u : mark_of s r.0 ≡ 0 = ap (λ v. cond v 1 0) z in
          let v : (to_next s r.0).level ≡ risen (untils_in nodes) s.level r.0 = ap (λ v. cond v 0 (risen (untils_in nodes) s.level r.0)) z in
          inl (omega arith, omega (arith, r.4, x.1))
      rest p (inr x) true y =
          let u : mark_of s r.0 ≡ 1 = ap (λ v. cond v 1 0) y in
          let v : (to_next s r.0).level ≡ 0 = ap (λ v. cond v 0 (risen (untils_in nodes) s.level r.0)) y in
          inl (omega arith, omega (arith, r.4, x))
      rest p (inr x) false y = let u : mark_of s r.0 ≡ 0 = ap (λ v. cond v 1 0) y in inr (omega (arith, r.4, x))

      go : Meets nodes root normal w some r.0 g ⊎ PutsOff nodes root normal w some r.0 n f → (PutsOff nodes root normal w some r.0 n f → holds_now nodes root normal w some n (suc i) ≡ true) → holds_now nodes root normal w some n i ≡ true
      go (inl p) rec = holds_node nodes root normal w some n i (Until f g) l e ∙ until_first w some (λ x. tree_holds w (formula_at nodes f) x) (λ x. tree_holds w (formula_at nodes g) x) i (sg (suc m) i k s r p (enough q))
      go (inr p) rec =
          holds_node nodes root normal w some n i (Until f g) l e
          ∙ until_step w some (λ x. tree_holds w (formula_at nodes f) x) (λ x. tree_holds w (formula_at nodes g) x) i (sf (suc m) i k s r p.left (enough q))
          (sym (holds_node nodes root normal w some n (suc i) (Until f g) l e) ∙ rec p)

  sound_release : (b n f g : ℕ) → n < length nodes → node_at nodes n ≡ Release f g → Sound b f → Sound b g
      → (j m i k : ℕ) (s : Spot) (r : CoverRun (suc m) i s k) → Meets nodes root normal w some r.0 n → need b + j ≤ k
      → release_within w (λ x. tree_holds w (formula_at nodes f) x) (λ x. tree_holds w (formula_at nodes g) x) j (pos w i) ≡ true
  sound_release b n f g l e sf sg zero m i k s r h q = refl
  sound_release b n f g l e sf sg (suc j) m i k s r h q =
      let p = meets_release nodes root normal w some r.0 n f g l e h in
      and_from _ _ (sg m i k s r p.0 (omega arith)) (go p.1 (λ t. later m r.5 t (λ m' x y. sound_release b n f g l e sf sg j m' (suc i) r.3 (to_next s r.0) x y enough)))
    where
      enough : need b + j ≤ r.3
      enough = omega (arith, r.4, mark_few s r.0)

      later : (m : ℕ) → CoverRun m (suc i) (to_next s r.0) r.3 → has (r.0).next n ≡ true
          → ((m' : ℕ) (x : CoverRun (suc m') (suc i) (to_next s r.0) r.3) → Meets nodes root normal w some x.0 n → release_within w (λ x. tree_holds w (formula_at nodes f) x) (λ x. tree_holds w (formula_at nodes g) x) j (pos w (suc i)) ≡ true)
          → release_within w (λ x. tree_holds w (formula_at nodes f) x) (λ x. tree_holds w (formula_at nodes g) x) j (pos w (suc i)) ≡ true
      later zero x t rec = absurd (omega (arith, x, need_some b, enough))
      later (suc m') x t rec = rec m' x (next_meets m' (suc i) r.3 s r.0 n l t x)

      second : (y z : Bool) → z ≡ true → (y || z) ≡ true
      second true z h = refl
      second false z h = h

      go : Meets nodes root normal w some r.0 f ⊎ (has (r.0).next n ≡ true) → (has (r.0).next n ≡ true → release_within w (λ x. tree_holds w (formula_at nodes f) x) (λ x. tree_holds w (formula_at nodes g) x) j (pos w (suc i)) ≡ true)
          → (tree_holds w (formula_at nodes f) (pos w i) || release_within w (λ x. tree_holds w (formula_at nodes f) x) (λ x. tree_holds w (formula_at nodes g) x) j (pos w (suc i))) ≡ true
      go (inl p) rec = ap (λ y. y || release_within w (λ x. tree_holds w (formula_at nodes f) x) (λ x. tree_holds w (formula_at nodes g) x) j (pos w (suc i))) (sf m i k s r p (omega arith))
      go (inr p) rec = second (tree_holds w (formula_at nodes f) (pos w i)) _ (rec p)

  sound_node : (b n : ℕ) (node : Node) → n < length nodes → node_at nodes n ≡ node → IsNodeAt n node → ((m : ℕ) → m < n → Sound b m) → Sound (suc b) n
  unfolding need
  sound_node b n True l e o rec m i k s r h q = holds_node nodes root normal w some n i True l e
  sound_node b n False l e o rec m i k s r h q = absurd (meets_false nodes root normal w some r.0 n l e h)
  sound_node b n (Lit x p) l e o rec m i k s r h q = r.2 n x p e (meets_lit nodes root normal w some r.0 n x p l e h)
  sound_node b n (And f g) l e o rec m i k s r h q =
      let p = meets_and nodes root normal w some r.0 n f g l e h in
      holds_node nodes root normal w some n i (And f g) l e ∙ and_from _ _ (rec f o.0 m i k s r p.0 (omega arith)) (rec g o.1 m i k s r p.1 (omega arith))
  sound_node b n (Or f g) l e o rec m i k s r h q = holds_node nodes root normal w some n i (Or f g) l e ∙ go (meets_or nodes root normal w some r.0 n f g l e h)
    where
      second : (y z : Bool) → z ≡ true → (y || z) ≡ true
      second true z h = refl
      second false z h = h

      go : Meets nodes root normal w some r.0 f ⊎ Meets nodes root normal w some r.0 g → (tree_holds w (formula_at nodes f) (pos w i) || tree_holds w (formula_at nodes g) (pos w i)) ≡ true
      go (inl p) = ap (λ y. y || tree_holds w (formula_at nodes g) (pos w i)) (rec f o.0 m i k s r p (omega arith))
      go (inr p) = second (tree_holds w (formula_at nodes f) (pos w i)) _ (rec g o.1 m i k s r p (omega arith))
  sound_node b n (Next f) l e o rec m i k s r h q = holds_node nodes root normal w some n i (Next f) l e ∙ later m r.5 (meets_next nodes root normal w some r.0 n f l e h)
    where
      enough : need b ≤ r.3
      enough = omega (arith, r.4, mark_few s r.0)

      later : (m : ℕ) → CoverRun m (suc i) (to_next s r.0) r.3 → has (r.0).next f ≡ true → holds_now nodes root normal w some f (suc i) ≡ true
      later zero x t = absurd (omega (arith, x, need_some b, enough))
      later (suc m') x t = rec f o m' (suc i) r.3 (to_next s r.0) x (next_meets m' (suc i) r.3 s r.0 f (omega arith) t x) enough
  sound_node b n (Until f g) l e o rec m i k s r h q =
      let j = until_place nodes n f g l e in
      sound_until b n f g j.0 l e (rec f o.0) (rec g o.1) j.1 j.2 m i k s r h (inr (omega arith))
  sound_node b n (Release f g) l e o rec m i k s r h q =
      holds_node nodes root normal w some n i (Release f g) l e ∙ sound_release b n f g l e (rec f o.0) (rec g o.1) (size w) m i k s r h (omega arith)

  sound : (b n : ℕ) → n < b → n < length nodes → Sound b n
  sound zero n l k m i x s r h q = absurd (omega arith)
  sound (suc b) n l k m i x s r h q = sound_node b n (node_at nodes n) k refl (normal.below n True k) (λ j o. sound b j (omega arith) (omega arith)) m i x s r h q

  -- ---- from truth to runs

  abbrev pub Fine : Spot → ℕ → Type 0
  Fine s i = (n : ℕ) → has s.set n ≡ true → holds_now nodes root normal w some n i ≡ true

  -- m letters from letter i on by true covers, from one state to another, with so many marks
  abbrev pub Path : ℕ → ℕ → Spot → ℕ → Spot → Type 0
  Path zero i s k t = (k ≡ 0) × (s ≡ t)
  Path (suc m) i s k t = (c : CoverSets) × Taken s c × Good nodes root normal w some c i × (left : ℕ) × (k ≡ mark_of s c + left) × Path m (suc i) (to_next s c) left t

  path_append : (m m' i : ℕ) (s : Spot) (k k' : ℕ) (t u : Spot) → Path m i s k t → Path m' (i + m) t k' u → Path (m + m') i s (k + k') u
  path_append zero m' i s k k' t u p q =
      let a : 0 + m' ≡ m' = omega arith in
      let b : i + 0 ≡ i = omega arith in
      let c : k + k' ≡ k' = omega (arith, p.0) in
      subst (λ x. Path x i s (k + k') u) (sym a) (subst (λ x. Path m' i s x u) (sym c) (subst (λ x. Path m' i x k' u) (sym p.1) (subst (λ x. Path m' x t k' u) b q)))
  path_append (suc m) m' i s k k' t u p q =
      let a : suc m + m' ≡ suc (m + m') = omega arith in
      let b : i + suc m ≡ suc i + m = omega arith in
      let c : k + k' ≡ mark_of s p.0 + (p.3 + k') = omega (arith, p.4) in
      subst (λ x. Path x i s (k + k') u) (sym a)
      (p.0, p.1, p.2, p.3 + k', c, path_append m m' (suc i) (to_next s p.0) p.3 k' t u p.5 (subst (λ x. Path m' x t k' u) b q))

  fine_next : (s : Spot) (c : CoverSets) (i : ℕ) → Good nodes root normal w some c i → Fine (to_next s c) (suc i)
  fine_next s c i g n h = g.next n h

  module _ (signals : ℕ) (spots : List Spot) (fnd : all_spots (walk_data nodes signals) root ≡ found spots) where
    extends : Extends (walk_data nodes signals) 0 (first_spot root ∷ []) spots
    extends = walk_found (walk_data nodes signals) 4096 0 (first_spot root ∷ []) spots refl (omega arith) fnd

    first_here : (d : Spot) → get_or spots 0 d ≡ first_spot root
    first_here d = ap (λ xs. get_or xs 0 d) extends.is

    some_spots : 0 < length spots
    some_spots = subst (λ xs. 0 < length xs) (sym extends.is) (omega arith)

    none : Spot
    none = first_spot root

    abbrev InSpots : Spot → Type 0
    InSpots s = (q : ℕ) × (q < length spots) × (get_or spots q (first_spot root) ≡ s)

    led_in : (s : Spot) → InSpots s → Led (walk_data nodes signals) spots s
    led_in s p = subst (Led (walk_data nodes signals) spots) p.2 (extends.led p.0 (first_spot root) (omega arith) p.1)

    same_list : (s : Spot) (c : CoverSets) (p : Led (walk_data nodes signals) spots s) → Taken s c → IsIn c p.list
    same_list s c p t = let e : t.0 ≡ p.list = some_eq (sym t.1 ∙ p.is) in subst (λ xs. IsIn c xs) e t.2
      where
        some_eq : {A : Type 0} {a b : A} → Some a ≡ Some b → a ≡ b
        some_eq h = cc

    -- a cover of a state leads to a state
    goes_to : (s : Spot) (c : CoverSets) → InSpots s → Taken s c
        → (position_or_len (same_spot (to_next s c)) spots < length spots) × (get_or spots (position_or_len (same_spot (to_next s c)) spots) (first_spot root) ≡ to_next s c)
    goes_to s c p t =
        let l = led_in s p in
        let r = leads_to (untils_in nodes) spots s.level l.list c l.leads_in (in_is l.list c (same_list s c l t)) in
        (r.0, r.1 (first_spot root))

    next_in : (s : Spot) (c : CoverSets) → InSpots s → Taken s c → InSpots (to_next s c)
    next_in s c p t = let r = goes_to s c p t in (position_or_len (same_spot (to_next s c)) spots, r.0, r.1)

    chosen : (s : Spot) (i : ℕ) → InSpots s → Fine s i → (c : CoverSets) × Taken s c × Good nodes root normal w some c i
    chosen s i p f =
        let l = led_in s p in
        let g = set_good nodes root normal w some s.set l.list i l.is f in
        (g.0, (l.list, l.is, g.1), g.2)

    pub record Reaches (s : Spot) (i : ℕ) : Type 0 where
      pub steps : ℕ
      pub end : Spot
      pub marks : ℕ
      pub path : Path steps i s marks end
      pub some_mark : 1 ≤ marks
      pub inside : InSpots end
      pub fine : Fine end (i + steps)

    reaches_now : (s : Spot) (i : ℕ) (c : CoverSets) → InSpots s → Taken s c → Good nodes root normal w some c i → is_marked (untils_in nodes) s.level c ≡ true → Reaches s i
    reaches_now s i c p t g m =
        let a : mark_of s c ≡ 1 = ap (λ b. cond b 1 0) m in
        let b : suc i ≡ i + 1 = omega arith in
        record {
          steps = 1;
          end = to_next s c;
          marks = 1;
          path = (c, t, g, 0, omega arith, (refl, refl));
          some_mark = omega arith;
          inside = next_in s c p t;
          fine = subst (Fine (to_next s c)) b (fine_next s c i g);
        }

    reaches_on : (s : Spot) (i : ℕ) (c : CoverSets) → Taken s c → Good nodes root normal w some c i → Reaches (to_next s c) (suc i) → Reaches s i
    reaches_on s i c t g r =
        let b : suc i + r.steps ≡ i + suc r.steps = omega arith in
        record {
          steps = suc r.steps;
          end = r.end;
          marks = mark_of s c + r.marks;
          path = (c, t, g, r.marks, refl, r.path);
          some_mark = omega (arith, r.some_mark);
          inside = r.inside;
          fine = subst (Fine r.end) b r.fine;
        }

    -- an until that is put off at a state still waits at the next one
    abbrev Waits : ℕ → Spot → ℕ → Type 0
    Waits d s i = (f : ℕ) × (g : ℕ) × (node_at nodes (get_or (untils_in nodes) s.level 0) ≡ Until f g)
        × (until_within w (λ x. tree_holds w (formula_at nodes f) x) (λ x. tree_holds w (formula_at nodes g) x) d (pos w i) ≡ true)

    risen_more : (s : Spot) (c : CoverSets) → s.level ≤ risen (untils_in nodes) s.level c
    risen_more s c = omega arith

    -- where the edge isn't marked, the until at the new level is put off and waits
    waits_next : (s : Spot) (i : ℕ) (c : CoverSets) → Good nodes root normal w some c i → is_marked (untils_in nodes) s.level c ≡ false
        → ((to_next s c).level ≡ risen (untils_in nodes) s.level c) × (risen (untils_in nodes) s.level c < length (untils_in nodes)) × Waits (size w) (to_next s c) (suc i)
    waits_next s i c g m =
        let l : risen (untils_in nodes) s.level c < length (untils_in nodes) = leb-false (length (untils_in nodes)) (risen (untils_in nodes) s.level c) m in
        let e : (to_next s c).level ≡ risen (untils_in nodes) s.level c = ap (λ b. cond b 0 (risen (untils_in nodes) s.level c)) m in
        let u = until_at_place nodes (risen (untils_in nodes) s.level c) 0 l in
        let h = g.postponed (get_or (untils_in nodes) (risen (untils_in nodes) s.level c) 0) (risen_stop (untils_in nodes) s.level 0 c l) u.0 u.1 u.2 in
        let k = until_within_nodes nodes (get_or (untils_in nodes) (risen (untils_in nodes) s.level c) 0) u.0 u.1 u.2 in (
          e,
          l,
          (
            u.0,
            u.1,
            ap (λ j. node_at nodes (get_or (untils_in nodes) j 0)) e ∙ u.2,
            sym (holds_node nodes root normal w some (get_or (untils_in nodes) (risen (untils_in nodes) s.level c) 0) (suc i) (Until u.0 u.1) k u.2) ∙ h.1,
          ),
        )

    -- by how many untils are left above the level, and then by how far the until at the level is
    reach_within : (n d : ℕ) (s : Spot) (i : ℕ) → ((t : Spot) (j : ℕ) → s.level < t.level → t.level < length (untils_in nodes) → InSpots t → Fine t j → Waits (size w) t j → Reaches t j)
        → s.level < length (untils_in nodes) → InSpots s → Fine s i → Waits d s i → Reaches s i
    reach_within n zero s i up l p f h = absurd (both_ways false refl h.3)
    reach_within n (suc d) s i up l p f h =
        let c = chosen s i p f in
        go c.0 c.1 c.2 (is_marked (untils_in nodes) s.level c.0) refl (λ t up' l' p' f' h'. reach_within n d t (suc i) up' l' p' f' h')
      where
        stays : (c : CoverSets) → Taken s c → (g : Good nodes root normal w some c i) → risen (untils_in nodes) s.level c ≡ s.level → risen (untils_in nodes) s.level c < length (untils_in nodes)
            → until_within w (λ x. tree_holds w (formula_at nodes h.0) x) (λ x. tree_holds w (formula_at nodes h.1) x) d (pos w (suc i)) ≡ true
        stays c t g e l' =
            let stop : has c.postponed (get_or (untils_in nodes) s.level 0) ≡ true = subst (λ j. has c.postponed (get_or (untils_in nodes) j 0) ≡ true) e (risen_stop (untils_in nodes) s.level 0 c l') in
            let off = g.postponed (get_or (untils_in nodes) s.level 0) stop h.0 h.1 h.2 in
            waiting (tree_holds w (formula_at nodes h.1) (pos w i)) (tree_holds w (formula_at nodes h.0) (pos w i)) _ off.0 h.3
          where
            waiting : (a b c : Bool) → a ≡ false → (a || (b && c)) ≡ true → c ≡ true
            waiting true b c x y = absurd (both_ways true x refl)
            waiting false true c x y = y
            waiting false false c x y = absurd (both_ways false refl y)

        go : (c : CoverSets) → Taken s c → (g : Good nodes root normal w some c i) → (b : Bool) → is_marked (untils_in nodes) s.level c ≡ b
            → ((t : Spot) → ((u : Spot) (j : ℕ) → t.level < u.level → u.level < length (untils_in nodes) → InSpots u → Fine u j → Waits (size w) u j → Reaches u j)
            → t.level < length (untils_in nodes) → InSpots t → Fine t (suc i) → Waits d t (suc i) → Reaches t (suc i)) → Reaches s i
        go c t g true m rec = reaches_now s i c p t g m
        go c t g false m rec =
            let v = waits_next s i c g m in
            reaches_on s i c t g (level (eqb (risen (untils_in nodes) s.level c) s.level) refl v.0 v.1 v.2)
          where
            level : (b : Bool) → eqb (risen (untils_in nodes) s.level c) s.level ≡ b → (to_next s c).level ≡ risen (untils_in nodes) s.level c → risen (untils_in nodes) s.level c < length (untils_in nodes)
                → Waits (size w) (to_next s c) (suc i) → Reaches (to_next s c) (suc i)
            level true e a b' wt =
                let same : (to_next s c).level ≡ s.level = a ∙ eqb-true (risen (untils_in nodes) s.level c) s.level e in
                rec (to_next s c) (λ u j x y z q r. up u j (omega arith) y z q r) (omega arith) (next_in s c p t) (fine_next s c i g)
                (h.0, h.1, ap (λ j. node_at nodes (get_or (untils_in nodes) j 0)) same ∙ h.2, stays c t g (eqb-true (risen (untils_in nodes) s.level c) s.level e) b')
            level false e a b' wt =
                let ne = eqb-false (risen (untils_in nodes) s.level c) s.level e in
                let more = risen_more s c in
                up (to_next s c) (suc i) (omega arith) (omega arith) (next_in s c p t) (fine_next s c i g) wt

    reach_from : (n : ℕ) (s : Spot) (i : ℕ) → length (untils_in nodes) ≤ s.level + n → s.level < length (untils_in nodes) → InSpots s → Fine s i → Waits (size w) s i → Reaches s i
    reach_from zero s i k l p f h = absurd (omega arith)
    reach_from (suc n) s i k l p f h = reach_within n (size w) s i (λ t j x y q r v. reach_from n t j (omega arith) y q r v) l p f h

    reach_mark : (s : Spot) (i : ℕ) → InSpots s → Fine s i → Reaches s i
    reach_mark s i p f = let c = chosen s i p f in go c.0 c.1 c.2 (is_marked (untils_in nodes) s.level c.0) refl
      where
        go : (c : CoverSets) → Taken s c → (g : Good nodes root normal w some c i) → (b : Bool) → is_marked (untils_in nodes) s.level c ≡ b → Reaches s i
        go c t g true m = reaches_now s i c p t g m
        go c t g false m =
            let v = waits_next s i c g m in
            reaches_on s i c t g (reach_from (length (untils_in nodes)) (to_next s c) (suc i) (omega arith) (omega (arith, v.0, v.1)) (next_in s c p t) (fine_next s c i g) v.2)

    pub record ReachesMany (b : ℕ) (s : Spot) : Type 0 where
      pub steps : ℕ
      pub end : Spot
      pub marks : ℕ
      pub path : Path steps 0 s marks end
      pub many : b ≤ marks
      pub inside : InSpots end
      pub fine : Fine end (0 + steps)

    reach_many : (b : ℕ) (s : Spot) → InSpots s → Fine s 0 → ReachesMany b s
    reach_many zero s p f = record { steps = 0; end = s; marks = 0; path = (refl, refl); many = omega arith; inside = p; fine = f }
    reach_many (suc b) s p f =
        let r = reach_many b s p f in
        let q = reach_mark r.end (0 + r.steps) r.inside r.fine in
        let a : 0 + r.steps + q.steps ≡ 0 + (r.steps + q.steps) = omega arith in
        record {
          steps = r.steps + q.steps;
          end = q.end;
          marks = r.marks + q.marks;
          path = path_append r.steps q.steps 0 s r.marks q.marks r.end q.end r.path q.path;
          many = omega (arith, r.many, q.some_mark);
          inside = q.inside;
          fine = subst (Fine q.end) a q.fine;
        }

    -- ---- runs of the automaton

    abbrev Auto : AutomatonData
    Auto = automaton_in (walk_data nodes signals) spots

    edges_of : (q : ℕ) → q < length spots → edges_at (automaton_in (walk_data nodes signals) spots) q ≡ state_in (walk_data nodes signals) spots (get_or spots q (first_spot root))
    edges_of q l = get_or-map (state_in (walk_data nodes signals) spots) spots q (first_spot root) [] l

    state_edges : (s : Spot) (l : Led (walk_data nodes signals) spots s) → state_in (walk_data nodes signals) spots s ≡ edges_in (literals_in nodes) (untils_in nodes) spots s.level l.list
    state_edges s l = ap (λ r. edges_in (literals_in nodes) (untils_in nodes) spots s.level (list_in r)) l.is

    letter_is : (n x : ℕ) (p : Bool) (i : ℕ) → node_at nodes n ≡ Lit x p → holds_now nodes root normal w some n i ≡ meets_literal (bits_at w i) (literal_by n x p)
    letter_is n x p i e = holds_node nodes root normal w some n i (Lit x p) (lit_within nodes n x p e) e ∙ go p
      where
        bits : bits_at w (pos w i) ≡ bits_at w i
        bits = sym (bits_pos w some i)

        go : (p : Bool) → tree_holds w (literal x p) (pos w i) ≡ cond p (nat_eq (bit_at (bits_at w i) x) 1) (not (nat_eq (bit_at (bits_at w i) x) 1))
        go true = ap (λ b. nat_eq (bit_at b x) 1) bits
        go false = ap (λ b. not (nat_eq (bit_at b x) 1)) bits

    to_run : (m i q : ℕ) (edges : List Edge) → q < length spots → IsRunFrom (automaton_in (walk_data nodes signals) spots) q (letters w i m) edges → CoverRun m i (get_or spots q (first_spot root)) (count edges)
    to_run zero i q [] l r = refl
    to_run zero i q (e ∷ es) l r = absurd r
    to_run (suc m) i q [] l r = absurd r
    to_run (suc m) i q (e ∷ es) l r =
        let s : Spot = get_or spots q (first_spot root) in
        let p = led_in (get_or spots q (first_spot root)) (q, l, refl) in
        let c = edge_from (literals_in nodes) (untils_in nodes) spots (get_or spots q (first_spot root)).level p.list e
        (is_contained _ e (subst (λ es. Contains es e) (edges_of q l ∙ state_edges (get_or spots q (first_spot root)) p) r.0)) in
        let t : Taken (get_or spots q (first_spot root)) c.0 = (p.list, p.is, is_in p.list c.0 c.1) in
        let g = goes_to (get_or spots q (first_spot root)) c.0 (q, l, refl) t in
        let next : e.next ≡ position_or_len (same_spot (to_next (get_or spots q (first_spot root)) c.0)) spots = ap (λ (x : Edge). x.next) (sym c.2) in
        let inside : e.next < length spots = subst (λ n. n < length spots) (sym next) g.0 in
        let there : get_or spots e.next (first_spot root) ≡ to_next (get_or spots q (first_spot root)) c.0 = ap (λ n. get_or spots n (first_spot root)) next ∙ g.1 in
        let held : holds (cube_in (literals_in nodes) (c.0).literals) (bits_at w i) ≡ true = subst (λ (x : Edge). holds x.cube (bits_at w i) ≡ true) (sym c.2) r.1 in (
          c.0,
          t,
          λ n x b f h. letter_is n x b i f
              ∙ cube_meets (literals_in nodes) (c.0).literals (bits_at w i) held
              (λ l k ml mk hl hk pl pk sg. consistent_apart nodes (c.0).literals l k (set_consistent (get_or spots q (first_spot root)).set p.list p.is c.0 (is_in p.list c.0 c.1)) ml mk hl hk pl pk sg)
              (literal_by n x b) (literal_of_node nodes n x b (lit_within nodes n x b f) f) h,
          count es,
          ap (λ (x : Edge). cond x.marked 1 0 + count es) (sym c.2),
          subst (λ t. CoverRun m (suc i) t (count es)) there (to_run m (suc i) e.next es inside r.2),
        )

    pub record EdgeRun (q m i k : ℕ) : Type 0 where
      pub edges : List Edge
      pub run : IsRunFrom (automaton_in (walk_data nodes signals) spots) q (letters w i m) edges
      pub counted : count edges ≡ k

    from_path : (m i k q : ℕ) (s t : Spot) → q < length spots → get_or spots q (first_spot root) ≡ s → Path m i s k t → EdgeRun q m i k
    from_path zero i k q s t l e p = record { edges = []; run = tt; counted = sym p.0 }
    from_path (suc m) i k q s t l e p =
        let c : CoverSets = p.0 in
        let inside : InSpots s = (q, l, e) in
        let led = led_in s (q, l, e) in
        let g = goes_to s p.0 (q, l, e) p.1 in
        let edge : Edge = edge_in (literals_in nodes) (untils_in nodes) spots s.level p.0 in
        let has_it : Is (edge_in (literals_in nodes) (untils_in nodes) spots s.level p.0) (edges_in (literals_in nodes) (untils_in nodes) spots s.level led.list) =
        edge_to (literals_in nodes) (untils_in nodes) spots s.level led.list p.0 (in_is led.list p.0 (same_list s p.0 led p.1)) in
        let contains : Contains (edges_at (automaton_in (walk_data nodes signals) spots) q) (edge_in (literals_in nodes) (untils_in nodes) spots s.level p.0) =
        subst (λ es. Contains es (edge_in (literals_in nodes) (untils_in nodes) spots s.level p.0))
        (sym (edges_of q l ∙ ap (state_in (walk_data nodes signals) spots) e ∙ state_edges s led)) (contained_is _ (edge_in (literals_in nodes) (untils_in nodes) spots s.level p.0) has_it) in
        let held : holds (cube_in (literals_in nodes) (p.0).literals) (bits_at w i) ≡ true =
        cube_met (literals_in nodes) (p.0).literals (bits_at w i)
        (λ x m h.
        let f = node_of_literal nodes x m in
        sym (letter_is x.number x.signal x.positive i f) ∙ (p.2).literals x.number h) in
        let r = from_path m (suc i) p.3 (position_or_len (same_spot (to_next s p.0)) spots) (to_next s p.0) t g.0 g.1 p.5 in
        record {
          edges = edge_in (literals_in nodes) (untils_in nodes) spots s.level p.0 ∷ r.edges;
          run = (contains, held, r.run);
          counted = ap (λ n. mark_of s p.0 + n) r.counted ∙ sym p.4;
        }

    root_within : root < length nodes
    root_within = omega (arith, normal.last)

    accepted_true : Accepts (automaton_in (walk_data nodes signals) spots) w → tree_holds w (formula_at nodes root) 0 ≡ true
    accepted_true acc =
        let a = acc (need (suc root)) in
        let r : IsRunFrom (automaton_in (walk_data nodes signals) spots) 0 (letters w 0 a.0) a.1 = subst (λ xs. IsRunFrom (automaton_in (walk_data nodes signals) spots) 0 xs a.1) (prefix_letters w a.0) a.2 in
        begins a.0 (count a.1) (subst (λ s. CoverRun a.0 0 s (count a.1)) (first_here (first_spot root)) (to_run a.0 0 0 a.1 some_spots r)) a.3
      where
        begins : (m k : ℕ) → CoverRun m 0 (first_spot root) k → need (suc root) < k → tree_holds w (formula_at nodes root) 0 ≡ true
        begins zero k r l = absurd (omega (arith, r))
        begins (suc m) k r l =
            sound (suc root) root (omega arith) root_within m 0 k (first_spot root) r (set_meets nodes root normal w some (2 ^ root) r.1.0 root r.1.1 (has_self root) root_within r.0 r.1.2) (omega arith)

    true_accepted : tree_holds w (formula_at nodes root) 0 ≡ true → Accepts (automaton_in (walk_data nodes signals) spots) w
    true_accepted h b =
        let p = reach_many (suc b) (first_spot root) (0, some_spots, first_here (first_spot root)) (λ n k. subst (λ j. holds_now nodes root normal w some j 0 ≡ true) (sym (has_only root n k)) h) in
        let r = from_path p.steps 0 p.marks 0 (first_spot root) p.end some_spots (first_here (first_spot root)) p.path in
        (p.steps, r.edges, subst (λ xs. IsRunFrom (automaton_in (walk_data nodes signals) spots) 0 xs r.edges) (sym (prefix_letters w p.steps)) r.run, omega (arith, r.counted, p.many))

pub accepts_by_truth : AcceptsByTruth
accepts_by_truth nodes root signals spots normal fnd w some = (accepted_true nodes root normal w some signals spots fnd, true_accepted nodes root normal w some signals spots fnd)

-- an automaton of the states that are found
pub accepts_found : (nodes : List Node) (root signals : ℕ) (a : AutomatonData) → IsNormal nodes root
    → (spots : List Spot) × (all_spots (walk_data nodes signals) root ≡ found spots) × (a ≡ automaton_in (walk_data nodes signals) spots) → AcceptsTruthOf nodes root a
accepts_found nodes root signals a normal p = subst (AcceptsTruthOf nodes root) (sym p.2) (accepts_by_truth nodes root signals p.0 normal p.1)
