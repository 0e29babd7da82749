-- Where actions lead, and which options do.
use Rattle.std.proofs.Common.{◌≡◌, ℕ, zero, suc, ◌+◌, ◌<◌, ◌≤◌, Bool, true, false, cond, ◌&&◌, ◌||◌, List, [], ◌∷◌, length, drop, get_or, Option, Some, None, refl, sym, ◌∙◌, ap, arith, inl, inr}
use Rattle.std.specs.Prelude.{ℤ}
use Rattle.std.specs.Option.{is_some, IsSome}
use Rattle.std.specs.List.{All, list_any, list_all, position_from}
use Rattle.std.proofs.lemmas.Bool.{cases_lt}
use Rattle.std.proofs.lemmas.List.{get_or_past, drop_all}
use Rattle.std.proofs.lemmas.List.Elements.{All-head, All-tail, All-from_get_or}
use Rattle.std.proofs.lemmas.Option.{same_Some}
use Rattle.cpre_step.proofs.Left.{from_place}
use Rattle.cpre_step.specs.Refinement.{action_works, some_works, all_work, answers}
use Rattle.counter_vec.specs.Counters.{at_or_below}
use Rattle.word_core.specs.declared.names.Kind.TheVariants.{First, Second}
use Rattle.game_form.specs.Game.{GameData, ClassData, IsGame, IsClass, class_at, no_class}
use Rattle.game_form.specs.Vector.{successor}
use Rattle.strategy_play.specs.Lead.{lead, AreNexts, LeadBelow, pick_or, pick, ArePicks, all_lead, leader}

module _ {X : Type 0} (t : X → Bool) where
  -- the first that passes, in what is left of a list
  pub position_more : (xs : List X) (i : ℕ) (x : X) → i < length xs → x ≡ get_or xs i x → t x ≡ false → position_from t i (drop i xs) ≡ position_from t (i + 1) (drop (i + 1) xs)
  position_more xs i x lt is fails =
      ap (position_from t i) (from_place xs i x lt is) ∙ ap (λ b. cond b (Some i) (position_from t (i + 1) (drop (i + 1) xs))) fails

  pub position_here : (xs : List X) (i : ℕ) (x : X) → i < length xs → x ≡ get_or xs i x → t x ≡ true → position_from t i (drop i xs) ≡ Some i
  position_here xs i x lt is holds =
      ap (position_from t i) (from_place xs i x lt is) ∙ ap (λ b. cond b (Some i) (position_from t (i + 1) (drop (i + 1) xs))) holds

  pub position_end : (xs : List X) (i : ℕ) → length xs ≤ i → position_from t i (drop i xs) ≡ None
  position_end xs i past = ap (position_from t i) (drop_all i xs past)

  pub any_position : (n : ℕ) (xs : List X) → list_any t xs ≡ is_some (position_from t n xs)
  any_position n [] = refl
  any_position n (x ∷ xs) = go (t x) (any_position (n + 1) xs)
    where
      go : (b : Bool) → list_any t xs ≡ is_some (position_from t (n + 1) xs) → (b || list_any t xs) ≡ is_some (cond b (Some n) (position_from t (n + 1) xs))
      go true same = refl
      go false same = same

  pub position_within : (n : ℕ) (xs : List X) (i : ℕ) → position_from t n xs ≡ Some i → (n ≤ i) × (i < n + length xs)
  position_within n [] i e = absurd (cc)
  position_within n (x ∷ xs) i e = go (t x) (position_within (n + 1) xs i) e
    where
      go : (b : Bool) → (position_from t (n + 1) xs ≡ Some i → (n + 1 ≤ i) × (i < n + 1 + length xs)) → cond b (Some n) (position_from t (n + 1) xs) ≡ Some i → (n ≤ i) × (i < n + suc (length xs))
      go true later is = let same : n ≡ i = same_Some n i is in (omega arith, omega arith)
      go false later is = let r = later is in (omega (arith, r.0), omega (arith, r.1))

any_same : {X : Type 0} (p q : X → Bool) (xs : List X) → All (λ x. p x ≡ q x) xs → list_any p xs ≡ list_any q xs
any_same p q [] h = refl
any_same p q (x ∷ xs) h =
    ap (λ b. b || list_any p xs) (All-head (λ x. p x ≡ q x) x xs h) ∙ ap (λ b. q x || b) (any_same p q xs (All-tail (λ x. p x ≡ q x) x xs h))

pub all_same : {X : Type 0} (p q : X → Bool) (xs : List X) → All (λ x. p x ≡ q x) xs → list_all p xs ≡ list_all q xs
all_same p q [] h = refl
all_same p q (x ∷ xs) h =
    ap (λ b. b && list_all p xs) (All-head (λ x. p x ≡ q x) x xs h) ∙ ap (λ b. q x && b) (all_same p q xs (All-tail (λ x. p x ≡ q x) x xs h))

pub and_left : (a b : Bool) → (a && b) ≡ true → a ≡ true
and_left true b h = refl
and_left false b h = absurd (cc)

pub and_right : (a b : Bool) → (a && b) ≡ true → b ≡ true
and_right true b h = h
and_right false b h = absurd (cc)

pub all_passes : {X : Type 0} (p : X → Bool) (xs : List X) (i : ℕ) (d : X) → list_all p xs ≡ true → i < length xs → p (get_or xs i d) ≡ true
all_passes p [] i d h lt = absurd (omega arith)
all_passes p (x ∷ xs) zero d h lt = and_left (p x) (list_all p xs) h
all_passes p (x ∷ xs) (suc i) d h lt = all_passes p xs i d (and_right (p x) (list_all p xs) h) (omega arith)

-- a first option that leads to an entry is there where some option leads to one
pub pick_some : (next : ℕ → Option ℕ) (options : List (ℕ × ℕ)) → is_some (pick next options) ≡ list_any (λ o. is_some (next o.0)) options
pick_some next [] = refl
pick_some next (o ∷ os) = go (next o.0) (pick_some next os)
  where
    go : (x : Option ℕ) → is_some (pick next os) ≡ list_any (λ o. is_some (next o.0)) os → is_some (pick_or o.1 x (pick next os)) ≡ (is_some x || list_any (λ o. is_some (next o.0)) os)
    go None same = same
    go (Some n) same = refl

-- what is picked is the valuation of an option and the entry to which its action leads
pub record IsPicked (next : ℕ → Option ℕ) (options : List (ℕ × ℕ)) (p : ℕ × ℕ) : Type 0 where
  pub place : ℕ
  pub within : place < length options
  pub own : (get_or options place (0, 0)).1 ≡ p.0
  pub next_is : next (get_or options place (0, 0)).0 ≡ Some p.1
  pub before : (j : ℕ) → j < place → next (get_or options j (0, 0)).0 ≡ None

pub pick_from : (next : ℕ → Option ℕ) (options : List (ℕ × ℕ)) (p : ℕ × ℕ) → pick next options ≡ Some p → IsPicked next options p
pick_from next [] p e = absurd (cc)
pick_from next (o ∷ os) p e = go (next o.0) refl (pick_from next os p) e
  where
    go : (x : Option ℕ) → next o.0 ≡ x → (pick next os ≡ Some p → IsPicked next os p) → pick_or o.1 x (pick next os) ≡ Some p → IsPicked next (o ∷ os) p
    go None none later is =
        let r = later is in
        record { place = suc r.place; within = omega (arith, r.within); own = r.own; next_is = r.next_is; before = before none r.place r.before }
      where
        before : next o.0 ≡ None → (i : ℕ) → ((j : ℕ) → j < i → next (get_or os j (0, 0)).0 ≡ None) → (j : ℕ) → j < suc i → next (get_or (o ∷ os) j (0, 0)).0 ≡ None
        before first i rest zero l = first
        before first i rest (suc j) l = rest j (omega arith)
    go (Some n) some later is =
        let same : ◌≡◌ {A = ℕ × ℕ} (o.1, n) p = same_Some _ _ is in
        record { place = 0; within = omega arith; own = ap (λ q. q.0) same; next_is = some ∙ ap (λ q. Some q.1) same; before = λ j l. absurd (omega arith) }

-- the first options while they are gone through
pub pick_more : (nexts : List (Option ℕ)) (options : List (ℕ × ℕ)) (i : ℕ) (o : ℕ × ℕ) → i < length options → o ≡ get_or options i o → lead nexts o.0 ≡ None
    → pick (lead nexts) (drop i options) ≡ pick (lead nexts) (drop (i + 1) options)
pick_more nexts options i o lt is none =
    ap (pick (lead nexts)) (from_place options i o lt is) ∙ ap (λ x. pick_or o.1 x (pick (lead nexts) (drop (i + 1) options))) none

pub pick_here : (nexts : List (Option ℕ)) (options : List (ℕ × ℕ)) (i n : ℕ) (o : ℕ × ℕ) → i < length options → o ≡ get_or options i o → lead nexts o.0 ≡ Some n
    → pick (lead nexts) (drop i options) ≡ Some (o.1, n)
pick_here nexts options i n o lt is some =
    ap (pick (lead nexts)) (from_place options i o lt is) ∙ ap (λ x. pick_or o.1 x (pick (lead nexts) (drop (i + 1) options))) some

module _ (g : GameData) (entries : List (List ℤ)) (f : List ℤ) (nexts : List (Option ℕ)) (are : AreNexts g entries f nexts) where
  work_same : (a : ℕ) → a < length g.actions → action_works g entries f a ≡ is_some (lead nexts a)
  work_same a lt = any_position (λ e. at_or_below (successor g a f) e) 0 entries ∙ ap is_some (sym (are.each a lt))

  options_same : (c : ClassData) → IsClass g c → All (λ o. action_works g entries f o.0 ≡ is_some (lead nexts o.0)) c.options
  options_same c k = All-from_get_or (λ o. action_works g entries f o.0 ≡ is_some (lead nexts o.0)) c.options (0, 0) (λ i lt. work_same _ (k.action i lt))

  -- where the player can answer, each class has a pick, or some class leads
  pub second_picks : IsGame g → g.kind ≡ Second → answers g entries f ≡ true → (c : ℕ) → c < length g.classes → IsSome (pick (lead nexts) (class_at g c).options)
  second_picks known kind can c lt =
      let all : list_all (λ c. some_works g entries f c) g.classes ≡ true = (let h = can in rw kind at h) in
      pick_some (lead nexts) (class_at g c).options
      ∙ sym (any_same (λ o. action_works g entries f o.0) (λ o. is_some (lead nexts o.0)) (class_at g c).options (options_same (class_at g c) (known.classes c lt)))
      ∙ all_passes (λ c. some_works g entries f c) g.classes c no_class all lt

  pub first_leads : IsGame g → g.kind ≡ First → answers g entries f ≡ true → IsSome (leader (lead nexts) g.classes)
  first_leads known kind can =
      let any : list_any (λ c. all_work g entries f c) g.classes ≡ true = (let h = can in rw kind at h) in
      let each : All (λ c. all_work g entries f c ≡ all_lead (lead nexts) c.options) g.classes =
      All-from_get_or (λ c. all_work g entries f c ≡ all_lead (lead nexts) c.options) g.classes no_class (λ c lt.
      all_same (λ o. action_works g entries f o.0) (λ o. is_some (lead nexts o.0)) (class_at g c).options (options_same (class_at g c) (known.classes c lt))) in
      sym (any_position (λ c. all_lead (lead nexts) c.options) 0 g.classes)
      ∙ sym (any_same (λ c. all_work g entries f c) (λ c. all_lead (lead nexts) c.options) g.classes each)
      ∙ any

  -- actions lead to entries
  pub nexts_below : LeadBelow (length entries) nexts
  nexts_below a n e = elim (cases_lt a (length nexts)) [
    | inl lt ↦ (let in_actions : a < length g.actions = omega (arith, are.count) in
        let r = position_within (λ e. at_or_below (successor g a f) e) 0 entries n (sym (are.each a in_actions) ∙ e) in
        omega (arith, r.1))
    | inr ge ↦ (let none : lead nexts a ≡ None = get_or_past nexts a None (omega arith) in absurd (cc))
  ]

-- the class that leads is one of the game's, and all its options lead
pub leader_within : (next : ℕ → Option ℕ) (classes : List ClassData) (c : ℕ) → leader next classes ≡ Some c → c < length classes
leader_within next classes c e = let r = position_within (λ c. all_lead next c.options) 0 classes c e in omega (arith, r.1)

pub passes : {X : Type 0} (t : X → Bool) (n : ℕ) (xs : List X) (i j : ℕ) (d : X) → position_from t n xs ≡ Some i → i ≡ n + j → t (get_or xs j d) ≡ true
passes t n [] i j d e at = absurd (cc)
passes t n (x ∷ xs) i j d e at = go (t x) refl (λ k e' at'. passes t (n + 1) xs i k d e' at') e j at
  where
    go : (b : Bool) → t x ≡ b → ((k : ℕ) → position_from t (n + 1) xs ≡ Some i → i ≡ n + 1 + k → t (get_or xs k d) ≡ true) → cond b (Some n) (position_from t (n + 1) xs) ≡ Some i → (j : ℕ) → i ≡ n + j → t (get_or (x ∷ xs) j d) ≡ true
    go true here later is zero at' = here
    go true here later is (suc k) at' = let same : n ≡ i = same_Some n i is in absurd (omega arith)
    go false here later is zero at' = let r = position_within t (n + 1) xs i is in absurd (omega (arith, r.0))
    go false here later is (suc k) at' = later k is (omega arith)

-- nothing before the first that passes does
pub passes_none : {X : Type 0} (t : X → Bool) (n : ℕ) (xs : List X) (i j : ℕ) (d : X) → position_from t n xs ≡ Some i → n + j < i → t (get_or xs j d) ≡ false
passes_none t n [] i j d e l = absurd (cc)
passes_none t n (x ∷ xs) i j d e l = go (t x) refl (λ k e' l'. passes_none t (n + 1) xs i k d e' l') e j l
  where
    go : (b : Bool) → t x ≡ b → ((k : ℕ) → position_from t (n + 1) xs ≡ Some i → n + 1 + k < i → t (get_or xs k d) ≡ false) → cond b (Some n) (position_from t (n + 1) xs) ≡ Some i → (j : ℕ) → n + j < i → t (get_or (x ∷ xs) j d) ≡ false
    go true here later is j l' = let same : n ≡ i = same_Some n i is in absurd (omega arith)
    go false here later is zero l' = here
    go false here later is (suc k) l' = later k is (omega arith)

pub leader_leads : (g : GameData) (next : ℕ → Option ℕ) (c : ℕ) → leader next g.classes ≡ Some c → all_lead next (class_at g c).options ≡ true
leader_leads g next c e = passes (λ c. all_lead next c.options) 0 g.classes c c no_class e (omega arith)

-- the ranges of the picks
pub picks_within : (g : GameData) (nexts : List (Option ℕ)) (picks : List (ℕ × ℕ)) → IsGame g → ArePicks g (lead nexts) picks → (count c : ℕ) → c < length g.classes → LeadBelow count nexts
    → IsPicked (lead nexts) (class_at g c).options (get_or picks c (0, 0)) × ((get_or picks c (0, 0)).1 < count)
picks_within g nexts picks known are count c lt below =
    let p = pick_from (lead nexts) (class_at g c).options (get_or picks c (0, 0)) (are.each c lt) in
    (p, below _ _ p.next_is)
