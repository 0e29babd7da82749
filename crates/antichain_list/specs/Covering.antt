-- What a list covers after an entry was put.
use Rattle.std.proofs.Common.{◌≡◌, ℕ, Bool, true, false, not, ◌||◌, ◌&&◌, List, [], ◌∷◌, cond, refl, sym, ◌∙◌, ap}
use Rattle.std.specs.List.{list_any, filter, AllByRecursion}
use Rattle.std.specs.Ordering.{is_lt}
use Rattle.std.specs.declared.cmp.Ordering.{Ordering}
use Rattle.antichain_list.specs.Antichain.{IsEntryOrder, covered, without_below, placed, added}

or_left : (a b c : Bool) → (a || (b || c)) ≡ (b || (a || c))
or_left true true c = refl
or_left true false c = refl
or_left false b c = refl

or_comm : (a b : Bool) → (a || b) ≡ (b || a)
or_comm true true = refl
or_comm true false = refl
or_comm false true = refl
or_comm false false = refl

or_true : (a b : Bool) → a ≡ true → (a || b) ≡ true
or_true true b h = refl
or_true false b h = cc

or_right_true : (a b : Bool) → b ≡ true → (a || b) ≡ true
or_right_true true b h = refl
or_right_true false b h = h

module _ {E : Type 0} (below : E → E → Bool) (order : E → E → Ordering) (laws : IsEntryOrder below order) where
  pub covered-trans : (u v : E) (xs : List E) → below u v ≡ true → covered below v xs ≡ true → covered below u xs ≡ true
  covered-trans u v [] h k = cc
  covered-trans u v (x ∷ xs) h k = go (below v x) refl (covered-trans u v xs h) k
    where
      go : (b : Bool) → below v x ≡ b → (covered below v xs ≡ true → covered below u xs ≡ true) → (b || covered below v xs) ≡ true → (below u x || covered below u xs) ≡ true
      go true e rest k = or_true _ _ (laws.transitive u v x h e)
      go false e rest k = or_right_true _ _ (rest k)

  pub covered-placed : (u v : E) (xs : List E) → covered below u (placed order v xs) ≡ (below u v || covered below u xs)
  covered-placed u v [] = refl
  covered-placed u v (x ∷ xs) = go (is_lt (order v x)) (covered-placed u v xs)
    where
      go : (b : Bool) → covered below u (placed order v xs) ≡ (below u v || covered below u xs)
          → covered below u (cond b (v ∷ x ∷ xs) (x ∷ placed order v xs)) ≡ (below u v || (below u x || covered below u xs))
      go true rest = refl
      go false rest = ap (λ b. below u x || b) rest ∙ or_left (below u x) (below u v) (covered below u xs)

  pub covered-without_below : (u v : E) (xs : List E) → (below u v || covered below u (without_below below v xs)) ≡ (below u v || covered below u xs)
  covered-without_below u v [] = refl
  covered-without_below u v (x ∷ xs) = go (below x v) refl (below u v) refl (below u x) refl (covered-without_below u v xs)
    where
      go : (b : Bool) → below x v ≡ b → (c : Bool) → below u v ≡ c → (d : Bool) → below u x ≡ d
          → (c || covered below u (without_below below v xs)) ≡ (c || covered below u xs)
          → (c || covered below u (cond (not b) (x ∷ without_below below v xs) (without_below below v xs))) ≡ (c || (d || covered below u xs))
      go true e true f d h rest = refl
      go true e false f true h rest = absurd (impossible (laws.transitive u x v h e) f)
        where
          impossible : below u v ≡ true → below u v ≡ false → ⊥
          impossible p q = cc
      go true e false f false h rest = rest
      go false e true f d h rest = refl
      go false e false f d h rest = ap (λ b. b || covered below u (without_below below v xs)) h ∙ ap (λ b. d || b) rest

  pub covered-added : (u v : E) (xs : List E) → covered below u (added below order v xs) ≡ (covered below u xs || below u v)
  covered-added u v xs = go (covered below v xs) refl
    where
      inside : covered below v xs ≡ true → (b : Bool) → below u v ≡ b → covered below u xs ≡ (covered below u xs || b)
      inside h true e = covered-trans u v xs e h ∙ sym (or_right_true (covered below u xs) true refl)
      inside h false e = sym (or_comm (covered below u xs) false)

      go : (b : Bool) → covered below v xs ≡ b → covered below u (cond b xs (placed order v (without_below below v xs))) ≡ (covered below u xs || below u v)
      go true h = inside h (below u v) refl
      go false h = covered-placed u v (without_below below v xs) ∙ covered-without_below u v xs ∙ or_comm (below u v) (covered below u xs)

module _ {E : Type 0} (P : E → Type 0) where
  all_filtered : (keep : E → Bool) (xs : List E) → AllByRecursion P xs → AllByRecursion P (filter keep xs)
  all_filtered keep [] h = tt
  all_filtered keep (x ∷ xs) h =
      let rest = all_filtered keep xs h.1 in
      elim (keep x) as (λ b. AllByRecursion P (cond b (x ∷ filter keep xs) (filter keep xs))) [ true ↦ (h.0, rest) | false ↦ rest ]

  all_placed : (order : E → E → Ordering) (v : E) (xs : List E) → P v → AllByRecursion P xs → AllByRecursion P (placed order v xs)
  all_placed order v [] p h = (p, tt)
  all_placed order v (x ∷ xs) p h =
      let rest = all_placed order v xs p h.1 in
      elim (is_lt (order v x)) as (λ b. AllByRecursion P (cond b (v ∷ x ∷ xs) (x ∷ placed order v xs))) [ true ↦ (p, h) | false ↦ (h.0, rest) ]

  pub all_added : (below : E → E → Bool) (order : E → E → Ordering) (v : E) (xs : List E) → P v → AllByRecursion P xs → AllByRecursion P (added below order v xs)
  all_added below order v xs p h =
      let rest = all_placed order v (without_below below v xs) p (all_filtered (λ e. not (below e v)) xs h) in
      elim (covered below v xs) as (λ b. AllByRecursion P (cond b xs (placed order v (without_below below v xs)))) [ true ↦ h | false ↦ rest ]
