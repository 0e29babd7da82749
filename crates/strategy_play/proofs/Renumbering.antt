-- Renumbered lines are the splitting of what they decide.
use Rattle.std.proofs.Common.{◌≡◌, ℕ, ◌+◌, ◌<◌, ◌^◌, Bool, true, false, cond, List, [], ◌∷◌, ◌++◌, length, get_or, Option, Some, None, refl, sym, ◌∙◌, ap, subst}
use Rattle.std.specs.Prelude.{option_map}
use Rattle.std.specs.List.{AllZip}
use Rattle.std.specs.Option.{MatchOption}
use Rattle.std.proofs.lemmas.Option.{same_Some}
use Rattle.word_core.specs.declared.cubes.Cube.{Cube}
use Rattle.word_core.specs.declared.machines.Line.{Line}
use Rattle.word_core.specs.Cube.{holds}
use Rattle.word_core.specs.Machine.{choice}
use Rattle.letter_tree.specs.Splitting.{fixed}
use Rattle.strategy_play.specs.Splitting.{decision, IsSplitting}
use Rattle.strategy_play.specs.Splitting.IsSplitting.{whole, split}
use Rattle.strategy_play.specs.Walk.{IsRenumbered}

record HasParts {X Y : Type 0} (R : X → Y → Type 0) (xs ys : List X) (zs : List Y) : Type 0 where
  left : List Y
  right : List Y
  is : zs ≡ left ++ right
  left_zip : AllZip R xs left
  right_zip : AllZip R ys right

zip_parts : {X Y : Type 0} (R : X → Y → Type 0) (xs ys : List X) (zs : List Y) → AllZip R (xs ++ ys) zs → HasParts R xs ys zs
zip_parts R [] ys zs z = record { left = []; right = zs; is = refl; left_zip = tt; right_zip = z }
zip_parts R (x ∷ xs) ys [] z = absurd z
zip_parts R (x ∷ xs) ys (u ∷ zs) z =
    let r = zip_parts R xs ys zs z.1 in
    record { left = u ∷ r.left; right = r.right; is = ap (λ us. u ∷ us) r.is; left_zip = (z.0, r.left_zip); right_zip = r.right_zip }

module _ (order : List ℕ) (once : (i j : ℕ) → i < length order → j < length order → get_or order i 0 ≡ get_or order j 0 → i ≡ j) where
  -- the value with the number of the entry to which the other one leads
  abbrev Renumbers : Option (ℕ × ℕ) → Option (ℕ × ℕ) → Type 0
  Renumbers u v = MatchOption v (u ≡ None) (λ p. (p.1 < length order) × (u ≡ Some (p.0, get_or order p.1 0)))

  decides_renumbered : (ls ms : List Line) (x : ℕ) → AllZip (IsRenumbered order) ls ms → Renumbers (decision ls x) (decision ms x)
  decides_renumbered [] [] x z = refl
  decides_renumbered [] (m ∷ ms) x z = absurd z
  decides_renumbered (l ∷ ls) [] x z = absurd z
  decides_renumbered (l ∷ ls) (m ∷ ms) x z =
      subst (λ c. Renumbers (decision (l ∷ ls) x) (option_map (λ (k : Line). (k.own, k.next)) (cond (holds c x) (Some m) (choice ms x)))) (sym z.0.when) (go (holds l.when x) (decides_renumbered ls ms x z.1))
    where
      go : (b : Bool) → Renumbers (decision ls x) (decision ms x) → Renumbers (option_map (λ (k : Line). (k.own, k.next)) (cond b (Some l) (choice ls x))) (option_map (λ (k : Line). (k.own, k.next)) (cond b (Some m) (choice ms x)))
      go true rest = (z.0.within, ap (λ (o : ℕ). Some (o, l.next)) (sym z.0.own) ∙ ap (λ (n : ℕ). Some (m.own, n)) (sym z.0.next))
      go false rest = rest

  one_value : (u v : ℕ × ℕ) → u.1 < length order → v.1 < length order → ◌≡◌ {A = ℕ × ℕ} (u.0, get_or order u.1 0) (v.0, get_or order v.1 0) → u ≡ v
  one_value u v lu lv e =
      ap (λ (o : ℕ). (o, u.1)) (ap (λ (p : ℕ × ℕ). p.0) e) ∙ ap (λ (n : ℕ). (v.0, n)) (once u.1 v.1 lu lv (ap (λ (p : ℕ × ℕ). p.1) e))

  module _ (w : ℕ) (f g : ℕ → Option (ℕ × ℕ)) (renumbers : (x : ℕ) → Renumbers (f x) (g x)) where
    value_is : (x : ℕ) (u v : ℕ × ℕ) → f x ≡ Some u → v.1 < length order → ◌≡◌ {A = ℕ × ℕ} (v.0, get_or order v.1 0) u → g x ≡ Some v
    value_is x u v e lv is = by (g x) refl (renumbers x)
      where
        by : (o : Option (ℕ × ℕ)) → g x ≡ o → Renumbers (f x) o → g x ≡ Some v
        by None k r = absurd (let none : f x ≡ None = r in cc)
        by (Some p) k r = k ∙ ap (λ (q : ℕ × ℕ). Some q) (one_value p v r.0 lv (same_Some _ _ (sym r.1 ∙ e) ∙ sym is))

    differs : (x y : ℕ) → g x ≡ g y → f x ≡ f y
    differs x y e = by (g x) refl (renumbers x) (subst (λ o. Renumbers (f y) o) (sym e) (renumbers y))
      where
        by : (o : Option (ℕ × ℕ)) → g x ≡ o → Renumbers (f x) o → Renumbers (f y) (g x) → f x ≡ f y
        by None k r q = r ∙ sym (subst (Renumbers (f y)) k q)
        by (Some p) k r q = r.1 ∙ sym (subst (Renumbers (f y)) k q).1

    pub split_renumbered : (from : ℕ) (c : Cube) (ls : List Line) → IsSplitting w f from c ls → (ms : List Line) → AllZip (IsRenumbered order) ls ms → IsSplitting w g from c ms
    split_renumbered from c _ (whole _ _ own next k) [] z = absurd z
    split_renumbered from c _ (whole _ _ own next k) (m ∷ n ∷ ms) z = absurd z.1
    split_renumbered from c _ (whole _ _ own next k) (m ∷ []) z =
        subst (λ d. IsSplitting w g from c (record { when = d; own = m.own; next = m.next } ∷ [])) (sym z.0.when)
        (whole from c m.own m.next (λ x lx hx. value_is x (own, next) (m.own, m.next) (k x lx hx) z.0.within (ap (λ (o : ℕ). (o, get_or order m.next 0)) z.0.own ∙ ap (λ (n : ℕ). (own, n)) z.0.next)))
    split_renumbered from c _ (split _ s _ low high a l dep p q) ms z =
        let r = zip_parts (IsRenumbered order) low high ms z in
        subst (IsSplitting w g from c) (sym r.is)
        (split from s c r.left r.right a l (record { without = dep.without; within = dep.within; held = dep.held; differ = λ e. dep.differ (differs dep.without (dep.without + 2 ^ s) e) })
        (split_renumbered (s + 1) (fixed c s false) low p r.left r.left_zip) (split_renumbered (s + 1) (fixed c s true) high q r.right r.right_zip))

  pub lines_renumbered : (w from : ℕ) (c : Cube) (ls ms : List Line) → AllZip (IsRenumbered order) ls ms → IsSplitting w (decision ls) from c ls → IsSplitting w (decision ms) from c ms
  lines_renumbered w from c ls ms z is = split_renumbered w (decision ls) (decision ms) (λ x. decides_renumbered ls ms x z) from c ls is ms z
