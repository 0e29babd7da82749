-- Functions that tell the same valuations apart have splittings with the same cubes.
use Rattle.std.proofs.Common.{◌≡◌, ◌⊎◌, inl, inr, ℕ, ◌+◌, ◌/◌, ◌%◌, ◌^◌, ◌<◌, ◌≤◌, Bool, true, false, nat_lt, List, [], ◌∷◌, ◌++◌, Option, Some, refl, sym, ◌∙◌, subst, arith}
use Rattle.std.specs.List.{AllZip}
use Rattle.std.proofs.lemmas.Bool.{ltb-true, ltb-false}
use Rattle.word_core.specs.declared.cubes.Cube.{Cube}
use Rattle.word_core.specs.declared.machines.Line.{Line}
use Rattle.word_core.specs.Cube.{IsCube, holds}
use Rattle.letter_tree.specs.Splitting.{fixed}
use Rattle.letter_tree.proofs.CubeBits.{bit_cases}
use Rattle.letter_tree.proofs.SplitLines.{IsCube-wider, IsCube-fixed}
use Rattle.strategy_play.specs.Splitting.{DependsOn, IsSplitting}
use Rattle.strategy_play.specs.Splitting.IsSplitting.{whole, split}
use Rattle.strategy_play.proofs.Halves.{half_inside, half_holds, want_held, want_within, later_alike, raised_held}

pub zip_append : {X Y : Type 0} (R : X → Y → Type 0) (xs : List X) (ys : List Y) (us : List X) (vs : List Y) → AllZip R xs ys → AllZip R us vs → AllZip R (xs ++ us) (ys ++ vs)
zip_append R [] [] us vs a b = b
zip_append R [] (y ∷ ys) us vs a b = absurd a
zip_append R (x ∷ xs) [] us vs a b = absurd a
zip_append R (x ∷ xs) (y ∷ ys) us vs a b = (a.0, zip_append R xs ys us vs a.1 b)

module _ (w : ℕ) (f : ℕ → Option (ℕ × ℕ)) where
  -- inside a cube valuations that are alike from a signal on have one value
  abbrev IsAlikeFrom : ℕ → Cube → Type 0
  IsAlikeFrom from c = (x y : ℕ) → x < 2 ^ w → y < 2 ^ w → holds c x ≡ true → holds c y ≡ true → x / 2 ^ from ≡ y / 2 ^ from → f x ≡ f y

  pub skips : (from : ℕ) (c : Cube) (lines : List Line) → IsSplitting w f from c lines → IsCube from c → IsAlikeFrom from c
  skips from c _ (whole _ _ own next k) is x y lx ly hx hy e = k x lx hx ∙ sym (k y ly hy)
  skips from c _ (split _ s _ low high a b dep p q) is x y lx ly hx hy e =
      by (bit_cases (x / 2 ^ s)) (λ is' hx' hy' e'. skips (s + 1) (fixed c s false) low p is' x y lx ly hx' hy' e') (λ is' hx' hy' e'. skips (s + 1) (fixed c s true) high q is' x y lx ly hx' hy' e')
    where
      at : IsCube s c
      at = IsCube-wider from s c a is

      by : (x / 2 ^ s % 2 ≡ 0) ⊎ (x / 2 ^ s % 2 ≡ 1)
          → (IsCube (s + 1) (fixed c s false) → holds (fixed c s false) x ≡ true → holds (fixed c s false) y ≡ true → x / 2 ^ (s + 1) ≡ y / 2 ^ (s + 1) → f x ≡ f y)
          → (IsCube (s + 1) (fixed c s true) → holds (fixed c s true) x ≡ true → holds (fixed c s true) y ≡ true → x / 2 ^ (s + 1) ≡ y / 2 ^ (s + 1) → f x ≡ f y)
          → f x ≡ f y
      by (inl bit) low_same high_same =
          low_same (IsCube-fixed s c false at) (half_holds s c false x at hx bit) (half_holds s c false y at hy (subst (λ n. n % 2 ≡ 0) (later_alike from s x y a e) bit)) (later_alike from (s + 1) x y (omega (arith, a)) e)
      by (inr bit) low_same high_same =
          high_same (IsCube-fixed s c true at) (half_holds s c true x at hx bit) (half_holds s c true y at hy (subst (λ n. n % 2 ≡ 1) (later_alike from s x y a e) bit)) (later_alike from (s + 1) x y (omega (arith, a)) e)

-- a function that doesn't depend on a signal is not one that does
depends_not : (w : ℕ) (f : ℕ → Option (ℕ × ℕ)) (c : Cube) (s : ℕ) → IsCube s c → s < w → DependsOn w f c s → IsAlikeFrom w f (s + 1) c → ⊥
depends_not w f c s is l dep alike =
    let r = raised_held s c dep.without is dep.held in
    dep.differ (alike dep.without (dep.without + 2 ^ s) dep.within (r.0.within w l dep.within) (half_inside s c false dep.without is dep.held).0 r.1 (sym r.0.upper))

module _ (w : ℕ) (f g : ℕ → Option (ℕ × ℕ)) (to : (x y : ℕ) → x < 2 ^ w → y < 2 ^ w → f x ≡ f y → g x ≡ g y) (back : (x y : ℕ) → x < 2 ^ w → y < 2 ^ w → g x ≡ g y → f x ≡ f y)
    (R : ℕ × ℕ → ℕ × ℕ → Type 0) (related : (x : ℕ) (u v : ℕ × ℕ) → x < 2 ^ w → f x ≡ Some u → g x ≡ Some v → R u v) where
  -- lines with one cube and related values
  abbrev pub AreRelated : Line → Line → Type 0
  AreRelated l m = (l.when ≡ m.when) × R (l.own, l.next) (m.own, m.next)

  pub one_splitting : (from : ℕ) (c : Cube) (ls : List Line) → IsSplitting w f from c ls → (ms : List Line) → IsCube from c → from ≤ w → IsSplitting w g from c ms → AllZip AreRelated ls ms
  one_splitting from c _ (whole _ _ own next k) _ is le (whole _ _ own' next' k') =
      let wide : IsCube w c = IsCube-wider from w c le is in
      let lw = want_within w c wide in
      let hw = want_held w c wide in
      ((refl, related c.want (own, next) (own', next') lw (k c.want lw hw) (k' c.want lw hw)), tt)
  one_splitting from c _ (whole _ _ own next k) _ is le (split _ t _ low high a l dep p q) =
      absurd (depends_not w g c t (IsCube-wider from t c a is) l dep (λ x y lx ly hx hy e. to x y lx ly (k x lx hx ∙ sym (k y ly hy))))
  one_splitting from c _ (split _ s _ low high a l dep p q) _ is le (whole _ _ own next k) =
      absurd (depends_not w f c s (IsCube-wider from s c a is) l dep (λ x y lx ly hx hy e. back x y lx ly (k x lx hx ∙ sym (k y ly hy))))
  one_splitting from c _ (split _ s _ low high a l dep p q) _ is le (split _ t _ low' high' a' l' dep' p' q') =
      by (nat_lt s t) refl (nat_lt t s) refl
      (λ is' le' r. one_splitting (s + 1) (fixed c s false) low p low' is' le' r) (λ is' le' r. one_splitting (s + 1) (fixed c s true) high q high' is' le' r)
    where
      at : IsCube s c
      at = IsCube-wider from s c a is

      at' : IsCube t c
      at' = IsCube-wider from t c a' is

      by : (b : Bool) → nat_lt s t ≡ b → (d : Bool) → nat_lt t s ≡ d
          → (IsCube (s + 1) (fixed c s false) → s + 1 ≤ w → IsSplitting w g (s + 1) (fixed c s false) low' → AllZip AreRelated low low')
          → (IsCube (s + 1) (fixed c s true) → s + 1 ≤ w → IsSplitting w g (s + 1) (fixed c s true) high' → AllZip AreRelated high high')
          → AllZip AreRelated (low ++ high) (low' ++ high')
      by true e d h one_low one_high =
          let less : s + 1 ≤ t = omega (arith, ltb-true s t e) in
          absurd (depends_not w f c s at l dep (λ x y lx ly hx hy k. back x y lx ly
          (skips w g (s + 1) c (low' ++ high') (split (s + 1) t c low' high' less l' dep' p' q') (IsCube-wider s (s + 1) c (omega arith) at) x y lx ly hx hy k)))
      by false e true h one_low one_high =
          let less : t + 1 ≤ s = omega (arith, ltb-true t s h) in
          absurd (depends_not w g c t at' l' dep' (λ x y lx ly hx hy k. to x y lx ly
          (skips w f (t + 1) c (low ++ high) (split (t + 1) s c low high less l dep p q) (IsCube-wider t (t + 1) c (omega arith) at') x y lx ly hx hy k)))
      by false e false h one_low one_high =
          let one : t ≡ s = omega (arith, ltb-false s t e, ltb-false t s h) in
          zip_append AreRelated low low' high high'
          (one_low (IsCube-fixed s c false at) (omega (arith, l)) (subst (λ n. IsSplitting w g (n + 1) (fixed c n false) low') one p'))
          (one_high (IsCube-fixed s c true at) (omega (arith, l)) (subst (λ n. IsSplitting w g (n + 1) (fixed c n true) high') one q'))
