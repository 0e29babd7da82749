-- Cubes within cubes.
use Rattle.std.proofs.Common.{◌≡◌, ℕ, ◌<◌, ◌⊎◌, Bool, true, false, not, refl, sym, ap, ◌∙◌, inl, inr, arith}
use Rattle.std.specs.Prelude.{nat_eq, bit_and, bit_or}
use Rattle.std.specs.Int.Bits.{and_self, or_zero_r, and_zero_r}
use Rattle.std.proofs.lemmas.Nat.{and_comm, and_assoc, and_or_self, and_or_apart, or_disjoint}
use Rattle.std.proofs.lemmas.Bool.Decides.{Decides-eqb}
use Rattle.word_core.specs.declared.cubes.Cube.{Cube}
use Rattle.word_core.specs.Cube.{holds}
use Rattle.word_core.specs.Gap.{IsSingle}
use Rattle.word_core.proofs.BitLaws.{within_block, both_agree, and_or_distrib}

pub holds_is : (c : Cube) (x : ℕ) → holds c x ≡ true → bit_and x c.care ≡ c.want
holds_is c x h = (Decides-eqb (bit_and x c.care) c.want).0 h

pub is_holds : (c : Cube) (x : ℕ) → bit_and x c.care ≡ c.want → holds c x ≡ true
is_holds c x e = (Decides-eqb (bit_and x c.care) c.want).1 e

not_holds : (c : Cube) (x : ℕ) → (bit_and x c.care ≡ c.want → ⊥) → holds c x ≡ false
not_holds c x n = go (holds c x) refl
  where
    go : (b : Bool) → holds c x ≡ b → holds c x ≡ false
    go true e = absurd (n (holds_is c x e))
    go false e = e

differs : (a b : ℕ) → not (nat_eq a b) ≡ true → a ≡ b → ⊥
differs a b h e = go (nat_eq a b) refl h
  where
    go : (t : Bool) → nat_eq a b ≡ t → not t ≡ true → ⊥
    go true d k = cc
    go false d k = let f = (Decides-eqb a b).1 e in cc

agrees : (a b : ℕ) → not (nat_eq a b) ≡ false → a ≡ b
agrees a b h = go (nat_eq a b) refl h
  where
    go : (t : Bool) → nat_eq a b ≡ t → not t ≡ false → a ≡ b
    go true d k = (Decides-eqb a b).0 d
    go false d k = absurd cc

-- a cube that cares for nothing beyond a block holds all of it or none
pub inside_apart : (c inner : Cube) → bit_and c.care inner.care ≡ c.care → not (nat_eq (bit_and inner.want c.care) c.want) ≡ true → (x : ℕ) → holds inner x ≡ true → holds c x ≡ false
inside_apart c inner p n x h =
    not_holds c x (λ e. differs _ _ n (sym (within_block x inner.care inner.want c.care p (holds_is inner x h)) ∙ e))

pub inside_fills : (c inner : Cube) → bit_and c.care inner.care ≡ c.care → not (nat_eq (bit_and inner.want c.care) c.want) ≡ false → (x : ℕ) → holds inner x ≡ true → holds c x ≡ true
inside_fills c inner p n x h =
    is_holds c x (within_block x inner.care inner.want c.care p (holds_is inner x h) ∙ agrees _ _ n)

-- cubes that want different bits have no valuation in common
pub across_apart : (c inner : Cube) → not (nat_eq (bit_and inner.want c.care) (bit_and c.want inner.care)) ≡ true → (x : ℕ) → holds inner x ≡ true → holds c x ≡ false
across_apart c inner n x h =
    not_holds c x (λ e. differs _ _ n (both_agree x inner.care inner.want c.care c.want (holds_is inner x h) e))

-- the halves of a cube at a single bit that it doesn't care for
module _ (care want bit : ℕ) (inside : bit_and want care ≡ want) (free : bit_and bit care ≡ 0) where
  want_free : bit_and want bit ≡ 0
  want_free =
      ap (λ v. bit_and v bit) (sym inside) ∙ and_assoc bit want care ∙ ap (bit_and want) (and_comm care bit ∙ free) ∙ and_zero_r want

  care_more : bit_and (bit_or care bit) care ≡ care
  care_more = and_or_apart care care bit free ∙ and_self care

  pub low_inside : bit_and want (bit_or care bit) ≡ want
  low_inside =
      and_or_distrib want care bit ∙ ap (λ v. bit_or v (bit_and want bit)) inside ∙ ap (bit_or want) want_free ∙ or_zero_r want

  pub high_inside : bit_and (bit_or want bit) (bit_or care bit) ≡ bit_or want bit
  high_inside =
      and_or_distrib (bit_or want bit) care bit
      ∙ ap (λ v. bit_or v (bit_and (bit_or want bit) bit)) (and_or_apart care want bit free ∙ inside)
      ∙ ap (bit_or want) (and_or_self bit want)

  pub care_rises : 0 < bit → care < bit_or care bit
  care_rises p = let e = or_disjoint care bit (and_comm care bit ∙ free) in omega arith

  pub from_low : (x : ℕ) → bit_and x (bit_or care bit) ≡ want → bit_and x care ≡ want
  from_low x h =
      ap (bit_and x) (sym care_more) ∙ sym (and_assoc care x (bit_or care bit)) ∙ ap (λ v. bit_and v care) h ∙ inside

  pub from_high : (x : ℕ) → bit_and x (bit_or care bit) ≡ bit_or want bit → bit_and x care ≡ want
  from_high x h =
      ap (bit_and x) (sym care_more) ∙ sym (and_assoc care x (bit_or care bit)) ∙ ap (λ v. bit_and v care) h ∙ and_or_apart care want bit free ∙ inside

  pub halves : IsSingle bit → (x : ℕ) → bit_and x care ≡ want → (bit_and x (bit_or care bit) ≡ want) ⊎ (bit_and x (bit_or care bit) ≡ bit_or want bit)
  halves single x h =
      elim (single x) [
        | inl z ↦ inl (and_or_distrib x care bit ∙ ap (λ v. bit_or v (bit_and x bit)) h ∙ ap (bit_or want) z ∙ or_zero_r want)
        | inr s ↦ inr (and_or_distrib x care bit ∙ ap (λ v. bit_or v (bit_and x bit)) h ∙ ap (bit_or want) s)
      ]
