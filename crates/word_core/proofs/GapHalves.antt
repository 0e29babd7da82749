-- The least gap of a cube from those of its halves.
use Rattle.std.proofs.Common.{◌≡◌, ℕ, ◌≤◌, ◌%◌, ◌^◌, ◌⊎◌, min, true, cond, List, [], ◌∷◌, Option, Some, None, refl, sym, ap, ◌∙◌, subst, inl, inr, arith}
use Rattle.std.specs.Prelude.{nat_eq, bit_and, bit_or}
use Rattle.std.proofs.lemmas.Nat.{and_le_l}
use Rattle.word_core.specs.declared.cubes.Cube.{Cube}
use Rattle.word_core.specs.declared.machines.Line.{Line}
use Rattle.std.specs.List.{All}
use Rattle.std.specs.Prelude.{IsSome}
use Rattle.std.specs.Int.Bits.{and_zero_r}
use Rattle.std.proofs.lemmas.List.Elements.{All-head, All-tail}
use Rattle.std.proofs.lemmas.Nat.{mod_below, pow_pos}
use Rattle.word_core.specs.Cube.{holds, IsCube}
use Rattle.word_core.specs.Machine.{choice, IsDecided}
use Rattle.word_core.proofs.BitLaws.{and_low}
use Rattle.word_core.specs.Gap.{IsGap, IsLeastGap, IsSingle, lesser_of}
use Rattle.word_core.proofs.CubeHalves.{holds_is, is_holds, halves, from_low, from_high}

-- lines that choose alike within a cube have the same gaps in it
pub same_gap : (lines lines' : List Line) (inner : Cube) (r : Option ℕ) → ((x : ℕ) → holds inner x ≡ true → choice lines x ≡ choice lines' x) → IsLeastGap lines inner r → IsLeastGap lines' inner r
same_gap lines lines' inner None same h = λ x g. h x (g.0, same x g.0 ∙ g.1)
same_gap lines lines' inner (Some y) same h =
    ((h.0.0, sym (same y h.0.0) ∙ h.0.1), λ x g. h.1 x (g.0, same x g.0 ∙ g.1))

-- without lines the least valuation of a cube is its want
pub no_lines : (inner : Cube) → bit_and inner.want inner.care ≡ inner.want → IsLeastGap [] inner (Some inner.want)
no_lines inner inside =
    ((is_holds inner inner.want inside, refl), λ x g. let e = holds_is inner x g.0 in let l = and_le_l x inner.care in omega arith)

module _ (lines : List Line) (care want bit : ℕ) (inside : bit_and want care ≡ want) (free : bit_and bit care ≡ 0) (single : IsSingle bit) where
  abbrev whole : Cube
  whole = record { care = care; want = want }

  abbrev low : Cube
  low = record { care = bit_or care bit; want = want }

  abbrev high : Cube
  high = record { care = bit_or care bit; want = bit_or want bit }

  split_gap : (x : ℕ) → IsGap lines whole x → IsGap lines low x ⊎ IsGap lines high x
  split_gap x g =
      elim (halves care want bit inside free single x (holds_is whole x g.0)) [ inl e ↦ inl (is_holds low x e, g.1) | inr e ↦ inr (is_holds high x e, g.1) ]

  low_gap : (x : ℕ) → IsGap lines low x → IsGap lines whole x
  low_gap x g = (is_holds whole x (from_low care want bit inside free x (holds_is low x g.0)), g.1)

  high_gap : (x : ℕ) → IsGap lines high x → IsGap lines whole x
  high_gap x g = (is_holds whole x (from_high care want bit inside free x (holds_is high x g.0)), g.1)

  high_least : (x : ℕ) → holds high x ≡ true → bit_or want bit ≤ x
  high_least x h = let e = holds_is high x h in let l = and_le_l x (bit_or care bit) in omega arith

  -- a gap of the lower half that is at most the least valuation of the upper one
  pub early : (g : ℕ) → IsLeastGap lines low (Some g) → g ≤ bit_or want bit → IsLeastGap lines whole (Some g)
  early g h l =
      (low_gap g h.0, λ x k. elim (split_gap x k) [ inl a ↦ h.1 x a | inr b ↦ (let m = high_least x b.0 in omega arith) ])

  -- the lesser of the two halves' least gaps
  pub joined : (r s : Option ℕ) → IsLeastGap lines low r → IsLeastGap lines high s → IsLeastGap lines whole (lesser_of r s)
  joined None None h k = λ x g. elim (split_gap x g) [ inl a ↦ h x a | inr b ↦ k x b ]
  joined None (Some y) h k = (high_gap y k.0, λ x g. elim (split_gap x g) [ inl a ↦ absurd (h x a) | inr b ↦ k.1 x b ])
  joined (Some y) None h k = (low_gap y h.0, λ x g. elim (split_gap x g) [ inl a ↦ h.1 x a | inr b ↦ absurd (k x b) ])
  joined (Some y) (Some z) h k = (
    elim (lesser y z) [ inl e ↦ subst (IsGap lines whole) (sym e) (low_gap y h.0) | inr e ↦ subst (IsGap lines whole) (sym e) (high_gap z k.0) ],
    λ x g. elim (split_gap x g) [ inl a ↦ (let l = h.1 x a in omega arith) | inr b ↦ (let l = k.1 x b in omega arith) ],
  )
    where
      lesser : (a b : ℕ) → (min a b ≡ a) ⊎ (min a b ≡ b)
      lesser a b = grind arith

-- bits past the width don't matter to cubes within it
holds_mod : (c : Cube) (x n : ℕ) → IsCube n c → holds c (x % 2 ^ n) ≡ holds c x
holds_mod c x n w = ap (λ v. nat_eq v c.want) (and_low x c.care n w.0)

choice_mod : (lines : List Line) (x n : ℕ) → All (λ l. IsCube n l.when) lines → choice lines (x % 2 ^ n) ≡ choice lines x
choice_mod [] x n w = refl
choice_mod (l ∷ ls) x n w =
    ap (λ b. cond b (Some l) (choice ls (x % 2 ^ n))) (holds_mod l.when x n (All-head (λ m. IsCube n m.when) l ls w))
    ∙ ap (cond (holds l.when x) (Some l)) (choice_mod ls x n (All-tail (λ m. IsCube n m.when) l ls w))

all_hold : (x : ℕ) → holds (record { care = 0; want = 0 }) x ≡ true
all_hold x = is_holds (record { care = 0; want = 0 }) x (and_zero_r x)

-- no gap in the cube of all valuations: each is decided
pub none_decided : (lines : List Line) (n : ℕ) → IsLeastGap lines (record { care = 0; want = 0 }) None → IsDecided n lines
none_decided lines n h x l = go (choice lines x) refl
  where
    go : (o : Option Line) → choice lines x ≡ o → IsSome (choice lines x)
    go None e = absurd (h x (all_hold x, e))
    go (Some y) e = subst IsSome (sym e) refl

-- a gap is one within the width too
pub some_undecided : (lines : List Line) (n g : ℕ) → All (λ l. IsCube n l.when) lines → IsLeastGap lines (record { care = 0; want = 0 }) (Some g) → IsDecided n lines → ⊥
some_undecided lines n g w h d =
    let s = d (g % 2 ^ n) (mod_below g (2 ^ n) (pow_pos n)) in
    let e = choice_mod lines g n w ∙ h.0.1 in
    let t = subst IsSome e s in
    cc
