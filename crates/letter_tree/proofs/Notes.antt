-- Notes after one more of them.
use Rattle.std.proofs.Common.{◌≡◌, ℕ, Bool, true, false, cond, ◌&&◌, eqb, Option, Some, refl, sym, ◌∙◌, inl, inr, ◌⊎◌}
use Rattle.std.proofs.lemmas.Bool.Decides.{Decides-eqb}
use Rattle.std.specs.Map.{lookup}
use Rattle.letter_tree.specs.Memo.{Notes, noted, IsNoted}

abbrev place_of : Notes → ℕ × ℕ → Option ℕ
place_of notes q = lookup (λ (k : ℕ × ℕ). eqb q.0 k.0 && eqb q.1 k.1) notes

pub IsNoted-updates : (old new : Notes) (x y place : ℕ) → ((q : ℕ × ℕ) → place_of new q ≡ cond (eqb x q.0 && eqb y q.1) (Some place) (place_of old q)) → IsNoted old new x y place place
unfolding noted
IsNoted-updates old new x y place h = record {
  same = refl;
  others = λ x' y' p e. by_first x' y' p (eqb x x') refl (eqb y y') refl (sym (h (x', y')) ∙ e);
}
  where
    by_first : (x' y' p : ℕ) (a : Bool) → eqb x x' ≡ a → (b : Bool) → eqb y y' ≡ b → cond (a && b) (Some place) (place_of old (x', y')) ≡ Some p → ((x' ≡ x) × (y' ≡ y) × (p ≡ place)) ⊎ (place_of old (x', y') ≡ Some p)
    by_first x' y' p true s true t e = inl (sym ((Decides-eqb x x').0 s), sym ((Decides-eqb y y').0 t), cc)
    by_first x' y' p true s false t e = inr e
    by_first x' y' p false s b t e = inr e
