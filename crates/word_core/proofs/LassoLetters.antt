-- The letters of a lasso in its cycle.
use Rattle.std.proofs.Common.{◌≡◌, ℕ, ◌+◌, ◌-◌, ◌%◌, ◌<◌, ◌≤◌, false, cond, ltb, List, length, get_or, Some, refl, ap, ◌∙◌, arith}
use Rattle.std.specs.Prelude.{slice_get}
use Rattle.std.proofs.Math.Nat.{mod-eq_of_lt}
use Rattle.std.proofs.lemmas.Option.{slice_get_read}
use Rattle.std.proofs.lemmas.Bool.Decides.{nat_tests}
use Rattle.word_core.specs.declared.cubes.Letter.{Letter}
use Rattle.word_core.specs.Lasso.{letter_at}

not_below : (a b : ℕ) → b ≤ a → ltb a b ≡ false
not_below a b h = grind (arith, nat_tests)

pub cycle_letter : (stem cycle : List Letter) (p : ℕ) (x : Letter) → length stem ≤ p → p < length stem + length cycle → x ≡ get_or cycle (p - length stem) x → letter_at (record { stem = stem; cycle = cycle }) p ≡ Some x
cycle_letter stem cycle p x h l e =
    let m : p - length stem < length cycle = omega arith in
    ap (λ b. cond b (slice_get stem p) (slice_get cycle ((p - length stem) % length cycle))) (not_below p (length stem) h)
    ∙ ap (slice_get cycle) (mod-eq_of_lt m)
    ∙ slice_get_read cycle (length cycle) (p - length stem) x refl m e
