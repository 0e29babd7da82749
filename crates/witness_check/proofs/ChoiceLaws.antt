-- The line that decides, among the first ones.
use Rattle.std.proofs.Common.{◌≡◌, ℕ, ◌+◌, ◌<◌, true, false, Bool, cond, List, [], ◌∷◌, ◌++◌, length, get_or, take, Some, None, refl, sym, ap, ◌∙◌}
use Rattle.std.specs.Prelude.{◌%◌, ◌^◌, nat_eq, bit_and}
use Rattle.std.specs.List.{All}
use Rattle.std.proofs.lemmas.List.Elements.{All-head, All-tail}
use Rattle.std.proofs.lemmas.List.{take_more}
use Rattle.word_core.specs.declared.cubes.Cube.{Cube}
use Rattle.word_core.specs.declared.machines.Line.{Line}
use Rattle.word_core.specs.Cube.{holds, IsCube}
use Rattle.word_core.specs.Machine.{choice}
use Rattle.word_core.proofs.BitLaws.{both_agree, and_low}
use Rattle.word_core.proofs.CubeHalves.{holds_is}

not_holds : (c : Cube) (x : ℕ) → (bit_and x c.care ≡ c.want → ⊥) → holds c x ≡ false
not_holds c x n = go (holds c x) refl
  where
    go : (b : Bool) → holds c x ≡ b → holds c x ≡ false
    go true e = absurd (n (holds_is c x e))
    go false e = e

-- bits past the width don't matter to cubes within it
pub holds_mod : (c : Cube) (x n : ℕ) → IsCube n c → holds c (x % 2 ^ n) ≡ holds c x
holds_mod c x n w = ap (λ v. nat_eq v c.want) (and_low x c.care n w.0)

pub choice_mod : (lines : List Line) (x n : ℕ) → All (λ l. IsCube n l.when) lines → choice lines (x % 2 ^ n) ≡ choice lines x
choice_mod [] x n w = refl
choice_mod (l ∷ ls) x n w =
    ap (λ b. cond b (Some l) (choice ls (x % 2 ^ n))) (holds_mod l.when x n (All-head (λ m. IsCube n m.when) l ls w))
    ∙ ap (cond (holds l.when x) (Some l)) (choice_mod ls x n (All-tail (λ m. IsCube n m.when) l ls w))

pub choice_none : (l : Line) (ls : List Line) (x : ℕ) → holds l.when x ≡ false → choice ls x ≡ None → choice (l ∷ ls) x ≡ None
choice_none l ls x h k = ap (λ b. cond b (Some l) (choice ls x)) h ∙ k

choice_push : (ls : List Line) (l : Line) (x : ℕ) → choice ls x ≡ None → holds l.when x ≡ false → choice (ls ++ l ∷ []) x ≡ None
choice_push [] l x h k = choice_none l [] x k refl
choice_push (m ∷ ms) l x h k = go (holds m.when x) refl (λ e. choice_push ms l x e k)
  where
    go : (b : Bool) → holds m.when x ≡ b → (choice ms x ≡ None → choice (ms ++ l ∷ []) x ≡ None) → choice ((m ∷ ms) ++ l ∷ []) x ≡ None
    go true e ih = (let s : choice (m ∷ ms) x ≡ Some m = ap (λ b. cond b (Some m) (choice ms x)) e in absurd cc)
    go false e ih = choice_none m (ms ++ l ∷ []) x e (ih (sym (ap (λ b. cond b (Some m) (choice ms x)) e) ∙ h))

-- one more line that doesn't hold the valuation
pub choice_more : (lines : List Line) (i : ℕ) (d : Line) (x : ℕ) → i < length lines → choice (take i lines) x ≡ None → holds (get_or lines i d).when x ≡ false → choice (take (i + 1) lines) x ≡ None
choice_more lines i d x l h k = ap (λ ls. choice ls x) (take_more lines i d l) ∙ choice_push (take i lines) (get_or lines i d) x h k

-- cubes that disagree hold nothing in common
pub not_both : (a b : Cube) (x : ℕ) → (bit_and a.want b.care ≡ bit_and b.want a.care → ⊥) → holds b x ≡ true → holds a x ≡ false
not_both a b x n h = not_holds a x (λ e. n (both_agree x a.care a.want b.care b.want e (holds_is b x h)))
