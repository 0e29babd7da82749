-- The entries that aren't fresh, by their marks.
use Rattle.std.proofs.Common.{◌≡◌, ℕ, suc, ◌+◌, ◌<◌, Bool, true, false, List, ◌∷◌, length, drop, get_or, ◌∙◌, ap, add-one, drop-cons}
use Rattle.game_core.specs.Board.{open_count, open_place}

pub marks_from : (marks : List Bool) (i : ℕ) (b : Bool) → i < length marks → get_or marks i false ≡ b → drop i marks ≡ b ∷ drop (i + 1) marks
marks_from marks i b lt is = rw add-one (drop-cons marks i false lt ∙ ap (λ c. c ∷ drop (suc i) marks) is)

pub count_fresh : (marks : List Bool) (i : ℕ) → i < length marks → get_or marks i false ≡ true → open_count (drop i marks) ≡ open_count (drop (i + 1) marks)
count_fresh marks i lt is = ap open_count (marks_from marks i true lt is)

pub count_open : (marks : List Bool) (i : ℕ) → i < length marks → get_or marks i false ≡ false → open_count (drop i marks) ≡ suc (open_count (drop (i + 1) marks))
count_open marks i lt is = ap open_count (marks_from marks i false lt is)

pub place_fresh : (marks : List Bool) (i n : ℕ) → i < length marks → get_or marks i false ≡ true → open_place (drop i marks) n ≡ suc (open_place (drop (i + 1) marks) n)
place_fresh marks i n lt is = ap (λ ms. open_place ms n) (marks_from marks i true lt is)

pub place_here : (marks : List Bool) (i n : ℕ) → i < length marks → get_or marks i false ≡ false → n ≡ 0 → open_place (drop i marks) n ≡ 0
place_here marks i n lt is none = ap (λ ms. open_place ms n) (marks_from marks i false lt is) ∙ ap (open_place (false ∷ drop (i + 1) marks)) none

pub place_later : (marks : List Bool) (i n m : ℕ) → i < length marks → get_or marks i false ≡ false → n ≡ suc m → open_place (drop i marks) n ≡ suc (open_place (drop (i + 1) marks) m)
place_later marks i n m lt is more = ap (λ ms. open_place ms n) (marks_from marks i false lt is) ∙ ap (open_place (false ∷ drop (i + 1) marks)) more
