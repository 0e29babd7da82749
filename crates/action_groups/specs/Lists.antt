-- The lists of a set of lists.
use Rattle.std.specs.Prelude.{◌≡◌, ℕ, zero, suc, ◌<◌, List, [], ◌∷◌, length, Vec}
use Rattle.std.specs.declared.alloc.Global.{Global}

abbrev pub items_at : {X : Type 0} → List (Vec X Global) → ℕ → List X
items_at [] c = []
items_at (o ∷ lists) zero = o.items
items_at (o ∷ lists) (suc c) = items_at lists c

-- the lists of earlier places stay
abbrev pub KeepsLists : {X : Type 0} → List (Vec X Global) → List (Vec X Global) → Type 0
KeepsLists before now = (c : ℕ) → c < length before → items_at now c ≡ items_at before c
