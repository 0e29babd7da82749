-- The valuations of the side that moves first and of the other.
use Rattle.std.specs.Prelude.{ℕ, ◌+◌, ◌*◌, ◌^◌, Bool, List, [], ◌∷◌, ◌++◌, map, if◌then◌else◌, Vec}
use Rattle.std.specs.declared.alloc.Global.{Global}
use Rattle.action_groups.specs.declared.orders.Order.{Order}
use Rattle.action_groups.specs.Lists.{items_at}

-- the number of signals of the side that moves first, and of the other
abbrev pub leading : ℕ → ℕ → Bool → ℕ
leading inputs outputs lead = if lead then inputs else outputs

abbrev pub following : ℕ → ℕ → Bool → ℕ
following inputs outputs lead = if lead then outputs else inputs

abbrev pub leads : Order → ℕ
leads order = leading order.inputs order.outputs order.inputs_first

abbrev pub follows : Order → ℕ
follows order = following order.inputs order.outputs order.inputs_first

-- the letter of two valuations as a number, the inputs in its first bits
abbrev pub letter_number : ℕ → Bool → ℕ → ℕ → ℕ
letter_number inputs lead first second = if lead then first + second * 2 ^ inputs else second + first * 2 ^ inputs

-- the letter of a first valuation with an option's
abbrev pub letter_with : Order → ℕ → ℕ × ℕ → ℕ × ℕ
letter_with order first p = (letter_number order.inputs order.inputs_first first p.0, p.1)

-- the letters of the first valuations of these pairs, each with the options of its list
abbrev pub letters_of : Order → List (Vec (ℕ × ℕ) Global) → List (ℕ × ℕ) → List (ℕ × ℕ)
letters_of order lists [] = []
letters_of order lists (p ∷ pairs) = map (letter_with order p.0) (items_at lists p.1) ++ letters_of order lists pairs
