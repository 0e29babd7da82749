-- What an order may hold.
use Rattle.std.specs.Prelude.{ℕ, ◌<◌, ◌≤◌, List, [], ◌∷◌, length, String, string_bytes}
use Rattle.std.specs.declared.alloc.Global.{Global}
use Rattle.bonsai_words.specs.declared.orders.Order.{Order}
use Rattle.bonsai_words.specs.declared.orders.Order.TheVariants.{Synth, Downset, Check, Eval, Gen}

-- a name has at least one byte
abbrev pub IsNamed : String Global → Type 0
IsNamed name = 0 < length (string_bytes name)

-- from least to most
abbrev pub IsWithin : ℕ → ℕ → ℕ → Type 0
IsWithin least most n = (least ≤ n) × (n ≤ most)

-- the first, the step and the last of the bounds to try
abbrev pub AreBounds : ℕ × ℕ × ℕ → Type 0
AreBounds b = (b.0 ≤ b.2) × IsWithin 1 10000 b.1 × (b.2 ≤ 10000)

-- each name is one and each number lies in its range
abbrev pub IsInRange : Order → Type 0
IsInRange (Synth name bounds workers as_written) = IsNamed name × AreBounds bounds × IsWithin 1 64 workers
IsInRange (Downset name player bound as_written) = IsNamed name × (bound ≤ 10000)
IsInRange (Check name machine bound as_written) = IsNamed name × IsNamed machine × (bound ≤ 10000)
IsInRange (Eval name lasso as_written) = IsNamed name × IsNamed lasso
IsInRange (Gen clients workers) = IsWithin 1 8 clients × IsWithin 1 64 workers

-- the names of texts, as bytes
abbrev pub names_of : Order → List (List ℕ)
names_of (Synth name bounds workers as_written) = string_bytes name ∷ []
names_of (Downset name player bound as_written) = string_bytes name ∷ []
names_of (Check name machine bound as_written) = string_bytes name ∷ string_bytes machine ∷ []
names_of (Eval name lasso as_written) = string_bytes name ∷ string_bytes lasso ∷ []
names_of (Gen clients workers) = []
