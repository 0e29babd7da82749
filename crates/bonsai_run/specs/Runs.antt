-- What is known of the names of an order, and of statuses.
use Rattle.std.specs.Prelude.{ℕ, ◌≤◌, List, [], string_bytes}
use Rattle.bonsai_words.specs.Ordered.{Asked}
use Rattle.bonsai_words.specs.Ordered.Asked.{synth, downset, check, eval, gen}
use Rattle.bonsai_words.specs.declared.orders.Order.{Order}
use Rattle.bonsai_words.specs.declared.orders.Order.TheVariants.{Synth, Downset, Check, Eval, Gen}

-- the name of an order's specification
abbrev pub first_name : Order → List ℕ
first_name (Synth name bounds workers as_written) = string_bytes name
first_name (Downset name player bound as_written) = string_bytes name
first_name (Check name machine bound as_written) = string_bytes name
first_name (Eval name lasso as_written) = string_bytes name
first_name (Gen clients workers) = []

-- the name of its machine or lasso
abbrev pub second_name : Order → List ℕ
second_name (Check name machine bound as_written) = string_bytes machine
second_name (Eval name lasso as_written) = string_bytes lasso
second_name _ = []

-- the two names of what the words ask
abbrev pub name_of : Asked → List ℕ
name_of (synth name bounds workers as_written) = name
name_of (downset name player bound as_written) = name
name_of (check name machine bound as_written) = name
name_of (eval name lasso as_written) = name
name_of (gen clients workers) = []

abbrev pub other_of : Asked → List ℕ
other_of (check name machine bound as_written) = machine
other_of (eval name lasso as_written) = lasso
other_of _ = []

-- the statuses of faults
abbrev pub IsFaultStatus : ℕ → Type 0
IsFaultStatus status = (1 ≤ status) × (status ≤ 6)
