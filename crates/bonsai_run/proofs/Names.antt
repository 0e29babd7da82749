-- The names of an order are among the words.
use Rattle.std.proofs.Common.{ℕ, ◌<◌, List, [], length, arith}
use Rattle.std.specs.List.{All, Contains}
use Rattle.bonsai_words.specs.Order.{names_of}
use Rattle.bonsai_words.specs.declared.orders.Order.{Order}
use Rattle.bonsai_words.specs.declared.orders.Order.TheVariants.{Synth, Downset, Check, Eval, Gen}
use Rattle.bonsai_run.specs.declared.faults.Source.{Source}
use Rattle.bonsai_run.specs.declared.faults.Source.TheVariants.{Specification, Other}
use Rattle.bonsai_run.specs.Faults.{named}
use Rattle.bonsai_run.specs.Runs.{first_name, second_name}

pub name_among : (words : List (List ℕ)) (order : Order) (source : Source) → All (Contains words) (names_of order) → 0 < length (named (first_name order) (second_name order) source)
    → Contains words (named (first_name order) (second_name order) source)
name_among words (Synth name bounds workers as_written) Specification all some = all 0 [] (omega arith)
name_among words (Synth name bounds workers as_written) Other all some = absurd (omega arith)
name_among words (Downset name player bound as_written) Specification all some = all 0 [] (omega arith)
name_among words (Downset name player bound as_written) Other all some = absurd (omega arith)
name_among words (Check name machine bound as_written) Specification all some = all 0 [] (omega arith)
name_among words (Check name machine bound as_written) Other all some = all 1 [] (omega arith)
name_among words (Eval name lasso as_written) Specification all some = all 0 [] (omega arith)
name_among words (Eval name lasso as_written) Other all some = all 1 [] (omega arith)
name_among words (Gen clients workers) Specification all some = absurd (omega arith)
name_among words (Gen clients workers) Other all some = absurd (omega arith)
