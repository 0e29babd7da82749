-- Which order words name.
use Rattle.std.specs.Prelude.{◌≡◌, Result, Ok, Err, ℕ, ◌==◌, ◌&&◌, ◌||◌, Bool, true, false, not, List, [], ◌∷◌, length}
use Rattle.std.specs.Prelude.{Option, Some, None, codes, if◌then◌else◌, nat_le, option_and_then}
use Rattle.std.specs.Prelude.{string_bytes}
use Rattle.std.specs.List.{list_all}
use Rattle.std.specs.Str.{bytes_eq}
use Rattle.std.specs.Str.Parse.{digits_value}
use Rattle.word_core.specs.declared.names.Player.{Player}
use Rattle.word_core.specs.declared.names.Player.TheVariants.{System, Environment}
use Rattle.bonsai_words.specs.declared.orders.Order.{Order}
use Rattle.bonsai_words.specs.declared.orders.WordsError.{WordsError}
use Rattle.bonsai_words.specs.declared.orders.WordsError.TheVariants.{Usage}
use Rattle.bonsai_words.specs.declared.orders.Order.TheVariants.{Synth, Downset, Check, Eval, Gen}
use Rattle.bonsai_words.specs.Reading.{Text, Table, reading, value_of, has}

-- an order, with its names as bytes
pub data Asked : Type 0 where
  synth : Text → ℕ × ℕ × ℕ → ℕ → Bool → Asked
  downset : Text → Player → ℕ → Bool → Asked
  check : Text → Text → ℕ → Bool → Asked
  eval : Text → Text → Bool → Asked
  gen : ℕ → ℕ → Asked

abbrev pub asked : Order → Asked
asked (Synth name bounds workers as_written) = synth (string_bytes name) bounds workers as_written
asked (Downset name player bound as_written) = downset (string_bytes name) player bound as_written
asked (Check name machine bound as_written) =
    check (string_bytes name) (string_bytes machine) bound as_written
asked (Eval name lasso as_written) = eval (string_bytes name) (string_bytes lasso) as_written
asked (Gen clients workers) = gen clients workers

-- ---- values

abbrev pub is_digit : ℕ → Bool
is_digit b = nat_le 48 b && nat_le b 57

-- `0`, or a digit from 1 to 9 followed by digits
abbrev pub is_number : Text → Bool
is_number [] = false
is_number (d ∷ ds) = list_all is_digit (d ∷ ds) && (not (d == 48) || length ds == 0)

-- the number that a text writes, where it lies in the range
abbrev pub number_in : ℕ → ℕ → Text → Option ℕ
number_in least most text =
    let n = digits_value 10 text in
    if is_number text && (nat_le least n && nat_le n most) then Some n else None

-- the same of an option, with what stands for it where it is left out
abbrev pub number_or : Option ℕ → ℕ → ℕ → Option Text → Option ℕ
number_or default least most None = default
number_or default least most (Some text) = number_in least most text

abbrev pub name_in : Option Text → Option Text
name_in None = None
name_in (Some text) = if length text == 0 then None else Some text

abbrev pub player_in : Option Text → Option Player
player_in None = None
player_in (Some text) = if bytes_eq text (codes "system") then Some System
    else if bytes_eq text (codes "environment") then Some Environment else None

-- ---- commands

-- the value, if there is one, and what is made of it
abbrev pub with : {A B : Type 0} → Option A → (A → Option B) → Option B
with value make = option_and_then make value

abbrev pub written_flag : Text × Bool
written_flag = (codes "as-written", false)

-- the values of a command's plain words and options, by name
abbrev pub Look : Type 0
Look = Text → Option Text

abbrev pub synth_table : Table
synth_table = record {
  places = codes "name" ∷ [];
  options = (codes "bound", true) ∷ (codes "first", true) ∷ (codes "step", true)
      ∷ (codes "workers", true) ∷ written_flag ∷ [];
}

abbrev pub synth_of : Look → Bool → Option Asked
synth_of look as_written =
    with (number_or (Some 8) 0 10000 (look (codes "bound"))) (λ last.
    with (number_or (Some 0) 0 10000 (look (codes "first"))) (λ first.
    with (number_or (Some 1) 1 10000 (look (codes "step"))) (λ step.
    with (number_or (Some 1) 1 64 (look (codes "workers"))) (λ workers.
    if nat_le first last then with (name_in (look (codes "name"))) (λ name.
    Some (synth name (first, step, last) workers as_written)) else None))))

abbrev pub downset_table : Table
downset_table = record {
  places = codes "name" ∷ [];
  options = (codes "player", true) ∷ (codes "bound", true) ∷ written_flag ∷ [];
}

abbrev pub downset_of : Look → Bool → Option Asked
downset_of look as_written =
    with (player_in (look (codes "player"))) (λ player.
    with (number_or None 0 10000 (look (codes "bound"))) (λ bound.
    with (name_in (look (codes "name"))) (λ name.
    Some (downset name player bound as_written))))

abbrev pub check_table : Table
check_table = record {
  places = codes "name" ∷ codes "second" ∷ [];
  options = (codes "bound", true) ∷ written_flag ∷ [];
}

abbrev pub check_of : Look → Bool → Option Asked
check_of look as_written =
    with (number_or None 0 10000 (look (codes "bound"))) (λ bound.
    with (name_in (look (codes "name"))) (λ name.
    with (name_in (look (codes "second"))) (λ machine.
    Some (check name machine bound as_written))))

abbrev pub eval_table : Table
eval_table = record {
  places = codes "name" ∷ codes "second" ∷ [];
  options = written_flag ∷ [];
}

abbrev pub eval_of : Look → Bool → Option Asked
eval_of look as_written =
    with (name_in (look (codes "name"))) (λ name.
    with (name_in (look (codes "second"))) (λ lasso.
    Some (eval name lasso as_written)))

abbrev pub gen_table : Table
gen_table = record {
  places = codes "clients" ∷ [];
  options = (codes "workers", true) ∷ [];
}

abbrev pub gen_of : Look → Bool → Option Asked
gen_of look as_written =
    with (number_or None 1 8 (look (codes "clients"))) (λ clients.
    with (number_or (Some 1) 1 64 (look (codes "workers"))) (λ workers.
    Some (gen clients workers)))

-- ---- orders

-- what a command makes of the words behind it
abbrev pub ordered_by : Table → (Look → Bool → Option Asked) → List Text → Option Asked
ordered_by t make words =
    with (reading t words) (λ g. make (λ name. value_of name g) (has (codes "as-written") g))

-- the order that the words behind a command name
abbrev pub ordered_behind : Text → List Text → Option Asked
ordered_behind command words =
    if bytes_eq command (codes "synth") then ordered_by synth_table synth_of words
    else if bytes_eq command (codes "downset") then ordered_by downset_table downset_of words
    else if bytes_eq command (codes "check") then ordered_by check_table check_of words
    else if bytes_eq command (codes "eval") then ordered_by eval_table eval_of words
    else if bytes_eq command (codes "gen") then ordered_by gen_table gen_of words
    else None

-- the order that the words name
unfoldable pub ordered : List Text → Option Asked
ordered [] = None
ordered (command ∷ words) = ordered_behind command words

-- a reader's answer: the order that is named, or `Usage` only where none is
abbrev pub Answers : Option Asked → Result Order WordsError → Type 0
Answers named (Ok order) = named ≡ Some (asked order)
Answers named (Err e) = e ≡ Usage → named ≡ None
