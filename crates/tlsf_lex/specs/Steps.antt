-- What stands at the front of a text: a blank or a comment, a token, or a fault.
use Rattle.std.specs.Prelude.{ℕ, ◌+◌, List, Option, None, Some, take, drop, position, slice_index, ◌==◌, if◌then◌else◌, codes}
use Rattle.std.specs.List.{starts_with}
use Rattle.std.specs.Prelude.{nat_eq}
use Rattle.tlsf_lex.specs.declared.tokens.Kin.{Kin}
use Rattle.tlsf_lex.specs.declared.tokens.Kin.TheVariants.{Word, Text, Mark, Full}
use Rattle.tlsf_lex.specs.declared.tokens.LexFault.TheVariants.{BadByte, OpenComment, NestedComment, OpenString}
use Rattle.tlsf_lex.specs.declared.steps.Step.{Step}
use Rattle.tlsf_lex.specs.declared.steps.Step.TheVariants.{Skip, Take, Bad}
use Rattle.tlsf_lex.specs.Bytes.{is_blank, is_digit, starts_word, is_in_word, is_mark, is_full_mark, is_full_word, front_len, line_len, pair_place}

-- behind `/*`: a comment goes up to the first `*/`, and no `/*` comes before that
abbrev pub in_closed : ℕ → Option ℕ → Step
in_closed close None = Skip (close + 4)
in_closed close (Some inner) = Bad NestedComment (inner + 2)

abbrev pub closed_at : List ℕ → Option ℕ → Step
closed_at text None = Bad OpenComment 0
closed_at text (Some close) = in_closed close (pair_place 47 42 (take (close + 1) text))

abbrev pub comment_step : List ℕ → Step
comment_step text = closed_at text (pair_place 42 47 text)

-- behind `/`: a comment goes up to the end of the line
abbrev pub slash_step : List ℕ → Step
slash_step text =
    (if starts_with nat_eq text (codes "/") then Skip (1 + line_len text)
    else (if starts_with nat_eq text (codes "*") then comment_step (drop 1 text)
    else Bad BadByte 0))

-- behind `"`: a string goes up to the next one
abbrev pub ended_at : Option ℕ → Step
ended_at None = Bad OpenString 0
ended_at (Some end) = Take Text (end + 2)

abbrev pub string_step : List ℕ → Step
string_step text = ended_at (position (λ b. b == 34) text)

abbrev pub word_kin : List ℕ → Kin
word_kin word = (if is_full_word word then Full else Word)

abbrev pub word_step : List ℕ → Step
word_step text = Take (word_kin (take (front_len is_in_word text) text)) (front_len is_in_word text)

abbrev pub mark_step : List ℕ → Step
mark_step text =
    (if is_mark (slice_index text 0) then Take Mark 1
    else (if is_full_mark (slice_index text 0) then Take Full 1
    else (if starts_with nat_eq text (codes "&&") then Take Mark 2
    else (if starts_with nat_eq text (codes "||") then Take Mark 2
    else (if starts_with nat_eq text (codes "->") then Take Mark 2
    else (if starts_with nat_eq text (codes "<->") then Take Mark 3
    else Bad BadByte 0))))))

-- what stands at the front of a text that isn't empty
abbrev pub step : List ℕ → Step
step text =
    (if is_blank (slice_index text 0) then Skip 1
    else (if slice_index text 0 == 47 then slash_step (drop 1 text)
    else (if slice_index text 0 == 34 then string_step (drop 1 text)
    else (if starts_word (slice_index text 0) then word_step text
    else (if is_digit (slice_index text 0) then Take Full (front_len is_digit text)
    else mark_step text)))))
