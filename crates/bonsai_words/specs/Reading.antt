-- What words give: pairs of a name and a value. One word is read at a time.
use Rattle.std.specs.Prelude.{ℕ, suc, ◌==◌, ◌&&◌, Bool, true, false, not, List, [], ◌∷◌, ◌++◌}
use Rattle.std.specs.Prelude.{Option, Some, None, codes, if◌then◌else◌, find, option_map}
use Rattle.std.specs.Prelude.{option_and_then, slice_get}
use Rattle.std.specs.List.{list_any, before_first, after_first}
use Rattle.std.specs.Str.{bytes_eq}

abbrev pub Text : Type 0
Text = List ℕ

-- the values of plain words, options and flags, each with its name
abbrev pub Given : Type 0
Given = List (Text × Text)

-- the names of a command's plain words in order, and its options, each with whether it has a value
pub record Table : Type 0 where
  pub places : List Text
  pub options : List (Text × Bool)

-- ---- one word

-- what a word is where no value is awaited: a plain word, `--`, an option, or nothing that may
-- stand there
pub data Kind : Type 0 where
  plain : Kind
  dashes : Kind
  named : Text → Option Text → Kind
  unknown : Kind

-- 61 is `=`
abbrev pub is_equals : ℕ → Bool
is_equals b = b == 61

-- what stands behind `--`, as `name` or `name=value`
abbrev pub named_kind : Text → Kind
named_kind [] = dashes
named_kind (x ∷ xs) = named (before_first is_equals (x ∷ xs))
    (if list_any is_equals (x ∷ xs) then Some (after_first is_equals (x ∷ xs)) else None)

-- what stands behind `-` (45)
abbrev pub dashed_kind : Text → Kind
dashed_kind [] = plain
dashed_kind (x ∷ xs) = if x == 45 then named_kind xs else unknown

abbrev pub kind_of : Text → Kind
kind_of [] = plain
kind_of (x ∷ xs) = if x == 45 then dashed_kind xs else plain

-- the word may be the value of an option: it doesn't begin with `-`
abbrev pub is_value : Text → Bool
is_value [] = true
is_value (x ∷ xs) = not (x == 45)

-- ---- all words

-- what comes next: any word, the value of this option, or plain words alone
pub data Mode : Type 0 where
  between : Mode
  awaits : Text → Mode
  ended : Mode

abbrev pub paired : Text → Text → Option Given → Option Given
paired name value = option_map (λ g. (name, value) ∷ g)

-- a plain word, at its place
abbrev pub placed : Option Text → Text → Option Given → Option Given
placed None word rest = None
placed (Some place) word rest = paired place word rest

-- an option has a value, `=` or not, and a flag has none; a flag that is given is `true`
abbrev pub option_step : Text → Bool → Option Text → (Mode → Option Given) → Option Given
option_step name true (Some value) rest = paired name value (rest between)
option_step name true None rest = rest (awaits name)
option_step name false (Some value) rest = None
option_step name false None rest = paired name (codes "true") (rest between)

abbrev pub option_met : Option (Text × Bool) → Option Text → (Mode → Option Given) → Option Given
option_met None value rest = None
option_met (Some o) value rest = option_step o.0 o.1 value rest

abbrev pub option_named : Table → Text → Option (Text × Bool)
option_named t name = find (λ o. bytes_eq o.0 name) t.options

-- a word by its kind, with what the words behind it give
abbrev pub kind_step : Table → Kind → Text → ℕ → (Mode → ℕ → Option Given) → Option Given
kind_step t plain word n rest = placed (slice_get t.places n) word (rest between (suc n))
kind_step t dashes word n rest = rest ended n
kind_step t (named name value) word n rest =
    option_met (option_named t name) value (λ m. rest m n)
kind_step t unknown word n rest = None

abbrev pub value_step : Bool → Text → Text → Option Given → Option Given
value_step true name word rest = paired name word rest
value_step false name word rest = None

abbrev pub word_step : (Text → Bool) → Table → Mode → ℕ → Text → (Mode → ℕ → Option Given)
    → Option Given
word_step test t between n word rest = kind_step t (kind_of word) word n rest
word_step test t (awaits name) n word rest = value_step (test word) name word (rest between n)
word_step test t ended n word rest = placed (slice_get t.places n) word (rest ended (suc n))

abbrev pub end_step : Mode → Option Given
end_step (awaits name) = None
end_step _ = Some []

-- what the words give, behind n plain words; `test` says which word may be an option's value
abbrev pub given : (Text → Bool) → Table → List Text → Mode → ℕ → Option Given
given test t [] m n = end_step m
given test t (word ∷ words) m n = word_step test t m n word (given test t words)

-- ---- once each

abbrev pub has : Text → Given → Bool
has name = list_any (λ p. bytes_eq p.0 name)

-- no name stands twice, nor among those before
abbrev pub is_once : Given → Given → Bool
is_once before [] = true
is_once before (p ∷ g) = not (has p.0 before) && is_once (before ++ p ∷ []) g

abbrev pub once : Given → Option Given
once g = if is_once [] g then Some g else None

-- what a command's words give, where they may stand behind it
abbrev pub reading : Table → List Text → Option Given
reading t words = option_and_then once (given is_value t words between 0)

abbrev pub value_of : Text → Given → Option Text
value_of name g = option_map (λ p. p.1) (find (λ p. bytes_eq p.0 name) g)
