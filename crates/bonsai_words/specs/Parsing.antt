-- A command's table as `clap` is told it.
use Rattle.std.specs.Prelude.{◌≡◌, Ok, Err, option_and_then, not, ◌&&◌, Bool, true, false, List, [], ◌++◌, map, Option, Some, None, Result, codes, if◌then◌else◌}
use Rattle.std.specs.List.{list_any}
use Rattle.std.specs.Str.{bytes_eq}
use Rattle.clap.specs.Words.{App, Rule, new_rule, fault_of, first_value, one_text, found_of, matches_of, rows_of}
use Rattle.clap.specs.Simple.{new_shape}
use Rattle.clap.specs.declared.builder.action.ArgAction.TheVariants.{Set, SetTrue}
use Rattle.clap.specs.declared.parser.matches.ArgMatches.{ArgMatches}
use Rattle.bonsai_words.specs.declared.orders.WordsError.{WordsError}
use Rattle.bonsai_words.specs.declared.orders.WordsError.TheVariants.{Usage}
use Rattle.bonsai_words.specs.Reading.{Text, Table, Given, Kind, plain, dashes, named, unknown, kind_of, between, given, has, once, option_named, value_of}

abbrev pub place_rule : Text → Rule
place_rule name = record (new_rule name) { action = Some Set }

abbrev pub value_rule : Text → Rule
value_rule name = record (new_rule name) { long = Some name; action = Some Set }

abbrev pub flag_rule : Text → Rule
flag_rule name = record (new_rule name) { long = Some name; action = Some SetTrue }

abbrev pub option_rule : Text × Bool → Rule
option_rule o = if o.1 then value_rule o.0 else flag_rule o.0

abbrev pub bare_app : Text → App
bare_app name = record {
  top = record (new_shape name) { disable_help_flag = true; disable_version_flag = true };
  subs = [];
}

-- the command of this name and table
abbrev pub app_for : Text → Table → App
app_for name t = record {
  top = record (new_shape name) {
    rules = map place_rule t.places ++ map option_rule t.options;
    disable_help_flag = true;
    disable_version_flag = true;
  };
  subs = [];
}

-- ---- what it makes of the words

abbrev pub is_plain : Kind → Bool
is_plain plain = true
is_plain dashes = false
is_plain (named a v) = false
is_plain unknown = false

-- it takes any plain word as an option's value, `-` too
abbrev pub is_loose_value : Text → Bool
is_loose_value word = is_plain (kind_of word)

abbrev pub loosely : Table → List Text → Option Given
loosely t words = option_and_then once (given is_loose_value t words between 0)

abbrev pub is_flag : Table → Text → Bool
is_flag t name = list_any (λ o. not o.1 && bytes_eq o.0 name) t.options

-- what was given, as its getters tell it
pub record Gives (t : Table) (g : Given) (m : ArgMatches) : Type 0 where
  pub values : (name : Text) → is_flag t name ≡ false → first_value (found_of m) name ≡ value_of name g
  pub flags : (name : Text) → option_named t name ≡ Some (name, false)
      → one_text (found_of m) name ≡ Some (if has name g then codes "true" else codes "false")

abbrev pub IsSorted : Table → List Text → Result ArgMatches WordsError → Type 0
IsSorted t words (Ok m) = (g : Given) × (loosely t words ≡ Some g) × Gives t g m
IsSorted t words (Err e) = e ≡ Usage → loosely t words ≡ None

abbrev pub IsTaken : App → List Text → Result ArgMatches WordsError → Type 0
IsTaken a words (Ok m) = (fault_of a words ≡ []) × (rows_of (found_of m) ≡ matches_of a words)
IsTaken a words (Err e) = e ≡ Usage → fault_of a words ≡ [] → ⊥
