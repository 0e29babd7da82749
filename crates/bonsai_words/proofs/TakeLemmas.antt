-- What `clap` answers for a table's command, in terms of what is read.
use Rattle.std.proofs.Common.{◌≡◌, ◌∙◌, ℕ, suc, Bool, true, false, cond, not, ◌&&◌, ◌||◌, refl, sym, ap, ap₂, List, [], ◌∷◌, ◌++◌, Option, Some, None, codes}
use Rattle.std.specs.Prelude.{find, fold, option_map, is_some}
use Rattle.std.specs.Option.{option_or}
use Rattle.std.specs.List.{list_any}
use Rattle.std.specs.Str.{bytes_eq}
use Rattle.std.proofs.lemmas.Bool.{or_parts}
use Rattle.std.proofs.lemmas.Slice.Eq.{bytes_eq-Decides}
use Rattle.clap.specs.Kinds.{Kinds, or_else}
use Rattle.clap.specs.Walk.{Row, Rule, Walk, at_row, default_rows, finished, has_row, more_values, nothing_held, settled, walk, walk_from, walked, with_default, idle}
use Rattle.clap.specs.Faults.{built_fault, check_fault, default_fault, defaults_fault, entered_fault, fault_of, level_fault, settle_fault, turn_fault, walk_fault}
use Rattle.clap.specs.Simple.{App, Shape, entered}
use Rattle.clap.specs.declared.builder.value_parser.Reading.TheVariants.{AsWritten}
use Rattle.clap.specs.declared.parser.matches.ValueSource.TheVariants.{DefaultValue}
use Rattle.clap.specs.declared.error.kind.ErrorKind.{ErrorKind}
use Rattle.bonsai_words.specs.Reading.{Text, Given, Table}
use Rattle.bonsai_words.proofs.RuleLemmas.{built_option, built_options, built_places, rules_of, shape_for, is_sound}
use Rattle.bonsai_words.proofs.StepLemmas.{row_for, rows_for, resting, at, checked, out}

-- ---- faults

or_nil : (ks : Kinds) → or_else ks [] ≡ ks
or_nil [] = refl
or_nil (k ∷ ks) = refl

checked_more : (a b c : Kinds) (x : Option (List Row)) → checked (or_else (or_else a b) c) x ≡ checked a (checked (or_else b c) x)
checked_more [] b c x = refl
checked_more (k ∷ ks) b c x = refl

walk_out : (s : Shape) (w : Walk) (words : List Text)
    → checked (or_else (walk_fault s [] w words) (settle_fault s.rules s.args_override_self (fold (walked s.rules []) w words).held)) (Some (settled s.rules (fold (walked s.rules []) w words).held).rows)
    ≡ out s w words
unfolding walk_fault
walk_out s w [] = refl
walk_out s w (word ∷ rest) =
    let next = walked s.rules [] w word in
    let last = (fold (walked s.rules []) next rest).held in
    checked_more (turn_fault s [] w word) (walk_fault s [] next rest) (settle_fault s.rules s.args_override_self last) (Some (settled s.rules last).rows)
    ∙ ap (λ o. checked (turn_fault s [] w word) o) (walk_out s next rest)

-- defaults are no fault
default_option : (n : Text) (b : Bool) (rows : List Row) → default_fault rows (built_option n b) ≡ []
default_option n true rows = go (has_row n rows)
  where
    go : (b : Bool) → cond (b || true) [] (Rattle.clap.specs.Faults.given_default_fault (built_option n true) []) ≡ []
    go true = refl
    go false = refl
default_option n false rows = go (has_row n rows)
  where
    go : (b : Bool) → cond (b || false) [] (Rattle.clap.specs.Faults.given_default_fault (built_option n false) (codes "false" ∷ [])) ≡ []
    go true = refl
    go false = refl

defaults_options : (os : List (Text × Bool)) (rows : List Row) → defaults_fault rows (built_options os) ≡ []
unfolding defaults_fault
defaults_options [] rows = refl
defaults_options (o ∷ os) rows =
    ap (λ ks. or_else ks (defaults_fault (with_default rows (built_option o.0 o.1)) (built_options os))) (default_option o.0 o.1 rows)
    ∙ defaults_options os (with_default rows (built_option o.0 o.1))

defaults_places : (i : ℕ) (ps : List Text) (os : List (Text × Bool)) (rows : List Row) → defaults_fault rows (built_places i ps ++ built_options os) ≡ []
unfolding defaults_fault
defaults_places i [] os rows = defaults_options os rows
defaults_places i (p ∷ ps) os rows =
    ap (λ ks. or_else ks (defaults_fault (with_default rows (Rattle.bonsai_words.proofs.RuleLemmas.valued_rule (Some i) None p)) (built_places (suc i) ps ++ built_options os))) (go (has_row p rows))
    ∙ defaults_places (suc i) ps os (with_default rows (Rattle.bonsai_words.proofs.RuleLemmas.valued_rule (Some i) None p))
  where
    go : (b : Bool) → cond (b || true) [] (Rattle.clap.specs.Faults.given_default_fault (Rattle.bonsai_words.proofs.RuleLemmas.valued_rule (Some i) None p) []) ≡ []
    go true = refl
    go false = refl

-- nothing is required
abbrev misses : List Row → Rule → Bool
misses rows a = a.required && not (Rattle.clap.specs.Takes.is_given a.id rows)

required_options : (os : List (Text × Bool)) (rows : List Row) → list_any (misses rows) (built_options os) ≡ false
required_options [] rows = refl
required_options (o ∷ os) rows = go o.1 (required_options os rows)
  where
    go : (b : Bool) → list_any (misses rows) (built_options os) ≡ false → (misses rows (built_option o.0 b) || list_any (misses rows) (built_options os)) ≡ false
    go true ih = ih
    go false ih = ih

required_places : (i : ℕ) (ps : List Text) (os : List (Text × Bool)) (rows : List Row) → list_any (misses rows) (built_places i ps ++ built_options os) ≡ false
required_places i [] os rows = required_options os rows
required_places i (p ∷ ps) os rows = required_places (suc i) ps os rows

none_missed : (name : Text) (t : Table) (rows : List Row) → check_fault (shape_for name t) rows false ≡ []
none_missed name t rows = ap (λ b. cond b (Rattle.clap.specs.declared.error.kind.ErrorKind.TheVariants.MissingRequiredArgument ∷ []) []) (required_places 1 t.places t.options rows)

-- ---- a built command

abbrev pub built_app : Text → Table → App
built_app name t = record { top = shape_for name t; subs = [] }

none_entered : (name : Text) (t : Table) (stop : Option (Text × List Text)) → entered (built_app name t) stop ≡ None
none_entered name t None = refl
none_entered name t (Some p) = refl

no_fault_below : (name : Text) (t : Table) (stop : Option (Text × List Text)) → entered_fault (built_app name t) stop ≡ []
no_fault_below name t None = refl
no_fault_below name t (Some p) = refl

level_out : (name : Text) (t : Table) (words : List Text)
    → checked (level_fault (shape_for name t) [] nothing_held words false []) (Some (settled (rules_of t) (walk (rules_of t) [] nothing_held words).held).rows)
    ≡ out (shape_for name t) (at (resting [] None) idle 0 false) words
level_out name t words =
    let end = (walk (rules_of t) [] nothing_held words).held in
    let tail : or_else (defaults_fault (settled (rules_of t) end).rows (rules_of t)) (check_fault (shape_for name t) (finished (rules_of t) end) false) ≡ [] =
    ap₂ or_else (defaults_places 1 t.places t.options (settled (rules_of t) end).rows) (none_missed name t (finished (rules_of t) end)) in
    ap (λ ks. checked (or_else (walk_fault (shape_for name t) [] (walk_from nothing_held) words) (or_else (settle_fault (rules_of t) false end) ks)) (Some (settled (rules_of t) end).rows)) tail
    ∙ ap (λ ks. checked (or_else (walk_fault (shape_for name t) [] (walk_from nothing_held) words) ks) (Some (settled (rules_of t) end).rows)) (or_nil (settle_fault (rules_of t) false end))
    ∙ walk_out (shape_for name t) (walk_from nothing_held) words

pub built_out : (name : Text) (t : Table) (words : List Text)
    → checked (built_fault (built_app name t) nothing_held words) (Some (settled (rules_of t) (walk (rules_of t) [] nothing_held words).held).rows)
    ≡ out (shape_for name t) (at (resting [] None) idle 0 false) words
built_out name t words =
    let stop = (walk (rules_of t) [] nothing_held words).stopped in
    let end = (walk (rules_of t) [] nothing_held words).held in
    ap₂ (λ (o : Option (Text × List Row)) (below : Kinds). checked (level_fault (shape_for name t) [] nothing_held words (is_some o) below) (Some (settled (rules_of t) end).rows))
    (none_entered name t stop) (no_fault_below name t stop)
    ∙ level_out name t words

-- ---- rows at the end

abbrev pub is_row : Text → Row → Bool
is_row name r = bytes_eq r.id name

abbrev pub default_row : Text → Row
default_row name = record {
  id = name;
  values = codes "false" ∷ [];
  count = None;
  source = Some DefaultValue;
  reading = AsWritten;
}

-- what a flag has that isn't given
abbrev pub default_find : List (Text × Bool) → Text → Option Row
default_find [] name = None
default_find (o ∷ os) name = cond (not o.1 && bytes_eq o.0 name) (Some (default_row o.0)) (default_find os name)

pub default_none : (os : List (Text × Bool)) (name : Text) → list_any (λ o. not o.1 && bytes_eq o.0 name) os ≡ false → default_find os name ≡ None
default_none [] name h = refl
default_none (o ∷ os) name h =
    let p = or_parts (not o.1 && bytes_eq o.0 name) (list_any (λ o. not o.1 && bytes_eq o.0 name) os) h in
    ap (λ b. cond b (Some (default_row o.0)) (default_find os name)) p.0 ∙ default_none os name p.1

pub default_some : (os : List (Text × Bool)) (name n : Text) → find (λ o. bytes_eq o.0 name) os ≡ Some (n, false) → default_find os name ≡ Some (default_row n)
default_some [] name n e = absurd cc
default_some (o ∷ os) name n e = go (bytes_eq o.0 name) refl e (default_some os name n)
  where
    first : (p : Text × Bool) → p ≡ (n, false) → cond (not p.1 && true) (Some (default_row p.0)) (default_find os name) ≡ Some (default_row n)
    first p is = ap (λ (q : Text × Bool). cond (not q.1 && true) (Some (default_row q.0)) (default_find os name)) is

    skip : (b : Bool) → cond (not b && false) (Some (default_row o.0)) (default_find os name) ≡ default_find os name
    skip true = refl
    skip false = refl

    go : (b : Bool) → bytes_eq o.0 name ≡ b → cond b (Some o) (find (λ o. bytes_eq o.0 name) os) ≡ Some (n, false)
        → (find (λ o. bytes_eq o.0 name) os ≡ Some (n, false) → default_find os name ≡ Some (default_row n))
        → cond (not o.1 && bytes_eq o.0 name) (Some (default_row o.0)) (default_find os name) ≡ Some (default_row n)
    go true is h ih =
        let same : o ≡ (n, false) = cc in
        ap (λ b. cond (not o.1 && b) (Some (default_row o.0)) (default_find os name)) is ∙ first o same
    go false is h ih =
        ap (λ b. cond (not o.1 && b) (Some (default_row o.0)) (default_find os name)) is ∙ skip o.1 ∙ ih h

find_append : (test : Row → Bool) (xs ys : List Row) → find test (xs ++ ys) ≡ option_or (find test xs) (find test ys)
find_append test [] ys = refl
find_append test (x ∷ xs) ys = go (test x) (find_append test xs ys)
  where
    go : (b : Bool) → find test (xs ++ ys) ≡ option_or (find test xs) (find test ys)
        → cond b (Some x) (find test (xs ++ ys)) ≡ option_or (cond b (Some x) (find test xs)) (find test ys)
    go true ih = refl
    go false ih = ih

or_assoc : (a b c : Option Row) → option_or (option_or a b) c ≡ option_or a (option_or b c)
or_assoc None b c = refl
or_assoc (Some x) b c = refl

or_none : (a : Option Row) → option_or a None ≡ a
or_none None = refl
or_none (Some x) = refl

at_end : (name : Text) (change : Row → List Row) (missing : List Row) (rows : List Row) → has_row name rows ≡ false → at_row name change missing rows ≡ rows ++ missing
at_end name change missing [] h = refl
at_end name change missing (r ∷ rs) h = go (bytes_eq r.id name) h (at_end name change missing rs)
  where
    go : (b : Bool) → (b || has_row name rs) ≡ false → (has_row name rs ≡ false → at_row name change missing rs ≡ rs ++ missing)
        → cond b (change r ++ rs) (r ∷ at_row name change missing rs) ≡ r ∷ rs ++ missing
    go true k ih = absurd cc
    go false k ih = ap (λ xs. r ∷ xs) (ih k)

there_is_row : (name : Text) (rows : List Row) → has_row name rows ≡ true → (r : Row) × (find (is_row name) rows ≡ Some r)
there_is_row name [] h = absurd cc
there_is_row name (r ∷ rs) h = go (bytes_eq r.id name) h (there_is_row name rs)
  where
    go : (b : Bool) → (b || has_row name rs) ≡ true → (has_row name rs ≡ true → (q : Row) × (find (is_row name) rs ≡ Some q))
        → (q : Row) × (cond b (Some r) (find (is_row name) rs) ≡ Some q)
    go true k ih = (r, refl)
    go false k ih = ih k

-- one option's default
default_step : (n : Text) (b : Bool) (rows : List Row) (name : Text) (rest : Option Row)
    → option_or (find (is_row name) (with_default rows (built_option n b))) rest
    ≡ option_or (find (is_row name) rows) (cond (not b && bytes_eq n name) (Some (default_row n)) rest)
default_step n true rows name rest = ap (λ rs. option_or (find (is_row name) rs) rest) (go (has_row n rows))
  where
    go : (b : Bool) → cond b rows rows ≡ rows
    go true = refl
    go false = refl
default_step n false rows name rest = go (has_row n rows) refl
  where
    hidden : (b : Bool) → bytes_eq n name ≡ b → has_row n rows ≡ true
        → option_or (find (is_row name) rows) rest ≡ option_or (find (is_row name) rows) (cond b (Some (default_row n)) rest)
    hidden true is h =
        let same : n ≡ name = (bytes_eq-Decides n name).0 is in
        let r = there_is_row name rows (ap (λ x. has_row x rows) (sym same) ∙ h) in
        ap (λ o. option_or o rest) r.1 ∙ sym (ap (λ o. option_or o (Some (default_row n))) r.1)
    hidden false is h = refl

    shown : (b : Bool) → option_or (cond b (Some (default_row n)) None) rest ≡ cond b (Some (default_row n)) rest
    shown true = refl
    shown false = refl

    go : (b : Bool) → has_row n rows ≡ b
        → option_or (find (is_row name) (cond b rows (default_rows n AsWritten (codes "false" ∷ []) rows))) rest
        ≡ option_or (find (is_row name) rows) (cond (bytes_eq n name) (Some (default_row n)) rest)
    go true h = hidden (bytes_eq n name) refl h
    go false h =
        ap (λ rs. option_or (find (is_row name) rs) rest) (at_end n (more_values DefaultValue (codes "false" ∷ [])) (default_row n ∷ []) rows h)
        ∙ ap (λ o. option_or o rest) (find_append (is_row name) rows (default_row n ∷ []))
        ∙ or_assoc (find (is_row name) rows) (cond (bytes_eq n name) (Some (default_row n)) None) rest
        ∙ ap (λ o. option_or (find (is_row name) rows) o) (shown (bytes_eq n name))

default_options : (os : List (Text × Bool)) (rows : List Row) (name : Text)
    → find (is_row name) (fold with_default rows (built_options os)) ≡ option_or (find (is_row name) rows) (default_find os name)
default_options [] rows name = sym (or_none (find (is_row name) rows))
default_options (o ∷ os) rows name =
    default_options os (with_default rows (built_option o.0 o.1)) name ∙ default_step o.0 o.1 rows name (default_find os name)

default_places : (i : ℕ) (ps : List Text) (os : List (Text × Bool)) (rows : List Row)
    → fold with_default rows (built_places i ps ++ built_options os) ≡ fold with_default rows (built_options os)
default_places i [] os rows = refl
default_places i (p ∷ ps) os rows =
    ap (λ rs. fold with_default rs (built_places (suc i) ps ++ built_options os)) (go (has_row p rows)) ∙ default_places (suc i) ps os rows
  where
    go : (b : Bool) → cond b rows rows ≡ rows
    go true = refl
    go false = refl

find_given : (g : Given) (name : Text) → find (is_row name) (rows_for g) ≡ option_map (λ p. row_for p.0 p.1) (find (λ p. bytes_eq p.0 name) g)
find_given [] name = refl
find_given (p ∷ g) name = go (bytes_eq p.0 name) (find_given g name)
  where
    go : (b : Bool) → find (is_row name) (rows_for g) ≡ option_map (λ p. row_for p.0 p.1) (find (λ p. bytes_eq p.0 name) g)
        → cond b (Some (row_for p.0 p.1)) (find (is_row name) (rows_for g)) ≡ option_map (λ p. row_for p.0 p.1) (cond b (Some p) (find (λ p. bytes_eq p.0 name) g))
    go true ih = refl
    go false ih = ih

-- the row of a name at the end
pub row_found : (t : Table) (g : Given) (name : Text)
    → find (is_row name) (fold with_default (rows_for g) (rules_of t)) ≡ option_or (option_map (λ p. row_for p.0 p.1) (find (λ p. bytes_eq p.0 name) g)) (default_find t.options name)
row_found t g name =
    ap (find (is_row name)) (default_places 1 t.places t.options (rows_for g))
    ∙ default_options t.options (rows_for g) name
    ∙ ap (λ o. option_or o (default_find t.options name)) (find_given g name)
