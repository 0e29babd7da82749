-- The order of a command, from what `clap` gives.
use Rattle.std.proofs.Common.{◌≡◌, ◌∙◌, ◌⊎◌, inl, inr, Bool, true, false, cond, ◌||◌, refl, sym, ap, subst, List, [], ◌∷◌, ◌++◌, Option, Some, None, Ok, Err, Result, codes, drop, map, Global, String, string_bytes}
use Rattle.std.specs.Prelude.{find, option_map, option_and_then, slice_get, IsErrAnd}
use Rattle.std.specs.Str.{bytes_eq}
use Rattle.std.proofs.lemmas.Bool.{both_ways, and_parts, not-true, or_parts, false_from_ne_true}
use Rattle.std.proofs.lemmas.Slice.Eq.{bytes_eq-Decides}
use Rattle.std.proofs.lemmas.Str.{IsUtf8-string_bytes}
use Rattle.clap.specs.Matches.{first_value, one_text, found_of}
use Rattle.clap.specs.Simple.{built}
use Rattle.clap.specs.declared.parser.matches.ArgMatches.{ArgMatches}
use Rattle.bonsai_words.specs.declared.orders.Order.{Order}
use Rattle.bonsai_words.specs.declared.orders.WordsError.{WordsError}
use Rattle.bonsai_words.specs.declared.orders.WordsError.TheVariants.{Usage}
use Rattle.bonsai_words.specs.Reading.{Text, Given, Table, between, has, is_once, once, option_named, value_of}
use Rattle.bonsai_words.specs.Parsing.{app_for, loosely, is_flag, Gives, IsSorted, IsTaken}
use Rattle.bonsai_words.specs.Ordered.{Look, Asked, Answers, ordered, ordered_behind, ordered_by, number_or, player_in, synth_table, synth_of, downset_table, downset_of, check_table, check_of, eval_table, eval_of, gen_table, gen_of}
use Rattle.bonsai_words.proofs.RuleLemmas.{is_sound, same_text}
use Rattle.bonsai_words.proofs.ReadLemmas.{AreTexts}
use Rattle.bonsai_words.proofs.TakeLemmas.{built_app}
use Rattle.bonsai_words.proofs.SortLemmas.{HasDash, strays, sorted_ok, sorted_err}

-- words are text
texts_all : (words : List (String Global)) → AreTexts (map string_bytes words)
texts_all [] = tt
texts_all (word ∷ words) = (IsUtf8-string_bytes word, texts_all words)

pub texts_behind : (words : List (String Global)) → AreTexts (drop 1 (map string_bytes words))
texts_behind [] = tt
texts_behind (word ∷ words) = texts_all words

-- ---- a value `-`

or_assoc : (a b c : Bool) → ((a || b) || c) ≡ (a || (b || c))
or_assoc true b c = refl
or_assoc false b c = refl

has_more : (name : Text) (g : Given) (p : Text × Text) → has name (g ++ p ∷ []) ≡ (has name g || (bytes_eq p.0 name || false))
has_more name [] p = refl
has_more name (q ∷ g) p = ap (λ b. bytes_eq q.0 name || b) (has_more name g p) ∙ sym (or_assoc (bytes_eq q.0 name) (has name g) (bytes_eq p.0 name || false))

dash_found : (t : Table) (before g : Given) → is_once before g ≡ true → HasDash t g
    → (name : Text) × (option_named t name ≡ Some (name, true)) × (has name before ≡ false) × (value_of name g ≡ Some (45 ∷ []))
dash_found t before [] o d = absurd d
dash_found t before (p ∷ g) o (inl here) =
    let new = not-true _ (and_parts _ _ o).0 in
    (p.0, here.1, new, ap (λ b. option_map (λ (q : Text × Text). q.1) (cond b (Some p) (find (λ q. bytes_eq q.0 p.0) g))) (same_text p.0) ∙ ap Some here.0)
dash_found t before (p ∷ g) o (inr later) =
    let f = dash_found t (before ++ p ∷ []) g (and_parts _ _ o).1 later in
    let apart = or_parts (has f.0 before) (bytes_eq p.0 f.0 || false) (sym (has_more f.0 before p) ∙ f.2) in
    let other = (or_parts (bytes_eq p.0 f.0) false apart.1).0 in
    (f.0, f.1, apart.0, ap (λ b. option_map (λ (q : Text × Text). q.1) (cond b (Some p) (find (λ q. bytes_eq q.0 f.0) g))) other ∙ f.3)

-- ---- one command

-- an option whose value is `-` makes no order
abbrev pub Minds : Table → (Look → Bool → Option Asked) → Type 0
Minds t make = (look : Look) (b : Bool) (name : Text) → option_named t name ≡ Some (name, true) → look name ≡ Some (45 ∷ []) → make look b ≡ None

-- only values count
abbrev pub Looks : Table → (Look → Bool → Option Asked) → Type 0
Looks t make = (f g : Look) (b : Bool) → ((name : Text) → is_flag t name ≡ false → f name ≡ g name) → make f b ≡ make g b

abbrev make_of : (Look → Bool → Option Asked) → Given → Option Asked
make_of make g = make (λ name. value_of name g) (has (codes "as-written") g)

module _ (t : Table) (make : Look → Bool → Option Asked) where
  loose_ordered : Minds t make → (words : List Text) → ordered_by t make words ≡ option_and_then (make_of make) (loosely t words)
  loose_ordered minds words = elim (strays t words between 0 tt) [
    | inl e ↦ ap (λ o. option_and_then (make_of make) (option_and_then once o)) e
    | inr s ↦
        let g = s.1.0 in
        ap (λ o. option_and_then (make_of make) (option_and_then once o)) s.0
        ∙ go g (is_once [] g) refl s.1.2
        ∙ sym (ap (λ o. option_and_then (make_of make) (option_and_then once o)) s.1.1)
  ]
    where
      go : (g : Given) (b : Bool) → is_once [] g ≡ b → HasDash t g → None ≡ option_and_then (make_of make) (option_and_then once (Some g))
      go g true e d =
          let f = dash_found t [] g e d in
          sym (minds (λ name. value_of name g) (has (codes "as-written") g) f.0 f.1 f.3)
          ∙ sym (ap (λ b. option_and_then (make_of make) (cond b (Some g) None)) e)
      go g false e d = sym (ap (λ b. option_and_then (make_of make) (cond b (Some g) None)) e)

  pub none_ordered : Minds t make → (words : List Text) (e : WordsError) → IsSorted t words (Err e) → e ≡ Usage → ordered_by t make words ≡ None
  none_ordered minds words e sorted usage = loose_ordered minds words ∙ ap (option_and_then (make_of make)) (sorted usage)

  pub some_ordered : Minds t make → Looks t make → (words : List Text) (m : ArgMatches) (b : Bool) → IsSorted t words (Ok m)
      → ((g : Given) → Gives t g m → make (first_value (found_of m)) b ≡ make (first_value (found_of m)) (has (codes "as-written") g))
      → ordered_by t make words ≡ make (first_value (found_of m)) b
  some_ordered minds looks words m b sorted flag =
      let g = sorted.0 in
      loose_ordered minds words
      ∙ ap (option_and_then (make_of make)) sorted.1
      ∙ sym (looks (first_value (found_of m)) (λ name. value_of name g) (has (codes "as-written") g) sorted.2.values)
      ∙ sym (flag g sorted.2)

-- `get_flag` tells whether the flag was given
flag_text : (given_it b : Bool) (o : Option Text) → o ≡ Some (cond given_it (codes "true") (codes "false"))
    → (o ≡ Some (codes "true") → b ≡ true) → (o ≡ Some (codes "false") → b ≡ false) → b ≡ given_it
flag_text true b o e on off = on e
flag_text false b o e on off = off e

pub flag_given : (t : Table) (make : Look → Bool → Option Asked) (m : ArgMatches) (b : Bool) → option_named t (codes "as-written") ≡ Some (codes "as-written", false)
    → (one_text (found_of m) (codes "as-written") ≡ Some (codes "true") → b ≡ true) → (one_text (found_of m) (codes "as-written") ≡ Some (codes "false") → b ≡ false)
    → (g : Given) → Gives t g m → make (first_value (found_of m)) b ≡ make (first_value (found_of m)) (has (codes "as-written") g)
flag_given t make m b named on off g gives =
    ap (make (first_value (found_of m))) (flag_text (has (codes "as-written") g) b (one_text (found_of m) (codes "as-written")) (gives.flags (codes "as-written") named) on off)

-- ---- the commands

none_one : {A : Type 0} (x : Option A) → ◌≡◌ {A = Option Asked} (option_and_then (λ a. None) x) None
none_one None = refl
none_one (Some a) = refl

none_two : {A B : Type 0} (x : Option A) (y : Option B) → ◌≡◌ {A = Option Asked} (option_and_then (λ a. option_and_then (λ b. None) y) x) None
none_two None y = refl
none_two (Some a) y = none_one y

none_three : {A B C : Type 0} (x : Option A) (y : Option B) (z : Option C) → ◌≡◌ {A = Option Asked} (option_and_then (λ a. option_and_then (λ b. option_and_then (λ c. None) z) y) x) None
none_three None y z = refl
none_three (Some a) y z = none_two y z

-- an option of a table with a value, by its name
abbrev IsIn : List (Text × Bool) → Text → Type 0
IsIn [] name = ⊥
IsIn (o ∷ os) name = ((name ≡ o.0) × (o.1 ≡ true)) ⊎ IsIn os name

which : (os : List (Text × Bool)) (name : Text) → find (λ o. bytes_eq o.0 name) os ≡ Some (name, true) → IsIn os name
which [] name e = absurd cc
which (o ∷ os) name e = go (bytes_eq o.0 name) e (which os name)
  where
    go : (b : Bool) → cond b (Some o) (find (λ o. bytes_eq o.0 name) os) ≡ Some (name, true) → (find (λ o. bytes_eq o.0 name) os ≡ Some (name, true) → IsIn os name)
        → ((name ≡ o.0) × (o.1 ≡ true)) ⊎ IsIn os name
    go true h ih =
        let same : o ≡ (name, true) = cc in
        inl (sym (ap (λ (p : Text × Bool). p.0) same), ap (λ (p : Text × Bool). p.1) same)
    go false h ih = inr (ih h)

at_name : (look : Look) (name other : Text) → name ≡ other → look name ≡ Some (45 ∷ []) → look other ≡ Some (45 ∷ [])
at_name look name other e h = ap look (sym e) ∙ h

pub synth_minds : Minds synth_table synth_of
synth_minds look b name h v = elim (which synth_table.options name h) [
  | inl e ↦ let at = at_name look name _ e.0 v in rw at refl
  | inr (inl e) ↦ let at = at_name look name _ e.0 v in rw at (none_one (number_or (Some 8) 0 10000 (look (codes "bound"))))
  | inr (inr (inl e)) ↦ let at = at_name look name _ e.0 v in rw at (none_two (number_or (Some 8) 0 10000 (look (codes "bound"))) (number_or (Some 0) 0 10000 (look (codes "first"))))
  | inr (inr (inr (inl e))) ↦ let at = at_name look name _ e.0 v in rw at (none_three (number_or (Some 8) 0 10000 (look (codes "bound"))) (number_or (Some 0) 0 10000 (look (codes "first"))) (number_or (Some 1) 1 10000 (look (codes "step"))))
  | inr (inr (inr (inr (inl e)))) ↦ absurd (both_ways false refl e.1)
  | inr (inr (inr (inr (inr e)))) ↦ absurd e
]

pub downset_minds : Minds downset_table downset_of
downset_minds look b name h v = elim (which downset_table.options name h) [
  | inl e ↦ let at = at_name look name _ e.0 v in rw at refl
  | inr (inl e) ↦ let at = at_name look name _ e.0 v in rw at (none_one (player_in (look (codes "player"))))
  | inr (inr (inl e)) ↦ absurd (both_ways false refl e.1)
  | inr (inr (inr e)) ↦ absurd e
]

pub check_minds : Minds check_table check_of
check_minds look b name h v = elim (which check_table.options name h) [
  | inl e ↦ let at = at_name look name _ e.0 v in rw at refl
  | inr (inl e) ↦ absurd (both_ways false refl e.1)
  | inr (inr e) ↦ absurd e
]

pub eval_minds : Minds eval_table eval_of
eval_minds look b name h v = elim (which eval_table.options name h) [
  | inl e ↦ absurd (both_ways false refl e.1)
  | inr e ↦ absurd e
]

pub gen_minds : Minds gen_table gen_of
gen_minds look b name h v = elim (which gen_table.options name h) [
  | inl e ↦ let at = at_name look name _ e.0 v in rw at (none_one (number_or None 1 8 (look (codes "clients"))))
  | inr e ↦ absurd e
]

pub synth_looks : Looks synth_table synth_of
synth_looks f g b h = rw (h (codes "bound") refl, h (codes "first") refl, h (codes "step") refl, h (codes "workers") refl, h (codes "name") refl) refl

pub downset_looks : Looks downset_table downset_of
downset_looks f g b h = rw (h (codes "player") refl, h (codes "bound") refl, h (codes "name") refl) refl

pub check_looks : Looks check_table check_of
check_looks f g b h = rw (h (codes "bound") refl, h (codes "name") refl, h (codes "second") refl) refl

pub eval_looks : Looks eval_table eval_of
eval_looks f g b h = rw (h (codes "name") refl, h (codes "second") refl) refl

pub gen_looks : Looks gen_table gen_of
gen_looks f g b h = rw (h (codes "clients") refl, h (codes "workers") refl) refl

-- ---- the tables are as `clap` builds them

pub synth_built : built (app_for (codes "synth") synth_table) ≡ built_app (codes "synth") synth_table
synth_built = refl

pub downset_built : built (app_for (codes "downset") downset_table) ≡ built_app (codes "downset") downset_table
downset_built = refl

pub check_built : built (app_for (codes "check") check_table) ≡ built_app (codes "check") check_table
check_built = refl

pub eval_built : built (app_for (codes "eval") eval_table) ≡ built_app (codes "eval") eval_table
eval_built = refl

pub gen_built : built (app_for (codes "gen") gen_table) ≡ built_app (codes "gen") gen_table
gen_built = refl

-- ---- from the command's words to its order

module _ (name : Text) (t : Table) (sound : is_sound t ≡ true) (is_built : built (app_for name t) ≡ built_app name t) where
  -- what `clap` answers is what is given
  pub sorted_from : (words : List (String Global)) (r : Result ArgMatches WordsError) → IsTaken (app_for name t) (map string_bytes words) r → IsSorted t (drop 1 (map string_bytes words)) r
  sorted_from words (Ok m) h = sorted_ok name t sound is_built (map string_bytes words) m (texts_behind words) h
  sorted_from words (Err e) h = λ usage. sorted_err name t sound is_built (map string_bytes words) (texts_behind words) (h usage)

pub answers_at : (a b : Option Asked) (r : Result Order WordsError) → b ≡ a → Answers a r → Answers b r
answers_at a b r e h = subst (λ x. Answers x r) (sym e) h

pub answers_err : (o : Option Asked) (r : Result Order WordsError) (e : WordsError) → IsErrAnd r (λ x. x ≡ e) → (e ≡ Usage → o ≡ None) → Answers o r
answers_err o (Ok order) e h none = absurd h
answers_err o (Err x) e h none = λ usage. none (sym h ∙ usage)

-- ---- the first word

first_text : (words : List (String Global)) (w : String Global) → slice_get words 0 ≡ Some w
    → map string_bytes words ≡ string_bytes w ∷ drop 1 (map string_bytes words)
first_text [] w e = absurd cc
first_text (x ∷ xs) w e =
    let same : x ≡ w = cc in
    ap (λ (y : String Global). string_bytes y ∷ map string_bytes xs) same

-- the order of a command's words
pub ordered_first : (words : List (String Global)) (w : String Global) (command : Text) → slice_get words 0 ≡ Some w → command ≡ string_bytes w
    → ordered (map string_bytes words) ≡ ordered_behind command (drop 1 (map string_bytes words))
unfolding ordered
ordered_first words w command e is =
    ap ordered (first_text words w e) ∙ ap (λ c. ordered_behind c (drop 1 (map string_bytes words))) (sym is)

pub ordered_none : (words : List (String Global)) → slice_get words 0 ≡ None → ordered (map string_bytes words) ≡ None
unfolding ordered
ordered_none [] e = refl
ordered_none (w ∷ words) e = absurd cc

-- a word that is none of the commands
pub no_command : (command : Text) (words : List Text) → (command ≡ codes "synth" → ⊥) → (command ≡ codes "downset" → ⊥) → (command ≡ codes "check" → ⊥)
    → (command ≡ codes "eval" → ⊥) → (command ≡ codes "gen" → ⊥) → ordered_behind command words ≡ None
no_command command words synth downset check eval gen =
    rw (differs command (codes "synth") synth, differs command (codes "downset") downset, differs command (codes "check") check, differs command (codes "eval") eval, differs command (codes "gen") gen) refl
  where
    differs : (a b : Text) → (a ≡ b → ⊥) → bytes_eq a b ≡ false
    differs a b h = false_from_ne_true (bytes_eq a b) (λ same. h ((bytes_eq-Decides a b).0 same))
