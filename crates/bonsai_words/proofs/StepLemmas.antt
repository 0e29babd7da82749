-- What `clap` makes of the next word behind any words, for a table's command.
use Rattle.std.proofs.Common.{◌≡◌, ◌∙◌, ◌<◌, ◌+◌, ℕ, suc, Bool, true, false, cond, ◌&&◌, ◌||◌, refl, sym, ap, ap₂, arith, List, [], ◌∷◌, ◌++◌, length, Option, Some, None, codes, append-nil, drop}
use Rattle.std.specs.Prelude.{slice_get, min, encode_utf8}
use Rattle.std.specs.Option.{option_map_or}
use Rattle.std.specs.Str.{bytes_eq, chars}
use Rattle.std.proofs.lemmas.Str.{chars-nil}
use Rattle.clap.specs.Lexer.{long_of}
use Rattle.clap.specs.Kinds.{Kinds, or_else}
use Rattle.clap.specs.Walk.{Held, Row, Rule, Waiting, idle, option, Step, next, trailing, value, Walk, after_step, arg_by_id, arg_by_index, arg_by_long, arg_by_short, at_row, has_row, is_pending, long_or_other, long_word, long_met, after_flag, more_values, option_word, plain_word, positional_held, pushed, reacted, settled, settled_rows, short_or_plain, subcommand_or_other, to_positional, used, walked, with_values, without, word_met}
use Rattle.clap.specs.Faults.{bundle_fault, bundle_step_fault, flag_word_fault, flags_fault, long_fault, other_fault, positional_fault, settle_fault, short_fault, step_fault, stray_fault, turn_fault, use_fault, word_fault}
use Rattle.clap.specs.Simple.{Shape}
use Rattle.clap.specs.declared.builder.value_parser.Reading.TheVariants.{AsWritten}
use Rattle.clap.specs.declared.parser.matches.ValueSource.TheVariants.{CommandLine}
use Rattle.clap.specs.declared.error.kind.ErrorKind.{ErrorKind}
use Rattle.clap.specs.declared.error.kind.ErrorKind.TheVariants as kind
use Rattle.bonsai_words.specs.Reading.{Text, Given, Table, plain, named, unknown, option_named, has}
use Rattle.bonsai_words.proofs.WordLemmas.{two_dashes, HasFirst, Seen}
use Rattle.bonsai_words.proofs.RuleLemmas.{valued_rule, flagged_rule, built_option, built_options, built_places, rules_of, shape_for, rule_found, place_found, by_long, by_place, IsValued}

-- ---- rows

abbrev pub row_for : Text → Text → Row
row_for name v = record {
  id = name;
  values = v ∷ [];
  count = None;
  source = Some CommandLine;
  reading = AsWritten;
}

abbrev pub rows_for : Given → List Row
rows_for [] = []
rows_for (p ∷ g) = row_for p.0 p.1 ∷ rows_for g

pub rows_more : (g h : Given) → rows_for (g ++ h) ≡ rows_for g ++ rows_for h
rows_more [] h = refl
rows_more (p ∷ g) h = ap (λ rs. row_for p.0 p.1 ∷ rs) (rows_more g h)

pub has_rows : (name : Text) (g : Given) → has_row name (rows_for g) ≡ has name g
has_rows name [] = refl
has_rows name (p ∷ g) = ap (λ b. bytes_eq p.0 name || b) (has_rows name g)

at_missing : (name : Text) (change : Row → List Row) (missing : List Row) (rows : List Row) → has_row name rows ≡ false → at_row name change missing rows ≡ rows ++ missing
at_missing name change missing [] h = refl
at_missing name change missing (r ∷ rs) h = go (bytes_eq r.id name) h (at_missing name change missing rs)
  where
    go : (b : Bool) → (b || has_row name rs) ≡ false → (has_row name rs ≡ false → at_row name change missing rs ≡ rs ++ missing)
        → cond b (change r ++ rs) (r ∷ at_row name change missing rs) ≡ r ∷ rs ++ missing
    go true k ih = absurd cc
    go false k ih = ap (λ xs. r ∷ xs) (ih k)

pub with_new : (name v : Text) (rows : List Row) → has_row name rows ≡ false
    → with_values name AsWritten CommandLine (v ∷ []) (without name rows) ≡ rows ++ row_for name v ∷ []
with_new name v rows h =
    let same : without name rows ≡ rows = at_missing name (λ _. []) [] rows h ∙ append-nil rows in
    ap (with_values name AsWritten CommandLine (v ∷ [])) same
    ∙ at_missing name (more_values CommandLine (v ∷ [])) (row_for name v ∷ []) rows h

-- ---- uses

pub used_valued : (i : Option ℕ) (l : Option Text) (name v : Text) (rows : List Row) → has_row name rows ≡ false
    → (use_fault false (valued_rule i l name) (v ∷ []) rows ≡ []) × (used (valued_rule i l name) (v ∷ []) rows ≡ rows ++ row_for name v ∷ [])
used_valued i l name v rows h = (rw h refl, with_new name v rows h)

pub valued_again : (i : Option ℕ) (l : Option Text) (name v : Text) (rows : List Row) → has_row name rows ≡ true
    → use_fault false (valued_rule i l name) (v ∷ []) rows ≡ kind.ArgumentConflict ∷ []
valued_again i l name v rows h = rw h refl

pub used_flag : (name : Text) (rows : List Row) → has_row name rows ≡ false
    → (use_fault false (flagged_rule name) [] rows ≡ []) × (used (flagged_rule name) [] rows ≡ rows ++ row_for name (codes "true") ∷ [])
used_flag name rows h = (rw h refl, with_new name (codes "true") rows h)

pub flag_again : (name : Text) (rows : List Row) → has_row name rows ≡ true
    → use_fault false (flagged_rule name) [] rows ≡ kind.ArgumentConflict ∷ []
flag_again name rows h = rw h refl

-- ---- what is held

abbrev pub Pending : Type 0
Pending = Option (Text × List Text)

abbrev pub resting : List Row → Pending → Held
resting rows pending = record { rows = rows; pending = pending; skip = 0 }

abbrev pub at : Held → Waiting → ℕ → Bool → Walk
at h waiting n is_trailing =
    record { held = h; waiting = waiting; position = suc n; is_trailing = is_trailing; stopped = None }

abbrev pub checked : Kinds → Option (List Row) → Option (List Row)
checked [] x = x
checked (k ∷ ks) x = None

abbrev pub fault_at : Table → Held → Kinds
fault_at t h = settle_fault (rules_of t) false h

-- the rows at the end of a walk, where nothing is refused
abbrev pub out : Shape → Walk → List Text → Option (List Row)
out s w [] = checked (settle_fault s.rules s.args_override_self w.held) (Some (settled s.rules w.held).rows)
out s w (word ∷ rest) = checked (turn_fault s [] w word) (out s (walked s.rules [] w word) rest)

-- what is pending is used
pub full_fault : (t : Table) (name v : Text) (rows : List Row) → IsValued t name → has_row name rows ≡ false
    → (fault_at t (resting rows (Some (name, v ∷ []))) ≡ []) × (settled_rows (rules_of t) (Some (name, v ∷ [])) rows ≡ rows ++ row_for name v ∷ [])
full_fault t name v rows valued h =
    let u = used_valued valued.0 valued.1 name v rows h in (
      ap (λ o. option_map_or (λ a. use_fault false a (v ∷ []) rows) o []) valued.2 ∙ u.0,
      ap (λ o. Rattle.clap.specs.Walk.used_by_id o (v ∷ []) rows) valued.2 ∙ u.1,
    )

pub full_again : (t : Table) (name v : Text) (rows : List Row) → IsValued t name → has_row name rows ≡ true
    → fault_at t (resting rows (Some (name, v ∷ []))) ≡ kind.ArgumentConflict ∷ []
full_again t name v rows valued h =
    ap (λ o. option_map_or (λ a. use_fault false a (v ∷ []) rows) o []) valued.2 ∙ valued_again valued.0 valued.1 name v rows h

-- an option still without its value
pub empty_fault : (t : Table) (name : Text) (rows : List Row) → IsValued t name
    → fault_at t (resting rows (Some (name, []))) ≡ kind.InvalidValue ∷ []
empty_fault t name rows valued = ap (λ o. option_map_or (λ a. use_fault false a [] rows) o []) valued.2

-- ---- places

place_fault : (t : Table) (i : Option ℕ) (l : Option Text) (p : Text) (h : Held) → positional_fault (rules_of t) false (valued_rule i l p) h ≡ fault_at t h
place_fault t i l p h = go (is_pending (valued_rule i l p) h.pending)
  where
    go : (b : Bool) → cond (b && false) [] (fault_at t h) ≡ fault_at t h
    go true = refl
    go false = refl

place_held : (t : Table) (i : Option ℕ) (l : Option Text) (p word : Text) (h : Held) → positional_held (rules_of t) (valued_rule i l p) word h ≡ pushed p word (settled (rules_of t) h)
place_held t i l p word h = go (is_pending (valued_rule i l p) h.pending)
  where
    go : (b : Bool) → pushed p word (cond (b && false) h (settled (rules_of t) h)) ≡ pushed p word (settled (rules_of t) h)
    go true = refl
    go false = refl

or_false : (b : Bool) → (b || false) ≡ b
or_false true = refl
or_false false = refl

-- a plain word at its place, where nothing is refused
abbrev pub placed_out : Text → Table → Option Text → Text → Held → ℕ → Bool → List Text → Option (List Row)
placed_out name t None word h n is_trailing rest = None
placed_out name t (Some p) word h n is_trailing rest =
    checked (fault_at t h) (out (shape_for name t) (at (pushed p word (settled (rules_of t) h)) idle (suc n) is_trailing) rest)

next_place : (n : ℕ) → n < 10 → min (suc n + 1) 18446744073709551615 ≡ suc (suc n)
next_place n h = omega arith

pub value_turn : (name : Text) (t : Table) (h : Held) (waiting : Waiting) (n : ℕ) (is_trailing : Bool) (word : Text) (rest : List Text)
    → ((p : Text) → slice_get t.places n ≡ Some p → n < 10)
    → checked (step_fault (shape_for name t) (suc n) h value) (out (shape_for name t) (after_step (rules_of t) word (at h waiting n is_trailing) h value) rest)
    ≡ placed_out name t (slice_get t.places n) word h n is_trailing rest
value_turn name t h waiting n is_trailing word rest low =
    ap (λ o. checked (option_map_or (λ a. positional_fault (rules_of t) false a h) o (stray_fault (shape_for name t)))
    (out (shape_for name t) (to_positional (rules_of t) o word (at h waiting n is_trailing) h) rest)) (by_place t n)
    ∙ go (slice_get t.places n) low
  where
    go : (o : Option Text) → ((p : Text) → o ≡ Some p → n < 10)
        → checked (option_map_or (λ a. positional_fault (rules_of t) false a h) (place_found (suc n) o) (stray_fault (shape_for name t)))
        (out (shape_for name t) (to_positional (rules_of t) (place_found (suc n) o) word (at h waiting n is_trailing) h) rest)
        ≡ placed_out name t o word h n is_trailing rest
    go None low = refl
    go (Some p) low =
        ap₂ (λ (f : Kinds) (g : Held). checked f (out (shape_for name t) (record { held = g; waiting = idle; position = min (suc n + 1) 18446744073709551615; is_trailing = is_trailing || false; stopped = None }) rest))
        (place_fault t (Some (suc n)) None p h) (place_held t (Some (suc n)) None p word h)
        ∙ ap₂ (λ (k : ℕ) (b : Bool). checked (fault_at t h) (out (shape_for name t) (record { held = pushed p word (settled (rules_of t) h); waiting = idle; position = k; is_trailing = b; stopped = None }) rest))
        (next_place n (low p refl)) (or_false is_trailing)

-- ---- turns

module _ (name : Text) (t : Table) where
  -- a word that is all plain behind `--`
  pub ended_turn : (h : Held) (waiting : Waiting) (n : ℕ) (word : Text) (rest : List Text) → ((p : Text) → slice_get t.places n ≡ Some p → n < 10)
      → out (shape_for name t) (at h waiting n true) (word ∷ rest) ≡ placed_out name t (slice_get t.places n) word h n true rest
  unfolding walked
  ended_turn h waiting n word rest low = value_turn name t h waiting n true word rest low

  -- a word before it, by its fault and by what it is
  pub turn : (h h' : Held) (waiting : Waiting) (n : ℕ) (word : Text) (rest : List Text) (ks : Kinds) (step : Step)
      → word_fault (shape_for name t) [] false waiting word h ≡ ks → word_met (rules_of t) [] false waiting (suc n) word h ≡ (h', step)
      → out (shape_for name t) (at h waiting n false) (word ∷ rest)
      ≡ checked (or_else ks (step_fault (shape_for name t) (suc n) h' step)) (out (shape_for name t) (after_step (rules_of t) word (at h waiting n false) h' step) rest)
  unfolding walked
  turn h h' waiting n word rest ks step e m =
      ap₂ (λ (f : Kinds) (mt : Held × Step). checked (or_else f (step_fault (shape_for name t) (suc n) mt.0 mt.1))
      (out (shape_for name t) (after_step (rules_of t) word (at h waiting n false) mt.0 mt.1) rest)) e m

  -- a word that is refused
  pub refused_turn : (h : Held) (waiting : Waiting) (n : ℕ) (word : Text) (rest : List Text) (k : ErrorKind) (ks : Kinds)
      → word_fault (shape_for name t) [] false waiting word h ≡ k ∷ ks
      → out (shape_for name t) (at h waiting n false) (word ∷ rest) ≡ None
  unfolding walked
  refused_turn h waiting n word rest k ks e =
      ap (λ (f : Kinds). checked (or_else f (step_fault (shape_for name t) (suc n) (word_met (rules_of t) [] false waiting (suc n) word h).0 (word_met (rules_of t) [] false waiting (suc n) word h).1))
      (out (shape_for name t) (walked (rules_of t) [] (at h waiting n false) word) rest)) e

  other_is : (waiting : Waiting) (word : Text) (h : Held) → word_fault (shape_for name t) [] false waiting word h ≡ other_fault (shape_for name t) None word h
  other_is idle word h = refl
  other_is (option id) word h = refl
  other_is Rattle.clap.specs.Walk.positional word h = refl

  met_is : (waiting : Waiting) (n : ℕ) (word : Text) (h : Held) → word_met (rules_of t) [] false waiting n word h ≡ subcommand_or_other (rules_of t) None waiting n word h
  met_is idle n word h = refl
  met_is (option id) n word h = refl
  met_is Rattle.clap.specs.Walk.positional n word h = refl

  -- a plain word
  pub plain_fault : (waiting : Waiting) (word : Text) (h : Held) → Seen word plain → word_fault (shape_for name t) [] false waiting word h ≡ []
  plain_fault waiting word h seen =
      other_is waiting word h
      ∙ ap (λ b. cond b [] (flag_word_fault (rules_of t) false (long_of word) word h)) seen.0
      ∙ ap (λ o. flag_word_fault (rules_of t) false o word h) seen.1
      ∙ ap (λ o. option_map_or (λ flags. bundle_fault (rules_of t) false flags h) o []) seen.2

  pub plain_met : (waiting : Waiting) (n : ℕ) (word : Text) (h : Held) → Seen word plain → word_met (rules_of t) [] false waiting n word h ≡ plain_word (rules_of t) waiting word h
  plain_met waiting n word h seen =
      met_is waiting n word h
      ∙ ap (λ b. cond b (h, trailing n) (long_or_other (rules_of t) waiting word (long_of word) h)) seen.0
      ∙ ap (λ o. long_or_other (rules_of t) waiting word o h) seen.1
      ∙ ap (λ o. short_or_plain (rules_of t) waiting word o h) seen.2

  -- the word `--`
  pub dashes_fault : (waiting : Waiting) (word : Text) (h : Held) → word ≡ two_dashes → word_fault (shape_for name t) [] false waiting word h ≡ []
  dashes_fault waiting word h is = other_is waiting word h ∙ ap (λ w. other_fault (shape_for name t) None w h) is

  pub dashes_met : (waiting : Waiting) (n : ℕ) (word : Text) (h : Held) → word ≡ two_dashes → word_met (rules_of t) [] false waiting n word h ≡ (h, trailing n)
  dashes_met waiting n word h is = met_is waiting n word h ∙ ap (λ w. subcommand_or_other (rules_of t) None waiting n w h) is

  -- an option
  pub named_fault : (waiting : Waiting) (word a : Text) (v : Option Text) (h : Held) → Seen word (named a v)
      → word_fault (shape_for name t) [] false waiting word h ≡ long_fault (rules_of t) false (rule_found (option_named t a)) v h
  named_fault waiting word a v h seen =
      other_is waiting word h
      ∙ ap (λ b. cond b [] (flag_word_fault (rules_of t) false (long_of word) word h)) seen.0
      ∙ ap (λ o. flag_word_fault (rules_of t) false o word h) seen.1
      ∙ ap (λ o. long_fault (rules_of t) false o v h) (by_long t a)

  pub named_met : (waiting : Waiting) (n : ℕ) (word a : Text) (v : Option Text) (h : Held) → Seen word (named a v)
      → word_met (rules_of t) [] false waiting n word h
      ≡ after_flag (rules_of t) waiting word (long_met (rules_of t) (rule_found (option_named t a)) v h).0 (long_met (rules_of t) (rule_found (option_named t a)) v h).1
  named_met waiting n word a v h seen =
      met_is waiting n word h
      ∙ ap (λ b. cond b (h, trailing n) (long_or_other (rules_of t) waiting word (long_of word) h)) seen.0
      ∙ ap (λ o. long_or_other (rules_of t) waiting word o h) seen.1
      ∙ ap (λ o. after_flag (rules_of t) waiting word (long_met (rules_of t) o v h).0 (long_met (rules_of t) o v h).1) (by_long t a)

  -- a word that begins with one `-`
  no_short_option : (os : List (Text × Bool)) (x : ℕ) → arg_by_short (built_options os) x ≡ None
  no_short_option [] x = refl
  no_short_option (o ∷ os) x = go o.1 ∙ no_short_option os x
    where
      go : (b : Bool) → arg_by_short (built_option o.0 b ∷ built_options os) x ≡ arg_by_short (built_options os) x
      go true = refl
      go false = refl

  no_short : (i : ℕ) (ps : List Text) (os : List (Text × Bool)) (x : ℕ) → arg_by_short (built_places i ps ++ built_options os) x ≡ None
  no_short i [] os x = no_short_option os x
  no_short i (p ∷ ps) os x = no_short (suc i) ps os x

  flags_refused : (flags : Text) (h : Held) → HasFirst flags → flags_fault (rules_of t) false (length flags) flags 0 h ≡ kind.UnknownArgument ∷ []
  unfolding flags_fault
  flags_refused [] h first =
      let none : slice_get (chars []) 0 ≡ None = ap (λ cs. slice_get cs 0) chars-nil in
      let bad : None ≡ Some first.0 = sym none ∙ first.1 in
      absurd cc
  flags_refused (f ∷ fs) h first =
      ap (λ o. bundle_step_fault (rules_of t) false o (f ∷ fs) 0 h (flags_fault (rules_of t) false (length fs))) first.1
      ∙ ap (λ o. short_fault (rules_of t) false o (drop (length (encode_utf8 first.0)) (f ∷ fs)) h (flags_fault (rules_of t) false (length fs) (drop (length (encode_utf8 first.0)) (f ∷ fs)) 0)) (no_short 1 t.places t.options first.0)

  pub unknown_fault : (waiting : Waiting) (word : Text) (rows : List Row) (pending : Pending) → Seen word unknown
      → word_fault (shape_for name t) [] false waiting word (resting rows pending) ≡ kind.UnknownArgument ∷ []
  unknown_fault waiting word rows pending seen =
      other_is waiting word (resting rows pending)
      ∙ ap (λ b. cond b [] (flag_word_fault (rules_of t) false (long_of word) word (resting rows pending))) seen.0
      ∙ ap (λ o. flag_word_fault (rules_of t) false o word (resting rows pending)) seen.1
      ∙ ap (λ o. option_map_or (λ flags. bundle_fault (rules_of t) false flags (resting rows pending)) o []) seen.2.1
      ∙ flags_refused seen.2.0 (resting rows pending) seen.2.2
