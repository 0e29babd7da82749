-- `clap` takes the words of a table's command where a reading gives something, with these rows.
use Rattle.std.proofs.Common.{◌≡◌, ◌∙◌, ◌<◌, ℕ, suc, Bool, true, false, cond, refl, sym, ap, ap₂, List, [], ◌∷◌, ◌++◌, Option, Some, None, codes, append-nil, append_assoc}
use Rattle.std.specs.Prelude.{slice_get, ⊤}
use Rattle.std.specs.Str.{IsUtf8}
use Rattle.clap.specs.Kinds.{Kinds, or_else}
use Rattle.clap.specs.Walk.{Held, Row, Rule, Step, Waiting, idle, option, next, trailing, value, after_flag, after_step, long_met, option_word, plain_word, pushed, settled, settled_rows, used}
use Rattle.clap.specs.Faults.{long_fault, step_fault, use_fault}
use Rattle.clap.specs.declared.error.kind.ErrorKind.{ErrorKind}
use Rattle.clap.specs.declared.error.kind.ErrorKind.TheVariants as kind
use Rattle.bonsai_words.specs.Reading.{Text, Given, Table, Kind, plain, dashes, named, unknown, kind_of, option_named, has, is_once, given, paired, placed, option_met, kind_step, value_step, between, awaits, ended}
use Rattle.bonsai_words.specs.Parsing.{is_plain, is_loose_value}
use Rattle.bonsai_words.proofs.WordLemmas.{Seen, seen}
use Rattle.bonsai_words.proofs.RuleLemmas.{valued_rule, flagged_rule, rules_of, shape_for, rule_found, is_sound, IsValued, place_valued, option_valued, place_low, same_text}
use Rattle.bonsai_words.proofs.StepLemmas.{row_for, rows_for, rows_more, has_rows, used_valued, valued_again, used_flag, flag_again, Pending, resting, at, checked, fault_at, out, full_fault, full_again, empty_fault, placed_out, value_turn, ended_turn, turn, refused_turn, plain_fault, plain_met, dashes_fault, dashes_met, named_fault, named_met, unknown_fault}

-- each word is text
abbrev pub AreTexts : List Text → Type 0
AreTexts [] = ⊤
AreTexts (word ∷ words) = IsUtf8 word × AreTexts words

-- the rows of what is given behind what was given, where each name stands once
abbrev pub finish : Given → Option Given → Option (List Row)
finish before None = None
finish before (Some g) = cond (is_once before g) (Some (rows_for (before ++ g))) None

finish_new : (before : Given) (name v : Text) (o : Option Given) → has name before ≡ false
    → finish (before ++ (name, v) ∷ []) o ≡ finish before (paired name v o)
finish_new before name v None h = refl
finish_new before name v (Some g) h =
    rw h (ap (λ (rows : Given). cond (is_once (before ++ (name, v) ∷ []) g) (Some (rows_for rows)) None) (append_assoc before ((name, v) ∷ []) g))

finish_again : (before : Given) (name v : Text) (o : Option Given) → has name before ≡ true
    → None ≡ finish before (paired name v o)
finish_again before name v None h = refl
finish_again before name v (Some g) h = rw h refl

one_more : (before : Given) (name v : Text) → rows_for before ++ row_for name v ∷ [] ≡ rows_for (before ++ (name, v) ∷ [])
one_more before name v = sym (rows_more before ((name, v) ∷ []))

cases : (b : Bool) (T : Type 0) → (b ≡ true → T) → (b ≡ false → T) → T
cases true T f g = f refl
cases false T f g = g refl

module _ (name : Text) (t : Table) where
  low : is_sound t ≡ true → (n : ℕ) (p : Text) → slice_get t.places n ≡ Some p → n < 10
  low sound n p e = place_low t n p sound e

  -- what is pending can be used, and then these are the rows
  abbrev pub IsFine : List Row → Pending → Given → Type 0
  IsFine rows pending before = (fault_at t (resting rows pending) ≡ []) × (settled_rows (rules_of t) pending rows ≡ rows_for before)

  -- the words are read as this
  abbrev pub Reads : Bool → List Text → ℕ → Option Given → Type 0
  Reads is_trailing words n o = (rows : List Row) (pending : Pending) (before : Given) → IsFine rows pending before
      → out (shape_for name t) (at (resting rows pending) idle n is_trailing) words ≡ finish before o

  -- what is pending can't be used
  placed_doomed : (h : Held) (o : Option Text) (word : Text) (n : ℕ) (is_trailing : Bool) (rest : List Text) (k : ErrorKind) (ks : Kinds)
      → fault_at t h ≡ k ∷ ks → placed_out name t o word h n is_trailing rest ≡ None
  placed_doomed h None word n is_trailing rest k ks e = refl
  placed_doomed h (Some p) word n is_trailing rest k ks e =
      ap (λ f. checked f (out (shape_for name t) (at (pushed p word (settled (rules_of t) h)) idle (suc n) is_trailing) rest)) e

  ended_doomed : is_sound t ≡ true → (h : Held) (waiting : Waiting) (n : ℕ) (words : List Text) (k : ErrorKind) (ks : Kinds)
      → fault_at t h ≡ k ∷ ks → out (shape_for name t) (at h waiting n true) words ≡ None
  ended_doomed sound h waiting n [] k ks e = ap (λ f. checked f (Some (settled (rules_of t) h).rows)) e
  ended_doomed sound h waiting n (word ∷ rest) k ks e =
      ended_turn name t h waiting n word rest (low sound n) ∙ placed_doomed h (slice_get t.places n) word n true rest k ks e

  named_doomed : (h : Held) (o : Option (Text × Bool)) (v : Option Text) (k : ErrorKind) (ks : Kinds)
      → fault_at t h ≡ k ∷ ks → (l : ErrorKind) × (ls : Kinds) × (long_fault (rules_of t) false (rule_found o) v h ≡ l ∷ ls)
  named_doomed h None v k ks e = (kind.UnknownArgument, [], refl)
  named_doomed h (Some (n, true)) (Some v) k ks e =
      (k, ks, ap (λ f. or_else f (use_fault false (valued_rule None (Some n) n) (v ∷ []) (settled (rules_of t) h).rows)) e)
  named_doomed h (Some (n, true)) None k ks e = (k, ks, e)
  named_doomed h (Some (n, false)) (Some v) k ks e = (kind.TooManyValues, [], refl)
  named_doomed h (Some (n, false)) None k ks e =
      (k, ks, ap (λ f. or_else f (use_fault false (flagged_rule n) [] (settled (rules_of t) h).rows)) e)

  -- an option behind what can't be used
  named_refused : (h : Held) (waiting : Waiting) (n : ℕ) (word a : Text) (v : Option Text) (rest : List Text) (k : ErrorKind) (ks : Kinds)
      → Seen word (named a v) → fault_at t h ≡ k ∷ ks → out (shape_for name t) (at h waiting n false) (word ∷ rest) ≡ None
  named_refused h waiting n word a v rest k ks s e =
      let d = named_doomed h (option_named t a) v k ks e in
      refused_turn name t h waiting n word rest d.0 d.1 (named_fault name t waiting word a v h s ∙ d.2)

  unknown_refused : (rows : List Row) (pending : Pending) (waiting : Waiting) (n : ℕ) (word : Text) (rest : List Text)
      → Seen word unknown → out (shape_for name t) (at (resting rows pending) waiting n false) (word ∷ rest) ≡ None
  unknown_refused rows pending waiting n word rest s =
      refused_turn name t (resting rows pending) waiting n word rest kind.UnknownArgument [] (unknown_fault name t waiting word rows pending s)

  doomed : is_sound t ≡ true → (rows : List Row) (pending : Pending) (n : ℕ) (words : List Text) (k : ErrorKind) (ks : Kinds) → AreTexts words
      → fault_at t (resting rows pending) ≡ k ∷ ks → out (shape_for name t) (at (resting rows pending) idle n false) words ≡ None
  doomed sound rows pending n [] k ks u e = ap (λ f. checked f (Some (settled_rows (rules_of t) pending rows))) e
  doomed sound rows pending n (word ∷ rest) k ks u e = go (kind_of word) (seen word u.0)
    where
      go : (w : Kind) → Seen word w → out (shape_for name t) (at (resting rows pending) idle n false) (word ∷ rest) ≡ None
      go plain s =
          turn name t (resting rows pending) (resting rows pending) idle n word rest [] value (plain_fault name t idle word (resting rows pending) s) (plain_met name t idle (suc n) word (resting rows pending) s)
          ∙ value_turn name t (resting rows pending) idle n false word rest (low sound n)
          ∙ placed_doomed (resting rows pending) (slice_get t.places n) word n false rest k ks e
      go dashes s =
          turn name t (resting rows pending) (resting rows pending) idle n word rest [] (trailing (suc n)) (dashes_fault name t idle word (resting rows pending) s) (dashes_met name t idle (suc n) word (resting rows pending) s)
          ∙ ended_doomed sound (resting rows pending) idle n rest k ks e
      go (named a v) s = named_refused (resting rows pending) idle n word a v rest k ks s e
      go unknown s = unknown_refused rows pending idle n word rest s

  -- what can't be used, behind `--` or not
  doomed_at : is_sound t ≡ true → (is_trailing : Bool) (rows : List Row) (pending : Pending) (n : ℕ) (words : List Text) (k : ErrorKind) (ks : Kinds) → AreTexts words
      → fault_at t (resting rows pending) ≡ k ∷ ks → out (shape_for name t) (at (resting rows pending) idle n is_trailing) words ≡ None
  doomed_at sound true rows pending n words k ks u e = ended_doomed sound (resting rows pending) idle n words k ks e
  doomed_at sound false rows pending n words k ks u e = doomed sound rows pending n words k ks u e

  -- a value is pending
  full : is_sound t ≡ true → (is_trailing : Bool) (before : Given) (id v : Text) (n : ℕ) (words : List Text) (o : Option Given) → AreTexts words → IsValued t id
      → Reads is_trailing words n o
      → out (shape_for name t) (at (resting (rows_for before) (Some (id, v ∷ []))) idle n is_trailing) words ≡ finish before (paired id v o)
  full sound is_trailing before id v n words o u valued reads = cases (has id before) _
      (λ h. doomed_at sound is_trailing (rows_for before) (Some (id, v ∷ [])) n words kind.ArgumentConflict [] u
      (full_again t id v (rows_for before) valued (has_rows id before ∙ h))
      ∙ finish_again before id v o h)
      (λ h.
      let f = full_fault t id v (rows_for before) valued (has_rows id before ∙ h) in
      reads (rows_for before) (Some (id, v ∷ [])) (before ++ (id, v) ∷ []) (f.0, f.1 ∙ one_more before id v)
      ∙ finish_new before id v o h)

  -- a plain word at its place
  placed_reads : is_sound t ≡ true → (is_trailing : Bool) (rows : List Row) (pending : Pending) (before : Given) (word : Text) (n : ℕ) (rest : List Text) (o : Option Given)
      → AreTexts rest → IsFine rows pending before → Reads is_trailing rest (suc n) o
      → placed_out name t (slice_get t.places n) word (resting rows pending) n is_trailing rest ≡ finish before (placed (slice_get t.places n) word o)
  placed_reads sound is_trailing rows pending before word n rest o u fine reads = go (slice_get t.places n) refl
    where
      go : (p : Option Text) → slice_get t.places n ≡ p → placed_out name t p word (resting rows pending) n is_trailing rest ≡ finish before (placed p word o)
      go None e = refl
      go (Some p) e =
          ap₂ (λ (f : Kinds) (rs : List Row). checked f (out (shape_for name t) (at (resting rs (Some (p, word ∷ []))) idle (suc n) is_trailing) rest)) fine.0 fine.1
          ∙ full sound is_trailing before p word (suc n) rest o u (place_valued t n p e) reads

  -- behind `--`
  ended_reads : is_sound t ≡ true → (words : List Text) (n : ℕ) → AreTexts words → Reads true words n (given is_loose_value t words ended n)
  ended_reads sound [] n u = λ rows pending before fine.
      ap₂ (λ (f : Kinds) (rs : List Row). checked f (Some rs)) fine.0 fine.1 ∙ ap (λ (g : Given). Some (rows_for g)) (sym (append-nil before))
  ended_reads sound (word ∷ rest) n u = λ rows pending before fine.
      ended_turn name t (resting rows pending) idle n word rest (low sound n)
      ∙ placed_reads sound true rows pending before word n rest (given is_loose_value t rest ended (suc n)) u.1 fine (ended_reads sound rest (suc n) u.1)

  -- the value of an option comes next
  abbrev pub ReadsValue : List Text → Type 0
  ReadsValue words = (n : ℕ) (id : Text) (before : Given) → IsValued t id
      → out (shape_for name t) (at (resting (rows_for before) (Some (id, []))) (option id) n false) words ≡ finish before (given is_loose_value t words (awaits id) n)

  abbrev pub ReadsAny : List Text → Type 0
  ReadsAny words = (n : ℕ) → Reads false words n (given is_loose_value t words between n)

  -- an option takes its value
  option_turn : (id word : Text) (before : Given) (n : ℕ) → IsValued t id
      → plain_word (rules_of t) (option id) word (resting (rows_for before) (Some (id, [])))
      ≡ (resting (rows_for before) (Some (id, word ∷ [])), next idle)
  option_turn id word before n valued =
      ap (λ (o : Option Rule). ((option_word o id word (resting (rows_for before) (Some (id, [])))).0, next (option_word o id word (resting (rows_for before) (Some (id, [])))).1)) valued.2
      ∙ rw (same_text id) refl

  value_reads : is_sound t ≡ true → (word : Text) (rest : List Text) → AreTexts (word ∷ rest) → ReadsAny rest → ReadsValue (word ∷ rest)
  value_reads sound word rest u reads n id before valued = go (kind_of word) (seen word u.0)
    where
      go : (w : Kind) → Seen word w → out (shape_for name t) (at (resting (rows_for before) (Some (id, []))) (option id) n false) (word ∷ rest)
          ≡ finish before (value_step (is_plain w) id word (given is_loose_value t rest between n))
      go plain s =
          turn name t (resting (rows_for before) (Some (id, []))) (resting (rows_for before) (Some (id, word ∷ []))) (option id) n word rest [] (next idle)
          (plain_fault name t (option id) word (resting (rows_for before) (Some (id, []))) s)
          (plain_met name t (option id) (suc n) word (resting (rows_for before) (Some (id, []))) s ∙ option_turn id word before n valued)
          ∙ full sound false before id word n rest (given is_loose_value t rest between n) u.1 valued (reads n)
      go dashes s =
          turn name t (resting (rows_for before) (Some (id, []))) (resting (rows_for before) (Some (id, []))) (option id) n word rest [] (trailing (suc n))
          (dashes_fault name t (option id) word (resting (rows_for before) (Some (id, []))) s) (dashes_met name t (option id) (suc n) word (resting (rows_for before) (Some (id, []))) s)
          ∙ ended_doomed sound (resting (rows_for before) (Some (id, []))) (option id) n rest kind.InvalidValue [] (empty_fault t id (rows_for before) valued)
      go (named a v) s =
          named_refused (resting (rows_for before) (Some (id, []))) (option id) n word a v rest kind.InvalidValue [] s (empty_fault t id (rows_for before) valued)
      go unknown s = unknown_refused (rows_for before) (Some (id, [])) (option id) n word rest s

  -- an option that has its value, or a flag
  used_reads : (r : Rule) (vs : List Text) (id v : Text) (before : Given) (n : ℕ) (rest : List Text) (o : Option Given)
      → (has id before ≡ false → (use_fault false r vs (rows_for before) ≡ []) × (used r vs (rows_for before) ≡ rows_for before ++ row_for id v ∷ []))
      → (has id before ≡ true → use_fault false r vs (rows_for before) ≡ kind.ArgumentConflict ∷ [])
      → Reads false rest n o
      → checked (use_fault false r vs (rows_for before)) (out (shape_for name t) (at (resting (used r vs (rows_for before)) None) idle n false) rest) ≡ finish before (paired id v o)
  used_reads r vs id v before n rest o new again reads = cases (has id before) _
      (λ h. ap (λ f. checked f (out (shape_for name t) (at (resting (used r vs (rows_for before)) None) idle n false) rest)) (again h) ∙ finish_again before id v o h)
      (λ h.
      ap (λ f. checked f (out (shape_for name t) (at (resting (used r vs (rows_for before)) None) idle n false) rest)) (new h).0
      ∙ reads (used r vs (rows_for before)) None (before ++ (id, v) ∷ []) (refl, (new h).1 ∙ one_more before id v)
      ∙ finish_new before id v o h)

  or_nil : (ks : Kinds) → or_else ks [] ≡ ks
  or_nil [] = refl
  or_nil (k ∷ ks) = refl

  -- what is pending is used first
  uses_step : (r : Rule) (vs : List Text) (rows : List Row) (pending : Pending) (before : Given) (n : ℕ) (rest : List Text) → IsFine rows pending before
      → checked (or_else (or_else (fault_at t (resting rows pending)) (use_fault false r vs (settled_rows (rules_of t) pending rows))) []) (out (shape_for name t) (at (resting (used r vs (settled_rows (rules_of t) pending rows)) None) idle n false) rest)
      ≡ checked (use_fault false r vs (rows_for before)) (out (shape_for name t) (at (resting (used r vs (rows_for before)) None) idle n false) rest)
  uses_step r vs rows pending before n rest fine =
      ap₂ (λ (f : Kinds) (rs : List Row). checked (or_else (or_else f (use_fault false r vs rs)) []) (out (shape_for name t) (at (resting (used r vs rs) None) idle n false) rest)) fine.0 fine.1
      ∙ ap (λ f. checked f (out (shape_for name t) (at (resting (used r vs (rows_for before)) None) idle n false) rest)) (or_nil (use_fault false r vs (rows_for before)))

  -- an option, by its place in the table
  abbrev pub met_of : Option (Text × Bool) → Option Text → Text → Held → Held × Step
  met_of o v word h = after_flag (rules_of t) idle word (long_met (rules_of t) (rule_found o) v h).0 (long_met (rules_of t) (rule_found o) v h).1

  named_turn : (h : Held) (n : ℕ) (word a : Text) (v : Option Text) (o : Option (Text × Bool)) (rest : List Text) → Seen word (named a v) → option_named t a ≡ o
      → out (shape_for name t) (at h idle n false) (word ∷ rest)
      ≡ checked (or_else (long_fault (rules_of t) false (rule_found o) v h) (step_fault (shape_for name t) (suc n) (met_of o v word h).0 (met_of o v word h).1))
      (out (shape_for name t) (after_step (rules_of t) word (at h idle n false) (met_of o v word h).0 (met_of o v word h).1) rest)
  named_turn h n word a v o rest s e =
      turn name t h (met_of (option_named t a) v word h).0 idle n word rest (long_fault (rules_of t) false (rule_found (option_named t a)) v h) (met_of (option_named t a) v word h).1
      (named_fault name t idle word a v h s) (named_met name t idle (suc n) word a v h s)
      ∙ ap (λ p. checked (or_else (long_fault (rules_of t) false (rule_found p) v h) (step_fault (shape_for name t) (suc n) (met_of p v word h).0 (met_of p v word h).1))
      (out (shape_for name t) (after_step (rules_of t) word (at h idle n false) (met_of p v word h).0 (met_of p v word h).1) rest)) e

  named_reads : is_sound t ≡ true → (word a : Text) (v : Option Text) (rest : List Text) (n : ℕ) → Seen word (named a v) → ReadsAny rest → ReadsValue rest
      → (rows : List Row) (pending : Pending) (before : Given) → IsFine rows pending before
      → out (shape_for name t) (at (resting rows pending) idle n false) (word ∷ rest)
      ≡ finish before (option_met (option_named t a) v (λ m. given is_loose_value t rest m n))
  named_reads sound word a v rest n s reads value_reads rows pending before fine =
      go (option_named t a) refl v (λ o e. named_turn (resting rows pending) n word a v o rest s e)
    where
      go : (o : Option (Text × Bool)) → option_named t a ≡ o → (v : Option Text)
          → ((p : Option (Text × Bool)) → option_named t a ≡ p → out (shape_for name t) (at (resting rows pending) idle n false) (word ∷ rest)
          ≡ checked (or_else (long_fault (rules_of t) false (rule_found p) v (resting rows pending)) (step_fault (shape_for name t) (suc n) (met_of p v word (resting rows pending)).0 (met_of p v word (resting rows pending)).1))
          (out (shape_for name t) (after_step (rules_of t) word (at (resting rows pending) idle n false) (met_of p v word (resting rows pending)).0 (met_of p v word (resting rows pending)).1) rest))
          → out (shape_for name t) (at (resting rows pending) idle n false) (word ∷ rest) ≡ finish before (option_met o v (λ m. given is_loose_value t rest m n))
      go None e v turns = turns None e
      go (Some (id, true)) e (Some v) turns =
          turns (Some (id, true)) e
          ∙ uses_step (valued_rule None (Some id) id) (v ∷ []) rows pending before n rest fine
          ∙ used_reads (valued_rule None (Some id) id) (v ∷ []) id v before n rest (given is_loose_value t rest between n)
          (λ h. used_valued None (Some id) id v (rows_for before) (has_rows id before ∙ h)) (λ h. valued_again None (Some id) id v (rows_for before) (has_rows id before ∙ h)) (reads n)
      go (Some (id, true)) e None turns =
          turns (Some (id, true)) e
          ∙ ap₂ (λ (f : Kinds) (rs : List Row). checked (or_else f []) (out (shape_for name t) (at (resting rs (Some (id, []))) (option id) n false) rest)) fine.0 fine.1
          ∙ value_reads n id before (option_valued t a id sound e)
      go (Some (id, false)) e (Some v) turns = turns (Some (id, false)) e
      go (Some (id, false)) e None turns =
          turns (Some (id, false)) e
          ∙ uses_step (flagged_rule id) [] rows pending before n rest fine
          ∙ used_reads (flagged_rule id) [] id (codes "true") before n rest (given is_loose_value t rest between n)
          (λ h. used_flag id (rows_for before) (has_rows id before ∙ h)) (λ h. flag_again id (rows_for before) (has_rows id before ∙ h)) (reads n)

  any_reads : is_sound t ≡ true → (word : Text) (rest : List Text) → AreTexts (word ∷ rest) → ReadsAny rest → ReadsValue rest → ReadsAny (word ∷ rest)
  any_reads sound word rest u reads values n rows pending before fine = go (kind_of word) (seen word u.0)
    where
      go : (w : Kind) → Seen word w → out (shape_for name t) (at (resting rows pending) idle n false) (word ∷ rest)
          ≡ finish before (kind_step t w word n (given is_loose_value t rest))
      go plain s =
          turn name t (resting rows pending) (resting rows pending) idle n word rest [] value (plain_fault name t idle word (resting rows pending) s) (plain_met name t idle (suc n) word (resting rows pending) s)
          ∙ value_turn name t (resting rows pending) idle n false word rest (low sound n)
          ∙ placed_reads sound false rows pending before word n rest (given is_loose_value t rest between (suc n)) u.1 fine (reads (suc n))
      go dashes s =
          turn name t (resting rows pending) (resting rows pending) idle n word rest [] (trailing (suc n)) (dashes_fault name t idle word (resting rows pending) s) (dashes_met name t idle (suc n) word (resting rows pending) s)
          ∙ ended_reads sound rest n u.1 rows pending before fine
      go (named a v) s = named_reads sound word a v rest n s reads values rows pending before fine
      go unknown s = unknown_refused rows pending idle n word rest s

  -- all words, whatever may come first
  all_reads : is_sound t ≡ true → (words : List Text) → AreTexts words → ReadsAny words × ReadsValue words
  all_reads sound [] u = (
    (λ n rows pending before fine.
        ap₂ (λ (f : Kinds) (rs : List Row). checked f (Some rs)) fine.0 fine.1 ∙ ap (λ (g : Given). Some (rows_for g)) (sym (append-nil before))),
    (λ n id before valued. ap (λ f. checked f (Some (settled_rows (rules_of t) (Some (id, [])) (rows_for before)))) (empty_fault t id (rows_for before) valued)),
  )
  all_reads sound (word ∷ rest) u =
      let ih = all_reads sound rest u.1 in
      (any_reads sound word rest u ih.0 ih.1, value_reads sound word rest u ih.0)

  -- the rows of a command's words
  pub words_read : is_sound t ≡ true → (words : List Text) → AreTexts words
      → out (shape_for name t) (at (resting [] None) idle 0 false) words ≡ finish [] (given is_loose_value t words between 0)
  words_read sound words u = (all_reads sound words u).0 0 [] None [] (refl, refl)
