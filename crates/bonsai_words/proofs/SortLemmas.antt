-- From `clap`'s answer to what is given, and from what `clap` takes to what may be taken.
use Rattle.std.proofs.Common.{◌≡◌, ◌∙◌, ◌⊎◌, inl, inr, ℕ, zero, suc, Bool, true, false, cond, not, ◌&&◌, ◌||◌, refl, sym, ap, subst, List, [], ◌∷◌, Option, Some, None, Ok, codes, drop}
use Rattle.std.specs.Prelude.{find, fold, option_map, option_and_then, slice_get, is_some, ⊤}
use Rattle.std.specs.Option.{option_or}
use Rattle.std.specs.List.{list_all, list_any}
use Rattle.std.specs.Str.{bytes_eq}
use Rattle.std.proofs.lemmas.Bool.{both_ways, and_parts, and_from, not-true, or_parts, or_right, false_from_ne_true}
use Rattle.std.proofs.lemmas.Slice.Eq.{bytes_eq-Decides}
use Rattle.clap.specs.Kinds.{Kinds}
use Rattle.clap.specs.Matches.{first_value, one_text, found_of}
use Rattle.clap.specs.Walk.{Row, first_of, nothing_held, one_of, row_text, rows_of, settled, walk, with_default}
use Rattle.clap.specs.Faults.{built_fault, fault_of}
use Rattle.clap.specs.Simple.{App, built, matches_of}
use Rattle.clap.specs.declared.parser.matches.ArgMatches.{ArgMatches}
use Rattle.clap.proofs.WalkLemmas.{first_value-rows, one_text-rows}
use Rattle.bonsai_words.specs.Reading.{Text, Given, Table, Kind, plain, dashes, named, unknown, kind_of, is_value, given, Mode, between, awaits, ended, paired, placed, option_met, kind_step, value_step, has, is_once, once, option_named, value_of}
use Rattle.bonsai_words.specs.Parsing.{app_for, is_plain, is_loose_value, loosely, is_flag, IsSorted, IsTaken}
use Rattle.bonsai_words.proofs.WordLemmas.{value_plain, plain_dash}
use Rattle.bonsai_words.proofs.RuleLemmas.{rules_of, is_sound, option_is}
use Rattle.bonsai_words.proofs.StepLemmas.{row_for, rows_for, checked}
use Rattle.bonsai_words.proofs.ReadLemmas.{AreTexts, finish, words_read}
use Rattle.bonsai_words.proofs.TakeLemmas.{built_app, built_out, default_row, default_none, default_some, row_found}

-- ---- a flag that is given is `true`

abbrev says_true : Text → Given → Bool
says_true f [] = true
says_true f (p ∷ g) = (not (bytes_eq p.0 f) || bytes_eq p.1 (codes "true")) && says_true f g

abbrev SaysTrue : Text → Option Given → Type 0
SaysTrue f None = ⊤
SaysTrue f (Some g) = says_true f g ≡ true

abbrev IsOther : Text → Mode → Type 0
IsOther f between = ⊤
IsOther f (awaits name) = bytes_eq name f ≡ false
IsOther f ended = ⊤

other_paired : (f name v : Text) (o : Option Given) → bytes_eq name f ≡ false → SaysTrue f o → SaysTrue f (paired name v o)
other_paired f name v None h s = tt
other_paired f name v (Some g) h s = rw h s

true_paired : (f name : Text) (o : Option Given) → SaysTrue f o → SaysTrue f (paired name (codes "true") o)
true_paired f name None s = tt
true_paired f name (Some g) s = and_from _ _ (or_right (not (bytes_eq name f)) (bytes_eq (codes "true") (codes "true")) refl) s

any_get : (ps : List Text) (n : ℕ) (p f : Text) → list_any (λ p. bytes_eq p f) ps ≡ false → slice_get ps n ≡ Some p → bytes_eq p f ≡ false
any_get [] n p f h e = absurd cc
any_get (q ∷ qs) zero p f h e =
    let same : q ≡ p = cc in
    ap (λ x. bytes_eq x f) (sym same) ∙ (or_parts _ _ h).0
any_get (q ∷ qs) (suc n) p f h e = any_get qs n p f (or_parts _ _ h).1 e

module _ (test : Text → Bool) (t : Table) (f : Text) (flag : option_named t f ≡ Some (f, false)) (free : list_any (λ p. bytes_eq p f) t.places ≡ false) where
  other_placed : (n : ℕ) (word : Text) (o : Option Given) → SaysTrue f o → SaysTrue f (placed (slice_get t.places n) word o)
  other_placed n word o s = go (slice_get t.places n) refl
    where
      go : (p : Option Text) → slice_get t.places n ≡ p → SaysTrue f (placed p word o)
      go None e = tt
      go (Some p) e = other_paired f p word o (any_get t.places n p f free e) s

  valued_other : (a n : Text) → option_named t a ≡ Some (n, true) → bytes_eq n f ≡ false
  valued_other a n e = false_from_ne_true (bytes_eq n f) (λ same.
      let is_f : n ≡ f = (bytes_eq-Decides n f).0 same in
      let is_a : n ≡ a = option_is t a (n, true) e in
      let there : option_named t f ≡ Some (n, true) = ap (option_named t) (sym is_f ∙ is_a) ∙ e in
      let both : Some (f, false) ≡ Some (n, true) = sym flag ∙ there in
      let pair : (f, false) ≡ (n, true) = cc in
      both_ways true (sym (ap (λ (p : Text × Bool). p.1) pair)) refl)

  other_met : (a : Text) (v : Option Text) (rest : Mode → Option Given) → ((m : Mode) → IsOther f m → SaysTrue f (rest m))
      → SaysTrue f (option_met (option_named t a) v rest)
  other_met a v rest s = go (option_named t a) refl v
    where
      go : (o : Option (Text × Bool)) → option_named t a ≡ o → (v : Option Text) → SaysTrue f (option_met o v rest)
      go None e v = tt
      go (Some (n, true)) e (Some v) = other_paired f n v (rest between) (valued_other a n e) (s between tt)
      go (Some (n, true)) e None = s (awaits n) (valued_other a n e)
      go (Some (n, false)) e (Some v) = tt
      go (Some (n, false)) e None = true_paired f n (rest between) (s between tt)

  flags_true : (words : List Text) (m : Mode) (n : ℕ) → IsOther f m → SaysTrue f (given test t words m n)
  flags_true [] between n i = refl
  flags_true [] (awaits name) n i = tt
  flags_true [] ended n i = refl
  flags_true (word ∷ words) ended n i = other_placed n word _ (flags_true words ended (suc n) tt)
  flags_true (word ∷ words) (awaits name) n i = go (test word) (flags_true words between n tt)
    where
      go : (b : Bool) → SaysTrue f (given test t words between n) → SaysTrue f (value_step b name word (given test t words between n))
      go true s = other_paired f name word _ i s
      go false s = tt
  flags_true (word ∷ words) between n i = go (kind_of word) (λ m k j. flags_true words m k j)
    where
      go : (w : Kind) → ((m : Mode) (k : ℕ) → IsOther f m → SaysTrue f (given test t words m k)) → SaysTrue f (kind_step t w word n (given test t words))
      go plain s = other_placed n word _ (s between (suc n) tt)
      go dashes s = s ended n tt
      go (named a v) s = other_met a v (λ m. given test t words m n) (λ m j. s m n j)
      go unknown s = tt

true_found : (f : Text) (g : Given) (p : Text × Text) → says_true f g ≡ true → find (λ p. bytes_eq p.0 f) g ≡ Some p → p.1 ≡ codes "true"
true_found f [] p s e = absurd cc
true_found f (q ∷ g) p s e = go (bytes_eq q.0 f) refl (and_parts _ _ s) e (true_found f g p)
  where
    go : (b : Bool) → bytes_eq q.0 f ≡ b → ((not (bytes_eq q.0 f) || bytes_eq q.1 (codes "true")) ≡ true) × (says_true f g ≡ true)
        → cond b (Some q) (find (λ p. bytes_eq p.0 f) g) ≡ Some p → (says_true f g ≡ true → find (λ p. bytes_eq p.0 f) g ≡ Some p → p.1 ≡ codes "true") → p.1 ≡ codes "true"
    go true is parts h ih =
        let same : q ≡ p = cc in
        let says : (not true || bytes_eq q.1 (codes "true")) ≡ true = subst (λ b. (not b || bytes_eq q.1 (codes "true")) ≡ true) is parts.0 in
        ap (λ (x : Text × Text). x.1) (sym same) ∙ (bytes_eq-Decides q.1 (codes "true")).0 says
    go false is parts h ih = ih parts.1 h

has_found : (name : Text) (g : Given) → is_some (find (λ p. bytes_eq p.0 name) g) ≡ has name g
has_found name [] = refl
has_found name (p ∷ g) = go (bytes_eq p.0 name) (has_found name g)
  where
    go : (b : Bool) → is_some (find (λ p. bytes_eq p.0 name) g) ≡ has name g → is_some (cond b (Some p) (find (λ p. bytes_eq p.0 name) g)) ≡ (b || has name g)
    go true ih = refl
    go false ih = ih

free_flag : (os : List (Text × Bool)) (P : Text × Bool → Bool) (name : Text) (x : Text × Bool) → list_all P os ≡ true → find (λ o. bytes_eq o.0 name) os ≡ Some x → P x ≡ true
free_flag [] P name x all e = absurd cc
free_flag (o ∷ os) P name x all e = go (bytes_eq o.0 name) (and_parts _ _ all) e (free_flag os P name x)
  where
    go : (b : Bool) → (P o ≡ true) × (list_all P os ≡ true) → cond b (Some o) (find (λ o. bytes_eq o.0 name) os) ≡ Some x
        → (list_all P os ≡ true → find (λ o. bytes_eq o.0 name) os ≡ Some x → P x ≡ true) → P x ≡ true
    go true parts h ih =
        let same : o ≡ x = cc in
        ap P (sym same) ∙ parts.0
    go false parts h ih = ih parts.1 h

-- ---- an `Ok`

module _ (t : Table) (g : Given) (m : ArgMatches) (rows : rows_of (found_of m) ≡ fold with_default (rows_for g) (rules_of t)) where
  values_of : (name : Text) → is_flag t name ≡ false → first_value (found_of m) name ≡ value_of name g
  values_of name h =
      first_value-rows (found_of m) name
      ∙ ap (first_of name) rows
      ∙ ap (option_and_then (λ (r : Row). slice_get r.values 0)) (row_found t g name ∙ ap (λ o. option_or (option_map (λ p. row_for p.0 p.1) (find (λ p. bytes_eq p.0 name) g)) o) (default_none t.options name h))
      ∙ go (find (λ p. bytes_eq p.0 name) g)
    where
      go : (o : Option (Text × Text)) → option_and_then (λ (r : Row). slice_get r.values 0) (option_or (option_map (λ p. row_for p.0 p.1) o) None) ≡ option_map (λ p. p.1) o
      go None = refl
      go (Some p) = refl

  flags_of : (name : Text) → option_named t name ≡ Some (name, false) → says_true name g ≡ true
      → one_text (found_of m) name ≡ Some (cond (has name g) (codes "true") (codes "false"))
  flags_of name h says =
      one_text-rows (found_of m) name
      ∙ ap (one_of name) rows
      ∙ ap (option_and_then row_text) (row_found t g name ∙ ap (λ o. option_or (option_map (λ p. row_for p.0 p.1) (find (λ p. bytes_eq p.0 name) g)) o) (default_some t.options name name h))
      ∙ go (find (λ p. bytes_eq p.0 name) g) refl
      ∙ ap (λ b. Some (cond b (codes "true") (codes "false"))) (has_found name g)
    where
      go : (o : Option (Text × Text)) → find (λ p. bytes_eq p.0 name) g ≡ o
          → option_and_then row_text (option_or (option_map (λ p. row_for p.0 p.1) o) (Some (default_row name))) ≡ Some (cond (is_some o) (codes "true") (codes "false"))
      go None e = refl
      go (Some p) e = ap Some (true_found name g p says e)

finish_some : (t : Table) (words : List Text) (o : Option Given) (rows : List Row) → given is_loose_value t words between 0 ≡ o → Some rows ≡ finish [] o
    → (g : Given) × (o ≡ Some g) × (loosely t words ≡ Some g) × (rows ≡ rows_for g)
finish_some t words None rows is e = absurd cc
finish_some t words (Some g) rows is e = go (is_once [] g) refl e
  where
    go : (b : Bool) → is_once [] g ≡ b → Some rows ≡ cond b (Some (rows_for g)) None
        → (h : Given) × (Some g ≡ Some h) × (loosely t words ≡ Some h) × (rows ≡ rows_for h)
    go true once_is h =
        let same : rows ≡ rows_for g = cc in
        (g, refl, ap (option_and_then once) is ∙ ap (λ b. cond b (Some g) None) once_is, same)
    go false once_is h = absurd cc

finish_none : (t : Table) (words : List Text) (o : Option Given) → given is_loose_value t words between 0 ≡ o → None ≡ finish [] o → loosely t words ≡ None
finish_none t words None is e = ap (option_and_then once) is
finish_none t words (Some g) is e = go (is_once [] g) refl e
  where
    go : (b : Bool) → is_once [] g ≡ b → None ≡ cond b (Some (rows_for g)) None → loosely t words ≡ None
    go true once_is h = absurd cc
    go false once_is h = ap (option_and_then once) is ∙ ap (λ b. cond b (Some g) None) once_is

module _ (name : Text) (t : Table) (sound : is_sound t ≡ true) (is_built : built (app_for name t) ≡ built_app name t) where
  fault_is : (words : List Text) → fault_of (app_for name t) words ≡ built_fault (built_app name t) nothing_held (drop 1 words)
  fault_is words = ap (λ a. built_fault a nothing_held (drop 1 words)) is_built

  matches_are : (words : List Text) → matches_of (app_for name t) words ≡ fold with_default (settled (rules_of t) (walk (rules_of t) [] nothing_held (drop 1 words)).held).rows (rules_of t)
  matches_are words = ap (λ (a : App). Rattle.clap.specs.Walk.rows_after a.top.rules (Rattle.clap.specs.Simple.names_of a) (drop 1 words)) is_built

  pub sorted_ok : (words : List Text) (m : ArgMatches) → AreTexts (drop 1 words) → IsTaken (app_for name t) words (Ok m) → IsSorted t (drop 1 words) (Ok m)
  sorted_ok words m texts taken =
      let behind = drop 1 words in
      let end = (settled (rules_of t) (walk (rules_of t) [] nothing_held behind).held).rows in
      let none : built_fault (built_app name t) nothing_held behind ≡ [] = sym (fault_is words) ∙ taken.0 in
      let is : Some end ≡ finish [] (given is_loose_value t behind between 0) =
      sym (ap (λ ks. checked ks (Some end)) none) ∙ built_out name t behind ∙ words_read name t sound behind texts in
      let f = finish_some t behind (given is_loose_value t behind between 0) end refl is in
      let g = f.0 in
      let rows : rows_of (found_of m) ≡ fold with_default (rows_for g) (rules_of t) =
      taken.1 ∙ matches_are words ∙ ap (λ rs. fold with_default rs (rules_of t)) f.3 in (
        g,
        f.2,
        record {
          values = values_of t g m rows;
          flags = λ id h.
              let free = not-true _ (free_flag t.options (λ (o : Text × Bool). not (list_any (λ p. bytes_eq p o.0) t.places)) id (id, false) (and_parts _ _ sound).0 h) in
              flags_of t g m rows id h (subst (SaysTrue id) f.1 (flags_true is_loose_value t id h free behind between 0 tt));
        },
      )

  pub sorted_err : (words : List Text) → AreTexts (drop 1 words) → (fault_of (app_for name t) words ≡ [] → ⊥) → loosely t (drop 1 words) ≡ None
  sorted_err words texts bad = go (built_fault (built_app name t) nothing_held (drop 1 words)) refl
    where
      go : (ks : Kinds) → built_fault (built_app name t) nothing_held (drop 1 words) ≡ ks → loosely t (drop 1 words) ≡ None
      go [] e = absurd (bad (fault_is words ∙ e))
      go (k ∷ ks) e =
          let end = (settled (rules_of t) (walk (rules_of t) [] nothing_held (drop 1 words)).held).rows in
          finish_none t (drop 1 words) (given is_loose_value t (drop 1 words) between 0) refl
          (sym (ap (λ ks. checked ks (Some end)) e) ∙ built_out name t (drop 1 words) ∙ words_read name t sound (drop 1 words) texts)

-- ---- the word `-` is no value

-- a pair whose value is `-`, of an option
abbrev pub HasDash : Table → Given → Type 0
HasDash t [] = ⊥
HasDash t (p ∷ g) = ((p.1 ≡ 45 ∷ []) × (option_named t p.0 ≡ Some (p.0, true))) ⊎ HasDash t g

-- the two readings agree, or the second has such a pair and the first is none
abbrev pub Strays : Table → Option Given → Option Given → Type 0
Strays t a b = (a ≡ b) ⊎ ((a ≡ None) × ((g : Given) × (b ≡ Some g) × HasDash t g))

stray_paired : (t : Table) (name v : Text) (a b : Option Given) → Strays t a b → Strays t (paired name v a) (paired name v b)
stray_paired t name v a b (inl e) = inl (ap (paired name v) e)
stray_paired t name v a b (inr s) = inr (ap (paired name v) s.0, ((name, v) ∷ s.1.0, ap (paired name v) s.1.1, inr s.1.2))

stray_placed : (t : Table) (p : Option Text) (word : Text) (a b : Option Given) → Strays t a b → Strays t (placed p word a) (placed p word b)
stray_placed t None word a b s = inl refl
stray_placed t (Some p) word a b s = stray_paired t p word a b s

abbrev pub IsNamedMode : Table → Mode → Type 0
IsNamedMode t between = ⊤
IsNamedMode t (awaits name) = option_named t name ≡ Some (name, true)
IsNamedMode t ended = ⊤

stray_dash : (t : Table) (name word : Text) (o : Option Given) → option_named t name ≡ Some (name, true) → word ≡ 45 ∷ [] → Strays t None (paired name word o)
stray_dash t name word None named_is is = inl refl
stray_dash t name word (Some g) named_is is = inr (refl, ((name, word) ∷ g, refl, inl (is, named_is)))

module _ (t : Table) where
  stray_met : (a : Text) (v : Option Text) (f g : Mode → Option Given) → ((m : Mode) → IsNamedMode t m → Strays t (f m) (g m))
      → Strays t (option_met (option_named t a) v f) (option_met (option_named t a) v g)
  stray_met a v f g s = go (option_named t a) refl v
    where
      go : (o : Option (Text × Bool)) → option_named t a ≡ o → (v : Option Text) → Strays t (option_met o v f) (option_met o v g)
      go None e v = inl refl
      go (Some (n, true)) e (Some v) = stray_paired t n v (f between) (g between) (s between tt)
      go (Some (n, true)) e None = s (awaits n) (ap (option_named t) (option_is t a (n, true) e) ∙ e)
      go (Some (n, false)) e (Some v) = inl refl
      go (Some (n, false)) e None = stray_paired t n (codes "true") (f between) (g between) (s between tt)

  pub strays : (words : List Text) (m : Mode) (n : ℕ) → IsNamedMode t m → Strays t (given is_value t words m n) (given is_loose_value t words m n)
  strays [] m n i = inl refl
  strays (word ∷ words) ended n i = stray_placed t (slice_get t.places n) word _ _ (strays words ended (suc n) tt)
  strays (word ∷ words) (awaits name) n i = go (is_value word) refl (is_loose_value word) refl (strays words between n tt)
    where
      go : (b : Bool) → is_value word ≡ b → (l : Bool) → is_loose_value word ≡ l → Strays t (given is_value t words between n) (given is_loose_value t words between n)
          → Strays t (value_step b name word (given is_value t words between n)) (value_step l name word (given is_loose_value t words between n))
      go true e true f s = stray_paired t name word _ _ s
      go true e false f s =
          let bad : true ≡ false = sym (ap is_plain (value_plain word e)) ∙ f in
          absurd cc
      go false e false f s = inl refl
      go false e true f s = stray_dash t name word _ i (plain_dash word (plain_from (kind_of word) refl f) e)
        where
          plain_from : (w : Kind) → kind_of word ≡ w → is_plain (kind_of word) ≡ true → kind_of word ≡ plain
          plain_from plain e f = e
          plain_from dashes e f = let bad : false ≡ true = sym (ap is_plain e) ∙ f in absurd cc
          plain_from (named a v) e f = let bad : false ≡ true = sym (ap is_plain e) ∙ f in absurd cc
          plain_from unknown e f = let bad : false ≡ true = sym (ap is_plain e) ∙ f in absurd cc
  strays (word ∷ words) between n i = go (kind_of word) (λ m k j. strays words m k j)
    where
      go : (w : Kind) → ((m : Mode) (k : ℕ) → IsNamedMode t m → Strays t (given is_value t words m k) (given is_loose_value t words m k))
          → Strays t (kind_step t w word n (given is_value t words)) (kind_step t w word n (given is_loose_value t words))
      go plain s = stray_placed t (slice_get t.places n) word _ _ (s between (suc n) tt)
      go dashes s = s ended n tt
      go (named a v) s = stray_met a v (λ m. given is_value t words m n) (λ m. given is_loose_value t words m n) (λ m j. s m n j)
      go unknown s = inl refl
