-- The rules that a table's command has once it is built, and which of them a word or a name finds.
use Rattle.std.proofs.Common.{◌≡◌, ◌∙◌, ◌<◌, ◌+◌, ◌==◌, ℕ, zero, suc, Bool, true, false, cond, not, ◌&&◌, ◌||◌, refl, sym, ap, subst, arith, List, [], ◌∷◌, ◌++◌, length, Option, Some, None, codes}
use Rattle.std.specs.Prelude.{find, slice_get, nat_lt, is_some}
use Rattle.std.specs.List.{list_all, list_any}
use Rattle.std.specs.Option.{option_map_or}
use Rattle.std.specs.Str.{bytes_eq}
use Rattle.std.proofs.lemmas.Bool.{both_ways, and_parts, eq-eqb, ne_eqb, ltb-true, not-true}
use Rattle.std.proofs.lemmas.Slice.Eq.{bytes_eq-Decides}
use Rattle.clap.specs.Walk.{Rule, arg_by_id, arg_by_index, arg_by_long, has_long}
use Rattle.clap.specs.Simple.{Shape, new_rule, new_shape}
use Rattle.clap.specs.declared.builder.action.ArgAction.TheVariants.{Set, SetTrue}
use Rattle.clap.specs.declared.builder.value_parser.ValueParser.TheVariants as vp
use Rattle.bonsai_words.specs.Reading.{Text, Table, option_named}

-- a plain word's place, or an option with a value
abbrev pub valued_rule : Option ℕ → Option Text → Text → Rule
valued_rule index long name = record (new_rule name) {
  index = index;
  long = long;
  action = Some Set;
  range = Some (record { start_inclusive = 1; end_inclusive = 1 });
  parser = Some vp.String;
}

abbrev pub flagged_rule : Text → Rule
flagged_rule name = record (new_rule name) {
  long = Some name;
  action = Some SetTrue;
  defaults = codes "false" ∷ [];
  missing = codes "true" ∷ [];
  range = Some (record { start_inclusive = 0; end_inclusive = 0 });
  parser = Some vp.Bool;
}

abbrev pub built_option : Text → Bool → Rule
built_option name true = valued_rule None (Some name) name
built_option name false = flagged_rule name

abbrev pub built_options : List (Text × Bool) → List Rule
built_options [] = []
built_options (o ∷ os) = built_option o.0 o.1 ∷ built_options os

abbrev pub built_places : ℕ → List Text → List Rule
built_places i [] = []
built_places i (p ∷ ps) = valued_rule (Some i) None p ∷ built_places (suc i) ps

abbrev pub rules_of : Table → List Rule
rules_of t = built_places 1 t.places ++ built_options t.options

abbrev pub shape_for : Text → Table → Shape
shape_for name t = record (new_shape name) {
  rules = rules_of t;
  disable_help_flag = true;
  disable_help_subcommand = true;
  disable_version_flag = true;
  is_built = true;
}

-- no option is named as a place, and the places are few
abbrev pub is_sound : Table → Bool
is_sound t = list_all (λ o. not (list_any (λ p. bytes_eq p o.0) t.places)) t.options && nat_lt (length t.places) 10

-- the rule of an option that was found
abbrev pub rule_found : Option (Text × Bool) → Option Rule
rule_found None = None
rule_found (Some o) = Some (built_option o.0 o.1)

abbrev pub place_found : ℕ → Option Text → Option Rule
place_found i None = None
place_found i (Some p) = Some (valued_rule (Some i) None p)

-- ---- by long name

or_false : (b : Bool) → (b || false) ≡ b
or_false true = refl
or_false false = refl

abbrev answers : Text → Rule → Bool
answers name a = not (is_some a.index) && has_long a name

long_option : (n : Text) (b : Bool) (name : Text) → answers name (built_option n b) ≡ bytes_eq n name
long_option n true name = or_false (bytes_eq n name)
long_option n false name = or_false (bytes_eq n name)

long_options : (os : List (Text × Bool)) (name : Text) → find (answers name) (built_options os) ≡ rule_found (find (λ o. bytes_eq o.0 name) os)
long_options [] name = refl
long_options (o ∷ os) name =
    ap (λ b. cond b (Some (built_option o.0 o.1)) (find (answers name) (built_options os))) (long_option o.0 o.1 name) ∙ go (bytes_eq o.0 name) (long_options os name)
  where
    go : (b : Bool) → find (answers name) (built_options os) ≡ rule_found (find (λ o. bytes_eq o.0 name) os) → cond b (Some (built_option o.0 o.1)) (find (answers name) (built_options os)) ≡ rule_found (cond b (Some o) (find (λ o. bytes_eq o.0 name) os))
    go true ih = refl
    go false ih = ih

long_places : (i : ℕ) (ps : List Text) (rest : List Rule) (name : Text) → find (answers name) (built_places i ps ++ rest) ≡ find (answers name) rest
long_places i [] rest name = refl
long_places i (p ∷ ps) rest name = long_places (suc i) ps rest name

pub by_long : (t : Table) (name : Text) → arg_by_long (rules_of t) name ≡ rule_found (option_named t name)
by_long t name = long_places 1 t.places (built_options t.options) name ∙ long_options t.options name

-- ---- by place

abbrev stands : ℕ → Rule → Bool
stands i a = option_map_or (λ k. k == i) a.index false

index_option : (n : Text) (b : Bool) (i : ℕ) → stands i (built_option n b) ≡ false
index_option n true i = refl
index_option n false i = refl

index_options : (os : List (Text × Bool)) (i : ℕ) → find (stands i) (built_options os) ≡ None
index_options [] i = refl
index_options (o ∷ os) i = rw (index_option o.0 o.1 i) (index_options os i)

index_places : (i : ℕ) (ps : List Text) (os : List (Text × Bool)) (n : ℕ) → find (stands (i + n)) (built_places i ps ++ built_options os) ≡ place_found (i + n) (slice_get ps n)
index_places i [] os n = index_options os (i + n)
index_places i (p ∷ ps) os zero =
    let here : (i == (i + 0)) ≡ true = eq-eqb i (i + 0) (omega arith) in
    let same : i ≡ i + 0 = omega arith in
    rw here (ap (λ k. Some (valued_rule (Some k) None p)) same)
index_places i (p ∷ ps) os (suc n) =
    let here : (i == (i + suc n)) ≡ false = ne_eqb i (i + suc n) (λ e. omega arith) in
    let same : i + suc n ≡ suc i + n = omega arith in
    rw here (subst (λ k. find (stands k) (built_places (suc i) ps ++ built_options os) ≡ place_found k (slice_get ps n)) (sym same) (index_places (suc i) ps os n))

pub by_place : (t : Table) (n : ℕ) → arg_by_index (rules_of t) (suc n) ≡ place_found (suc n) (slice_get t.places n)
by_place t n =
    let same : 1 + n ≡ suc n = omega arith in
    subst (λ k. find (stands k) (rules_of t) ≡ place_found k (slice_get t.places n)) same (index_places 1 t.places t.options n)

-- ---- by id

-- the rule of this name takes one value
abbrev pub IsValued : Table → Text → Type 0
IsValued t name = (i : Option ℕ) × (l : Option Text) × (arg_by_id (rules_of t) name ≡ Some (valued_rule i l name))

abbrev is_id : Text → Rule → Bool
is_id name a = bytes_eq a.id name

pub same_text : (a : Text) → bytes_eq a a ≡ true
same_text a = (bytes_eq-Decides a a).1 refl

id_place : (i : ℕ) (ps : List Text) (rest : List Rule) (n : ℕ) (p : Text) → slice_get ps n ≡ Some p
    → (k : ℕ) × (find (is_id p) (built_places i ps ++ rest) ≡ Some (valued_rule (Some k) None p))
id_place i [] rest n p e = absurd cc
id_place i (q ∷ ps) rest n p e = go (bytes_eq q p) refl n e (λ m h. id_place (suc i) ps rest m p h)
  where
    go : (b : Bool) → bytes_eq q p ≡ b → (m : ℕ) → slice_get (q ∷ ps) m ≡ Some p
        → ((m : ℕ) → slice_get ps m ≡ Some p → (k : ℕ) × (find (is_id p) (built_places (suc i) ps ++ rest) ≡ Some (valued_rule (Some k) None p)))
        → (k : ℕ) × (cond b (Some (valued_rule (Some i) None q)) (find (is_id p) (built_places (suc i) ps ++ rest)) ≡ Some (valued_rule (Some k) None p))
    go true is m h ih = (i, ap (λ x. Some (valued_rule (Some i) None x)) ((bytes_eq-Decides q p).0 is))
    go false is zero h ih =
        let same : q ≡ p = cc in
        absurd (both_ways _ is ((bytes_eq-Decides q p).1 same))
    go false is (suc m) h ih = ih m h

pub place_valued : (t : Table) (n : ℕ) (p : Text) → slice_get t.places n ≡ Some p → IsValued t p
place_valued t n p e =
    let f = id_place 1 t.places (built_options t.options) n p e in
    (Some f.0, None, f.1)

id_skips : (i : ℕ) (ps : List Text) (rest : List Rule) (name : Text) → list_any (λ p. bytes_eq p name) ps ≡ false
    → find (is_id name) (built_places i ps ++ rest) ≡ find (is_id name) rest
id_skips i [] rest name h = refl
id_skips i (p ∷ ps) rest name h = go (bytes_eq p name) refl h (λ k. id_skips (suc i) ps rest name k)
  where
    go : (b : Bool) → bytes_eq p name ≡ b → (b || list_any (λ p. bytes_eq p name) ps) ≡ false
        → (list_any (λ p. bytes_eq p name) ps ≡ false → find (is_id name) (built_places (suc i) ps ++ rest) ≡ find (is_id name) rest)
        → cond b (Some (valued_rule (Some i) None p)) (find (is_id name) (built_places (suc i) ps ++ rest)) ≡ find (is_id name) rest
    go true is k ih = absurd cc
    go false is k ih = ih k

id_option : (n : Text) (b : Bool) → (built_option n b).id ≡ n
id_option n true = refl
id_option n false = refl

id_options : (os : List (Text × Bool)) (name : Text) → find (is_id name) (built_options os) ≡ rule_found (find (λ o. bytes_eq o.0 name) os)
id_options [] name = refl
id_options (o ∷ os) name =
    ap (λ n. cond (bytes_eq n name) (Some (built_option o.0 o.1)) (find (is_id name) (built_options os))) (id_option o.0 o.1) ∙ go (bytes_eq o.0 name) (id_options os name)
  where
    go : (b : Bool) → find (is_id name) (built_options os) ≡ rule_found (find (λ o. bytes_eq o.0 name) os) → cond b (Some (built_option o.0 o.1)) (find (is_id name) (built_options os)) ≡ rule_found (cond b (Some o) (find (λ o. bytes_eq o.0 name) os))
    go true ih = refl
    go false ih = ih

-- what is found passes the test, and what holds of all holds of it
found_passes : {X : Type 0} (test : X → Bool) (xs : List X) (x : X) → find test xs ≡ Some x → test x ≡ true
found_passes test [] x e = absurd cc
found_passes test (y ∷ ys) x e = go (test y) refl e (λ h. found_passes test ys x h)
  where
    go : (b : Bool) → test y ≡ b → cond b (Some y) (find test ys) ≡ Some x → (find test ys ≡ Some x → test x ≡ true) → test x ≡ true
    go true is h ih =
        let same : y ≡ x = cc in
        ap test (sym same) ∙ is
    go false is h ih = ih h

found_holds : {X : Type 0} (test P : X → Bool) (xs : List X) (x : X) → list_all P xs ≡ true → find test xs ≡ Some x → P x ≡ true
found_holds test P [] x all e = absurd cc
found_holds test P (y ∷ ys) x all e = go (test y) refl e (λ h. found_holds test P ys x (and_parts _ _ all).1 h)
  where
    go : (b : Bool) → test y ≡ b → cond b (Some y) (find test ys) ≡ Some x → (find test ys ≡ Some x → P x ≡ true) → P x ≡ true
    go true is h ih =
        let same : y ≡ x = cc in
        ap P (sym same) ∙ (and_parts _ _ all).0
    go false is h ih = ih h

pub option_is : (t : Table) (name : Text) (o : Text × Bool) → option_named t name ≡ Some o → o.0 ≡ name
option_is t name o e = (bytes_eq-Decides o.0 name).0 (found_passes (λ (p : Text × Bool). bytes_eq p.0 name) t.options o e)

pub option_valued : (t : Table) (name n : Text) → is_sound t ≡ true → option_named t name ≡ Some (n, true) → IsValued t n
option_valued t name n sound e =
    let is : n ≡ name = option_is t name (n, true) e in
    let free : list_any (λ p. bytes_eq p n) t.places ≡ false =
    not-true _ (found_holds (λ (p : Text × Bool). bytes_eq p.0 name) (λ (o : Text × Bool). not (list_any (λ p. bytes_eq p o.0) t.places)) t.options (n, true) (and_parts _ _ sound).0 e) in
    let found : option_named t n ≡ Some (n, true) = ap (option_named t) is ∙ e in
    (None, Some n, id_skips 1 t.places (built_options t.options) n free ∙ id_options t.options n ∙ ap rule_found found)

index_low : {X : Type 0} (xs : List X) (n : ℕ) (x : X) → slice_get xs n ≡ Some x → n < length xs
index_low [] n x e = absurd cc
index_low (y ∷ ys) zero x e = omega arith
index_low (y ∷ ys) (suc n) x e = let h = index_low ys n x e in omega arith

pub place_low : (t : Table) (n : ℕ) (p : Text) → is_sound t ≡ true → slice_get t.places n ≡ Some p → n < 10
place_low t n p sound e =
    let a : n < length t.places = index_low t.places n p e in
    let parts : (list_all (λ o. not (list_any (λ p. bytes_eq p o.0) t.places)) t.options ≡ true) × (nat_lt (length t.places) 10 ≡ true) = and_parts _ _ sound in
    let b : length t.places < 10 = ltb-true (length t.places) 10 parts.1 in
    omega arith
