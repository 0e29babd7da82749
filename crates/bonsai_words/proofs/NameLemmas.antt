-- The names of an order are words.
use Rattle.std.proofs.Common.{◌≡◌, ◌∙◌, ◌==◌, ℕ, zero, suc, Bool, true, false, cond, refl, sym, ap, subst, arith, List, [], ◌∷◌, length, Option, Some, None, Ok, Err, Result, IfOk, codes}
use Rattle.std.specs.Prelude.{find, option_map, option_and_then, slice_get, IfSome, nat_le, ⊤}
use Rattle.std.specs.List.{All, Contains, list_any}
use Rattle.std.specs.Str.{bytes_eq}
use Rattle.std.proofs.lemmas.Bool.{both_ways, or_parts}
use Rattle.bonsai_words.specs.declared.orders.Order.{Order}
use Rattle.bonsai_words.specs.declared.orders.Order.TheVariants.{Synth, Downset, Check, Eval, Gen}
use Rattle.bonsai_words.specs.declared.orders.WordsError.{WordsError}
use Rattle.word_core.specs.declared.names.Player.{Player}
use Rattle.bonsai_words.specs.Order.{names_of}
use Rattle.bonsai_words.specs.Reading.{Text, Given, Table, Kind, plain, dashes, named, unknown, kind_of, given, is_value, Mode, between, awaits, ended, paired, placed, option_met, kind_step, value_step, has, is_once, once, reading, option_named, value_of}
use Rattle.bonsai_words.specs.Ordered.{Look, Asked, synth, downset, check, eval, gen, asked, Answers, name_in, number_or, player_in, ordered, ordered_by, synth_table, synth_of, downset_table, downset_of, check_table, check_of, eval_table, eval_of, gen_table, gen_of}

-- ---- a word of the rest is a word

pub later : (word x : Text) (words : List Text) → Contains words x → Contains (word ∷ words) x
later word x words h = (suc h.0, omega (arith, h.1), h.2)

pub first : (word : Text) (words : List Text) → Contains (word ∷ words) word
first word words = (0, omega arith, refl)

-- the values of this name are words
abbrev HasWords : Text → List Text → Given → Type 0
HasWords p words [] = ⊤
HasWords p words (e ∷ g) = (bytes_eq e.0 p ≡ true → Contains words e.1) × HasWords p words g

abbrev HasAll : Text → List Text → Option Given → Type 0
HasAll p words None = ⊤
HasAll p words (Some g) = HasWords p words g

words_later : (p word : Text) (words : List Text) (g : Given) → HasWords p words g → HasWords p (word ∷ words) g
words_later p word words [] h = tt
words_later p word words (e ∷ g) h = ((λ same. later word e.1 words (h.0 same)), words_later p word words g h.1)

all_later : (p word : Text) (words : List Text) (o : Option Given) → HasAll p words o → HasAll p (word ∷ words) o
all_later p word words None h = tt
all_later p word words (Some g) h = words_later p word words g h

word_paired : (p name word : Text) (words : List Text) (o : Option Given) → HasAll p words o → HasAll p (word ∷ words) (paired name word o)
word_paired p name word words None h = tt
word_paired p name word words (Some g) h = ((λ same. first word words), words_later p word words g h)

other_paired : (p name v word : Text) (words : List Text) (o : Option Given) → bytes_eq name p ≡ false → HasAll p words o → HasAll p (word ∷ words) (paired name v o)
other_paired p name v word words None other h = tt
other_paired p name v word words (Some g) other h = ((λ same. absurd (both_ways _ other same)), words_later p word words g h)

found_other : (os : List (Text × Bool)) (p a : Text) (o : Text × Bool) → list_any (λ o. bytes_eq o.0 p) os ≡ false → find (λ o. bytes_eq o.0 a) os ≡ Some o → bytes_eq o.0 p ≡ false
found_other [] p a o h e = absurd cc
found_other (q ∷ os) p a o h e = go (bytes_eq q.0 a) e (or_parts _ _ h) (found_other os p a o)
  where
    go : (b : Bool) → cond b (Some q) (find (λ o. bytes_eq o.0 a) os) ≡ Some o → (bytes_eq q.0 p ≡ false) × (list_any (λ o. bytes_eq o.0 p) os ≡ false)
        → (list_any (λ o. bytes_eq o.0 p) os ≡ false → find (λ o. bytes_eq o.0 a) os ≡ Some o → bytes_eq o.0 p ≡ false) → bytes_eq o.0 p ≡ false
    go true e parts ih =
        let same : q ≡ o = cc in
        ap (λ (x : Text × Bool). bytes_eq x.0 p) (sym same) ∙ parts.0
    go false e parts ih = ih parts.1 e

-- no option is awaited that has this name
abbrev IsOther : Text → Mode → Type 0
IsOther p between = ⊤
IsOther p (awaits name) = bytes_eq name p ≡ false
IsOther p ended = ⊤

module _ (t : Table) (p : Text) (free : list_any (λ o. bytes_eq o.0 p) t.options ≡ false) where
  placed_words : (place : Option Text) (word : Text) (words : List Text) (o : Option Given) → HasAll p words o → HasAll p (word ∷ words) (placed place word o)
  placed_words None word words o h = tt
  placed_words (Some name) word words o h = word_paired p name word words o h

  met_words : (a : Text) (v : Option Text) (word : Text) (words : List Text) (rest : Mode → Option Given) → ((m : Mode) → IsOther p m → HasAll p words (rest m))
      → HasAll p (word ∷ words) (option_met (option_named t a) v rest)
  met_words a v word words rest h = go (option_named t a) refl v
    where
      go : (o : Option (Text × Bool)) → option_named t a ≡ o → (v : Option Text) → HasAll p (word ∷ words) (option_met o v rest)
      go None e v = tt
      go (Some (n, true)) e (Some v) = other_paired p n v word words (rest between) (found_other t.options p a (n, true) free e) (h between tt)
      go (Some (n, true)) e None = all_later p word words (rest (awaits n)) (h (awaits n) (found_other t.options p a (n, true) free e))
      go (Some (n, false)) e (Some v) = tt
      go (Some (n, false)) e None = other_paired p n (codes "true") word words (rest between) (found_other t.options p a (n, false) free e) (h between tt)

  given_words : (words : List Text) (m : Mode) (n : ℕ) → IsOther p m → HasAll p words (given is_value t words m n)
  given_words [] between n i = tt
  given_words [] (awaits name) n i = tt
  given_words [] ended n i = tt
  given_words (word ∷ words) ended n i = placed_words (slice_get t.places n) word words _ (given_words words ended (suc n) tt)
  given_words (word ∷ words) (awaits name) n i = go (is_value word) (given_words words between n tt)
    where
      go : (b : Bool) → HasAll p words (given is_value t words between n) → HasAll p (word ∷ words) (value_step b name word (given is_value t words between n))
      go true h = word_paired p name word words _ h
      go false h = tt
  given_words (word ∷ words) between n i = go (kind_of word) (λ m k j. given_words words m k j)
    where
      go : (w : Kind) → ((m : Mode) (k : ℕ) → IsOther p m → HasAll p words (given is_value t words m k)) → HasAll p (word ∷ words) (kind_step t w word n (given is_value t words))
      go plain h = placed_words (slice_get t.places n) word words _ (h between (suc n) tt)
      go dashes h = all_later p word words _ (h ended n tt)
      go (named a v) h = met_words a v word words (λ m. given is_value t words m n) (λ m j. h m n j)
      go unknown h = tt

  value_word : (words : List Text) (g : Given) (v : Text) → HasWords p words g → value_of p g ≡ Some v → Contains words v
  value_word words [] v h e = absurd cc
  value_word words (q ∷ g) v h e = go (bytes_eq q.0 p) refl e (value_word words g v h.1)
    where
      go : (b : Bool) → bytes_eq q.0 p ≡ b → option_map (λ x. x.1) (cond b (Some q) (find (λ x. bytes_eq x.0 p) g)) ≡ Some v
          → (value_of p g ≡ Some v → Contains words v) → Contains words v
      go true is e ih =
          let same : q.1 ≡ v = cc in
          subst (Contains words) same (h.0 is)
      go false is e ih = ih e

  pub reading_word : (words : List Text) (g : Given) (v : Text) → reading t words ≡ Some g → value_of p g ≡ Some v → Contains words v
  reading_word words g v e h = go (given is_value t words between 0) e (given_words words between 0 tt)
    where
      go : (o : Option Given) → option_and_then once o ≡ Some g → HasAll p words o → Contains words v
      go None e a = absurd cc
      go (Some q) e a = deep (is_once [] q) e
        where
          deep : (b : Bool) → cond b (Some q) None ≡ Some g → Contains words v
          deep true k =
              let same : q ≡ g = cc in
              value_word words g v (subst (HasWords p words) same a) h
          deep false k = absurd cc

-- ---- the names of what is asked

abbrev names_in : Asked → List Text
names_in (synth name bounds workers as_written) = name ∷ []
names_in (downset name player bound as_written) = name ∷ []
names_in (check name machine bound as_written) = name ∷ machine ∷ []
names_in (eval name lasso as_written) = name ∷ lasso ∷ []
names_in (gen clients workers) = []

abbrev AreIn : (Text → Type 0) → Asked → Type 0
AreIn P a = All P (names_in a)

all_none : (P : Text → Type 0) → All P []
all_none P = λ k d lt. absurd (omega arith)

all_more : (P : Text → Type 0) (x : Text) (xs : List Text) → P x → All P xs → All P (x ∷ xs)
all_more P x xs h all zero d lt = h
all_more P x xs h all (suc k) d lt = all k d (omega arith)

with_if : {A B : Type 0} (o : Option A) (f : A → Option B) (Q : B → Type 0) → ((a : A) → o ≡ Some a → IfSome (f a) Q) → IfSome (option_and_then f o) Q
with_if None f Q h = tt
with_if (Some a) f Q h = h a refl

cond_if : {B : Type 0} (b : Bool) (x y : Option B) (Q : B → Type 0) → IfSome x Q → IfSome y Q → IfSome (cond b x y) Q
cond_if true x y Q h k = h
cond_if false x y Q h k = k

name_value : (o : Option Text) (name : Text) → name_in o ≡ Some name → o ≡ Some name
name_value None name e = absurd cc
name_value (Some text) name e = go (length text == 0) e
  where
    go : (b : Bool) → cond b None (Some text) ≡ Some name → Some text ≡ Some name
    go true k = absurd cc
    go false k = k

-- what is asked has names that are values of these places
abbrev Names : (Look → Bool → Option Asked) → List Text → Type 1
Names make places = (look : Look) (b : Bool) (P : Text → Type 0) → ((p : Text) → Contains places p → (v : Text) → look p ≡ Some v → P v) → IfSome (make look b) (AreIn P)

-- the same, of the values themselves
abbrev Named : (Text → Type 0) → Option Text → Type 0
Named P name = (v : Text) → name ≡ Some v → P v

one_name : (P : Text → Type 0) (name : Text) → Named P (Some name) → All P (name ∷ [])
one_name P name h = all_more P name [] (h name refl) (all_none P)

two_names : (P : Text → Type 0) (name second : Text) → Named P (Some name) → Named P (Some second) → All P (name ∷ second ∷ [])
two_names P name second h k = all_more P name (second ∷ []) (h name refl) (one_name P second k)

synth_case : (P : Text → Type 0) (last first step workers : Option ℕ) (name : Option Text) (b : Bool) → Named P name
    → IfSome (option_and_then (λ l. option_and_then (λ f. option_and_then (λ s. option_and_then (λ w. cond (nat_le f l) (option_and_then (λ n. Some (synth n (f, s, l) w b)) name) None) workers) step) first) last) (AreIn P)
synth_case P None first step workers name b h = tt
synth_case P (Some l) None step workers name b h = tt
synth_case P (Some l) (Some f) None workers name b h = tt
synth_case P (Some l) (Some f) (Some s) None name b h = tt
synth_case P (Some l) (Some f) (Some s) (Some w) None b h = cond_if (nat_le f l) None None (AreIn P) tt tt
synth_case P (Some l) (Some f) (Some s) (Some w) (Some n) b h = cond_if (nat_le f l) (Some (synth n (f, s, l) w b)) None (AreIn P) (one_name P n h) tt

downset_case : (P : Text → Type 0) (player : Option Player) (bound : Option ℕ) (name : Option Text) (b : Bool) → Named P name
    → IfSome (option_and_then (λ p. option_and_then (λ k. option_and_then (λ n. Some (downset n p k b)) name) bound) player) (AreIn P)
downset_case P None bound name b h = tt
downset_case P (Some p) None name b h = tt
downset_case P (Some p) (Some k) None b h = tt
downset_case P (Some p) (Some k) (Some n) b h = one_name P n h

check_case : (P : Text → Type 0) (bound : Option ℕ) (name machine : Option Text) (b : Bool) → Named P name → Named P machine
    → IfSome (option_and_then (λ k. option_and_then (λ n. option_and_then (λ m. Some (check n m k b)) machine) name) bound) (AreIn P)
check_case P None name machine b h k = tt
check_case P (Some x) None machine b h k = tt
check_case P (Some x) (Some n) None b h k = tt
check_case P (Some x) (Some n) (Some m) b h k = two_names P n m h k

eval_case : (P : Text → Type 0) (name lasso : Option Text) (b : Bool) → Named P name → Named P lasso
    → IfSome (option_and_then (λ n. option_and_then (λ m. Some (eval n m b)) lasso) name) (AreIn P)
eval_case P None lasso b h k = tt
eval_case P (Some n) None b h k = tt
eval_case P (Some n) (Some m) b h k = two_names P n m h k

gen_case : (P : Text → Type 0) (clients workers : Option ℕ)
    → IfSome (option_and_then (λ c. option_and_then (λ w. Some (gen c w)) workers) clients) (AreIn P)
gen_case P None workers = tt
gen_case P (Some c) None = tt
gen_case P (Some c) (Some w) = all_none P

synth_names : Names synth_of (codes "name" ∷ [])
synth_names look b P h =
    synth_case P (number_or (Some 8) 0 10000 (look (codes "bound"))) (number_or (Some 0) 0 10000 (look (codes "first"))) (number_or (Some 1) 1 10000 (look (codes "step"))) (number_or (Some 1) 1 64 (look (codes "workers"))) (name_in (look (codes "name"))) b
    (λ v e. h (codes "name") (0, omega arith, refl) v (name_value (look (codes "name")) v e))

downset_names : Names downset_of (codes "name" ∷ [])
downset_names look b P h =
    downset_case P (player_in (look (codes "player"))) (number_or None 0 10000 (look (codes "bound"))) (name_in (look (codes "name"))) b
    (λ v e. h (codes "name") (0, omega arith, refl) v (name_value (look (codes "name")) v e))

check_names : Names check_of (codes "name" ∷ codes "second" ∷ [])
check_names look b P h =
    check_case P (number_or None 0 10000 (look (codes "bound"))) (name_in (look (codes "name"))) (name_in (look (codes "second"))) b
    (λ v e. h (codes "name") (0, omega arith, refl) v (name_value (look (codes "name")) v e))
    (λ v e. h (codes "second") (1, omega arith, refl) v (name_value (look (codes "second")) v e))

eval_names : Names eval_of (codes "name" ∷ codes "second" ∷ [])
eval_names look b P h =
    eval_case P (name_in (look (codes "name"))) (name_in (look (codes "second"))) b
    (λ v e. h (codes "name") (0, omega arith, refl) v (name_value (look (codes "name")) v e))
    (λ v e. h (codes "second") (1, omega arith, refl) v (name_value (look (codes "second")) v e))

gen_names : Names gen_of []
gen_names look b P h = gen_case P (number_or None 1 8 (look (codes "clients"))) (number_or (Some 1) 1 64 (look (codes "workers")))

by_names : (t : Table) (make : Look → Bool → Option Asked) (places : List Text) → Names make places
    → ((p : Text) → Contains places p → list_any (λ o. bytes_eq o.0 p) t.options ≡ false)
    → (command : Text) (words : List Text) → IfSome (ordered_by t make words) (AreIn (Contains (command ∷ words)))
by_names t make places names free command words =
    with_if (reading t words) (λ g. make (λ name. value_of name g) (has (codes "as-written") g)) (AreIn (Contains (command ∷ words)))
    (λ g e. names (λ name. value_of name g) (has (codes "as-written") g) (Contains (command ∷ words))
    (λ p place v h. later command v words (reading_word t p (free p place) words g v e h)))

-- a place of one or two
one_place : (p : Text) (Q : Text → Type 0) → Q p → (x : Text) → Contains (p ∷ []) x → Q x
one_place p Q h x (zero, lt, is) = subst Q is h
one_place p Q h x (suc k, lt, is) = absurd (omega arith)

two_places : (p q : Text) (Q : Text → Type 0) → Q p → Q q → (x : Text) → Contains (p ∷ q ∷ []) x → Q x
two_places p q Q h k x (zero, lt, is) = subst Q is h
two_places p q Q h k x (suc zero, lt, is) = subst Q is k
two_places p q Q h k x (suc (suc n), lt, is) = absurd (omega arith)

abbrev IsFree : Table → Text → Type 0
IsFree t p = list_any (λ o. bytes_eq o.0 p) t.options ≡ false

-- of a row of choices, whichever is taken
choices : (Q : Asked → Type 0) (a b c d e : Bool) (v w x y z : Option Asked) → IfSome v Q → IfSome w Q → IfSome x Q → IfSome y Q → IfSome z Q
    → IfSome (cond a v (cond b w (cond c x (cond d y (cond e z None))))) Q
choices Q true b c d e v w x y z hv hw hx hy hz = hv
choices Q false true c d e v w x y z hv hw hx hy hz = hw
choices Q false false true d e v w x y z hv hw hx hy hz = hx
choices Q false false false true e v w x y z hv hw hx hy hz = hy
choices Q false false false false true v w x y z hv hw hx hy hz = hz
choices Q false false false false false v w x y z hv hw hx hy hz = tt

ordered_names : (words : List Text) → IfSome (ordered words) (AreIn (Contains words))
unfolding ordered
ordered_names [] = tt
ordered_names (command ∷ words) =
    choices (AreIn (Contains (command ∷ words)))
    (bytes_eq command (codes "synth")) (bytes_eq command (codes "downset")) (bytes_eq command (codes "check")) (bytes_eq command (codes "eval")) (bytes_eq command (codes "gen"))
    (ordered_by synth_table synth_of words) (ordered_by downset_table downset_of words) (ordered_by check_table check_of words) (ordered_by eval_table eval_of words) (ordered_by gen_table gen_of words)
    (by_names synth_table synth_of (codes "name" ∷ []) synth_names (one_place (codes "name") (IsFree synth_table) refl) command words)
    (by_names downset_table downset_of (codes "name" ∷ []) downset_names (one_place (codes "name") (IsFree downset_table) refl) command words)
    (by_names check_table check_of (codes "name" ∷ codes "second" ∷ []) check_names (two_places (codes "name") (codes "second") (IsFree check_table) refl refl) command words)
    (by_names eval_table eval_of (codes "name" ∷ codes "second" ∷ []) eval_names (two_places (codes "name") (codes "second") (IsFree eval_table) refl refl) command words)
    (by_names gen_table gen_of [] gen_names (λ p place. absurd (omega (arith, place.1))) command words)

asked_names : (o : Order) → names_in (asked o) ≡ names_of o
asked_names (Synth name bounds workers as_written) = refl
asked_names (Downset name player bound as_written) = refl
asked_names (Check name machine bound as_written) = refl
asked_names (Eval name lasso as_written) = refl
asked_names (Gen clients workers) = refl

pub order_names : (words : List Text) (r : Result Order WordsError) → Answers (ordered words) r → IfOk r (λ o. All (Contains words) (names_of o))
order_names words (Ok o) h =
    let all : AreIn (Contains words) (asked o) = subst (λ a. IfSome a (AreIn (Contains words))) h (ordered_names words) in
    subst (All (Contains words)) (asked_names o) all
order_names words (Err e) h = tt
