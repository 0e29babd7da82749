-- The bytes of words and marks are below 128, and none is a line feed. So a declared name is its bytes, and stands in one line.
use Rattle.std.proofs.Common.{◌≡◌, ◌≢◌, ℕ, zero, suc, ◌+◌, ◌-◌, ◌<◌, min, Bool, true, false, not, cond, List, [], ◌∷◌, ◌++◌, length, take, drop, map, nat_lt, nat_eq, nat_le, ◌==◌, Option, Some, None, Result, Ok, Err, sym, refl, ap, ◌∙◌, subst, arith, append_assoc, length-append}
use Rattle.std.specs.Prelude.{◌||◌, ◌&&◌, unwrap_or, position, filter, codes, slice_range, encode_utf8_all}
use Rattle.std.specs.List.{All, list_all, list_any, starts_with, position_or_len}
use Rattle.std.specs.Cmp.Lexicographic.{pointwise}
use Rattle.std.proofs.lemmas.Bool.Decides.{nat_tests}
use Rattle.std.proofs.lemmas.List.Elements.{All-nil, All-cons, All-head, All-tail, All-weaker}
use Rattle.std.proofs.lemmas.Str.{encode_ascii}
use Rattle.std.proofs.Math.Seq.{drop-append_seam}
use Rattle.tlsf_lex.specs.Bytes.{is_blank, is_digit, starts_word, is_in_word, is_mark, is_full_mark, front_len, line_len, pair_place}
use Rattle.tlsf_lex.specs.declared.tokens.Kin.{Kin}
use Rattle.tlsf_lex.specs.declared.tokens.Kin.TheVariants as kin
use Rattle.tlsf_lex.specs.declared.tokens.Token.{Token}
use Rattle.tlsf_lex.specs.declared.tokens.LexFault.TheVariants.{BadByte}
use Rattle.tlsf_lex.specs.declared.steps.Step.{Step}
use Rattle.tlsf_lex.specs.declared.steps.Step.TheVariants.{Skip, Take, Bad}
use Rattle.tlsf_lex.specs.Steps.{in_closed, closed_at, slash_step, ended_at, string_step, word_kin, word_step, mark_step, step}
use Rattle.tlsf_lex.specs.Tokens.{Placed, in_front, by_step, tokens_at, tokens_of}
use Rattle.tlsf_basic.specs.declared.symbols.Symbol.{Symbol}
use Rattle.tlsf_basic.specs.declared.symbols.Symbol.TheVariants as s
use Rattle.tlsf_basic.specs.declared.words.Zone.{Zone}
use Rattle.tlsf_basic.specs.Marks.{is_declared}
use Rattle.tlsf_basic.specs.Words.{symbol_of, in_zone, lexeme_of, zone_behind, lexemes_of}
use Rattle.tlsf_basic.specs.Signals.{is_input, is_output, name_of, inputs_of, outputs_of}

-- a byte of a word or a mark
pub record IsPlain (b : ℕ) : Type 0 where
  pub small : b < 128
  pub unfed : b ≢ 10

abbrev pub ArePlain : List ℕ → Type 0
ArePlain [] = Unit {0}
ArePlain (b ∷ bs) = IsPlain b × ArePlain bs

or_true : (a b : Bool) (P : Type 0) → (a ≡ true → P) → (b ≡ true → P) → (a || b) ≡ true → P
or_true true b P one two e = one refl
or_true false b P one two e = two e

and_last : (a b : Bool) → (a && b) ≡ true → b ≡ true
and_last true b e = e
and_last false b e = cc

and_first : (a b : Bool) → (a && b) ≡ true → a ≡ true
and_first true b e = refl
and_first false b e = cc

between : (b low high : ℕ) → 10 < low → high < 128 → (nat_le low b && nat_le b high) ≡ true → IsPlain b
between b low high above small e =
    let l : nat_le low b ≡ true = and_first (nat_le low b) (nat_le b high) e in
    let h : nat_le b high ≡ true = and_last (nat_le low b) (nat_le b high) e in
    record { small = grind (arith, nat_tests); unfed = λ f. grind (arith, nat_tests) }

same_plain : (a b : ℕ) → nat_eq a b ≡ true → IsPlain a → IsPlain b
same_plain a b e is =
    let same : a ≡ b = grind (arith, nat_tests) in
    subst IsPlain same is

-- bytes that are written out
high_plain : (bs : List ℕ) → list_all (λ b. nat_le 11 b && nat_le b 127) bs ≡ true → ArePlain bs
high_plain [] e = tt
high_plain (b ∷ bs) e =
    let one = nat_le 11 b && nat_le b 127 in
    let more = list_all (λ b. nat_le 11 b && nat_le b 127) bs in
    (between b 11 127 (omega arith) (omega arith) (and_first one more e), high_plain bs (and_last one more e))

equal_to : (b k : ℕ) → IsPlain k → (b == k) ≡ true → IsPlain b
equal_to b k is e =
    let same : k ≡ b = grind (arith, nat_tests) in
    subst IsPlain same is

digit_plain : (b : ℕ) → is_digit b ≡ true → IsPlain b
digit_plain b e = between b 48 57 (omega arith) (omega arith) e

starts_plain : (b : ℕ) → starts_word b ≡ true → IsPlain b
starts_plain b e =
    or_true ((nat_le 97 b && nat_le b 122) || (nat_le 65 b && nat_le b 90) || b == 95) (b == 64) (IsPlain b)
    (or_true ((nat_le 97 b && nat_le b 122) || (nat_le 65 b && nat_le b 90)) (b == 95) (IsPlain b)
    (or_true (nat_le 97 b && nat_le b 122) (nat_le 65 b && nat_le b 90) (IsPlain b) (between b 97 122 (omega arith) (omega arith)) (between b 65 90 (omega arith) (omega arith)))
    (equal_to b 95 (high_plain (95 ∷ []) refl).0)) (equal_to b 64 (high_plain (64 ∷ []) refl).0) e

word_plain : (b : ℕ) → is_in_word b ≡ true → IsPlain b
word_plain b e =
    or_true (starts_word b || is_digit b) (b == 39) (IsPlain b)
    (or_true (starts_word b) (is_digit b) (IsPlain b) (starts_plain b) (digit_plain b)) (equal_to b 39 (high_plain (39 ∷ []) refl).0) e

any_plain : (ms : List ℕ) (b : ℕ) → ArePlain ms → list_any (λ m. m == b) ms ≡ true → IsPlain b
any_plain [] b all e = cc
any_plain (m ∷ ms) b all e = or_true (m == b) (list_any (λ m. m == b) ms) (IsPlain b) (λ h. same_plain m b h all.0) (any_plain ms b all.1) e

-- the front that passes a test

cut_len : (a b : ℕ) → unwrap_or (cond (nat_lt a b) (Some a) None) b ≡ min a b
cut_len a b = go (nat_lt a b) refl where
  go : (c : Bool) → nat_lt a b ≡ c → unwrap_or (cond c (Some a) None) b ≡ min a b
  go true e = grind (arith, nat_tests)
  go false e = grind (arith, nat_tests)

front_plain : (test : ℕ → Bool) → ((b : ℕ) → test b ≡ true → IsPlain b) → (xs : List ℕ) → ArePlain (take (min (position_or_len (λ b. not (test b)) xs) (length xs)) xs)
front_plain test plain [] = subst (λ n. ArePlain (take n [])) (let e : 0 ≡ min 0 0 = omega arith in e) tt
front_plain test plain (x ∷ xs) = go (test x) refl (front_plain test plain xs) where
  go : (c : Bool) → test x ≡ c → ArePlain (take (min (position_or_len (λ b. not (test b)) xs) (length xs)) xs) → ArePlain (take (min (cond (not (not c)) (1 + position_or_len (λ b. not (test b)) xs) 0) (length (x ∷ xs))) (x ∷ xs))
  go true e rest =
      let n = min (position_or_len (λ b. not (test b)) xs) (length xs) in
      subst (λ k. ArePlain (take k (x ∷ xs))) (let h : suc (min (position_or_len (λ b. not (test b)) xs) (length xs)) ≡ min (1 + position_or_len (λ b. not (test b)) xs) (length (x ∷ xs)) = omega arith in h) (plain x e, rest)
  go false e rest = subst (λ k. ArePlain (take k (x ∷ xs))) (let h : 0 ≡ min 0 (length (x ∷ xs)) = omega arith in h) tt

pub word_front : (xs : List ℕ) → ArePlain (take (front_len is_in_word xs) xs)
word_front xs = subst (λ n. ArePlain (take n xs)) (sym (cut_len (position_or_len (λ b. not (is_in_word b)) xs) (length xs))) (front_plain is_in_word word_plain xs)

-- marks

pointwise_plain : (ns ys : List ℕ) → pointwise nat_eq ns ys ≡ true → ArePlain ns → ArePlain ys
pointwise_plain [] [] e all = tt
pointwise_plain [] (y ∷ ys) e all = cc
pointwise_plain (n ∷ ns) [] e all = cc
pointwise_plain (n ∷ ns) (y ∷ ys) e all =
    (same_plain n y (and_first (nat_eq n y) (pointwise nat_eq ns ys) e) all.0, pointwise_plain ns ys (and_last (nat_eq n y) (pointwise nat_eq ns ys) e) all.1)

-- steps

abbrev pub Plain : Kin → Type 0
Plain kin.Word = Unit {0}
Plain kin.Mark = Unit {0}
Plain kin.Text = ⊥
Plain kin.Full = ⊥

abbrev kin_of : Step → Kin
kin_of (Take k n) = k
kin_of _ = kin.Full

abbrev count_of : Step → ℕ
count_of (Take k n) = n
count_of _ = 0

by_cond : (c : Bool) (a b t : Step) (P : Type 0) → (c ≡ true → a ≡ t → P) → (c ≡ false → b ≡ t → P) → cond c a b ≡ t → P
by_cond true a b t P one two e = one refl e
by_cond false a b t P one two e = two refl e

module _ (k : Kin) (n : ℕ) (plain : Plain k) where
  -- a step that takes no word and no mark
  abbrev Never : Step → Type 0
  Never t = t ≡ Take k n → ⊥

  never_skip : (m : ℕ) → Never (Skip m)
  never_skip m e = cc

  never_bad : (f : _) (m : ℕ) → Never (Bad f m)
  never_bad f m e = cc

  never_text : (m : ℕ) → Never (Take kin.Text m)
  never_text m e = subst Plain (sym (ap kin_of e)) plain

  never_full : (m : ℕ) → Never (Take kin.Full m)
  never_full m e = subst Plain (sym (ap kin_of e)) plain

  never_closed : (close : ℕ) (o : Option ℕ) → Never (in_closed close o)
  never_closed close None e = never_skip (close + 4) e
  never_closed close (Some inner) e = never_bad _ (inner + 2) e

  never_comment : (text : List ℕ) (o : Option ℕ) → Never (closed_at text o)
  never_comment text None e = never_bad _ 0 e
  never_comment text (Some close) e = never_closed close (pair_place 47 42 (take (close + 1) text)) e

  never_slash : (text : List ℕ) → Never (slash_step text)
  never_slash text e =
      by_cond (starts_with nat_eq text (codes "/")) _ _ (Take k n) ⊥ (λ c. never_skip (1 + line_len text))
      (λ c. by_cond (starts_with nat_eq text (codes "*")) _ _ (Take k n) ⊥ (λ d. never_comment (drop 1 text) (pair_place 42 47 (drop 1 text))) (λ d. never_bad BadByte 0)) e

  never_string : (o : Option ℕ) → Never (ended_at o)
  never_string None e = never_bad _ 0 e
  never_string (Some end) e = never_text (end + 2) e

  took : (m : ℕ) (j : Kin) (text : List ℕ) → Take j m ≡ Take k n → ArePlain (take m text) → ArePlain (take n text)
  took m j text e all = subst (λ i. ArePlain (take i text)) (ap count_of e) all

  prefix_plain : (text ns : List ℕ) (m : ℕ) → m ≡ length ns → ArePlain ns → starts_with nat_eq text ns ≡ true → ArePlain (take m text)
  prefix_plain text ns m em all e = subst (λ i. ArePlain (take i text)) (sym em) (pointwise_plain ns (take (length ns) text) e all)

  mark_plain : (b : ℕ) (s : List ℕ) → mark_step (b ∷ s) ≡ Take k n → ArePlain (take n (b ∷ s))
  mark_plain b s e =
      by_cond (is_mark b) (Take kin.Mark 1) _ (Take k n) (ArePlain (take n (b ∷ s)))
      (λ c h. took 1 kin.Mark (b ∷ s) h (any_plain (codes "{}();:,!") b (high_plain (codes "{}();:,!") refl) c, tt))
      (λ c. by_cond (is_full_mark b) (Take kin.Full 1) _ (Take k n) (ArePlain (take n (b ∷ s))) (λ d h. absurd (never_full 1 h))
      (λ d. by_cond (starts_with nat_eq (b ∷ s) (codes "&&")) (Take kin.Mark 2) _ (Take k n) (ArePlain (take n (b ∷ s))) (λ x h. took 2 kin.Mark (b ∷ s) h (prefix_plain (b ∷ s) (codes "&&") 2 refl (high_plain (codes "&&") refl) x))
      (λ x. by_cond (starts_with nat_eq (b ∷ s) (codes "||")) (Take kin.Mark 2) _ (Take k n) (ArePlain (take n (b ∷ s))) (λ y h. took 2 kin.Mark (b ∷ s) h (prefix_plain (b ∷ s) (codes "||") 2 refl (high_plain (codes "||") refl) y))
      (λ y. by_cond (starts_with nat_eq (b ∷ s) (codes "->")) (Take kin.Mark 2) _ (Take k n) (ArePlain (take n (b ∷ s))) (λ z h. took 2 kin.Mark (b ∷ s) h (prefix_plain (b ∷ s) (codes "->") 2 refl (high_plain (codes "->") refl) z))
      (λ z. by_cond (starts_with nat_eq (b ∷ s) (codes "<->")) (Take kin.Mark 3) _ (Take k n) (ArePlain (take n (b ∷ s))) (λ q h. took 3 kin.Mark (b ∷ s) h (prefix_plain (b ∷ s) (codes "<->") 3 refl (high_plain (codes "<->") refl) q))
      (λ q h. absurd (never_bad BadByte 0 h))))))) e

  step_plain : (b : ℕ) (s : List ℕ) → step (b ∷ s) ≡ Take k n → ArePlain (take n (b ∷ s))
  step_plain b s e =
      by_cond (is_blank b) (Skip 1) _ (Take k n) (ArePlain (take n (b ∷ s))) (λ c h. absurd (never_skip 1 h))
      (λ c. by_cond (b == 47) (slash_step s) _ (Take k n) (ArePlain (take n (b ∷ s))) (λ d h. absurd (never_slash s h))
      (λ d. by_cond (b == 34) (string_step s) _ (Take k n) (ArePlain (take n (b ∷ s))) (λ x h. absurd (never_string (position (λ z. z == 34) s) h))
      (λ x. by_cond (starts_word b) (word_step (b ∷ s)) _ (Take k n) (ArePlain (take n (b ∷ s))) (λ y h. took (front_len is_in_word (b ∷ s)) (word_kin (take (front_len is_in_word (b ∷ s)) (b ∷ s))) (b ∷ s) h (word_front (b ∷ s)))
      (λ y. by_cond (is_digit b) (Take kin.Full (front_len is_digit (b ∷ s))) _ (Take k n) (ArePlain (take n (b ∷ s))) (λ z h. absurd (never_full (front_len is_digit (b ∷ s)) h))
      (λ z. mark_plain b s))))) e

-- tokens

module _ (text : List ℕ) where
  abbrev TokenPlain : Token → Type 0
  TokenPlain t = Plain t.kin → ArePlain (slice_range text t.from t.to)

  abbrev pub Each : List Token → Type 0
  Each [] = Unit {0}
  Each (t ∷ ts) = TokenPlain t × Each ts

  abbrev tokens_or : Result (List Token) Placed → List Token
  tokens_or (Ok ts) = ts
  tokens_or (Err e) = []

  at_slice : (pre suffix : List ℕ) (at n : ℕ) → text ≡ pre ++ suffix → length pre ≡ at → slice_range text at (at + n) ≡ take n suffix
  at_slice pre suffix at n e len =
      let m : (at + n) - at ≡ n = omega arith in
      ap (λ i. take i (drop at text)) m
      ∙ ap (take n) (ap (drop at) e ∙ ap (λ i. drop i (pre ++ suffix)) (sym len) ∙ drop-append_seam pre suffix)

  by-step : (pre s : List ℕ) (b at : ℕ) → text ≡ pre ++ b ∷ s → length pre ≡ at → ((m : ℕ) (us : List Token) → tokens_at (at + 1) m s ≡ Ok us → Each us) → (t : Step) → step (b ∷ s) ≡ t → (ts : List Token) → by_step t at (λ n. tokens_at (at + 1) n s) ≡ Ok ts → Each ts
  by-step pre s b at e len rest (Skip n) is ts h = rest (n - 1) ts h
  by-step pre s b at e len rest (Bad what past) is ts h = cc
  by-step pre s b at e len rest (Take k n) is ts h = go (tokens_at (at + 1) (n - 1) s) refl h where
    t : Token
    t = record { kin = k; «from» = at; to = at + n }

    go : (r : Result (List Token) Placed) → tokens_at (at + 1) (n - 1) s ≡ r → in_front (record { kin = k; «from» = at; to = at + n }) r ≡ Ok ts → Each ts
    go (Err x) er h' = cc
    go (Ok us) er h' =
        subst Each (ap tokens_or h')
        ((λ plain. subst ArePlain (sym (at_slice pre (b ∷ s) at n e len)) (step_plain k n plain b s is)), rest (n - 1) us er)

  tokens_plain : (suffix pre : List ℕ) (at passed : ℕ) → text ≡ pre ++ suffix → length pre ≡ at → (ts : List Token) → tokens_at at passed suffix ≡ Ok ts → Each ts
  unfolding tokens_at
  tokens_plain [] pre at passed e len ts h = subst Each (ap tokens_or h) tt
  tokens_plain (b ∷ s) pre at (suc passed) e len ts h =
      tokens_plain s (pre ++ b ∷ []) (at + 1) passed (e ∙ sym (append_assoc pre (b ∷ []) s)) (omega (arith, len, length-append pre (b ∷ []))) ts h
  tokens_plain (b ∷ s) pre at zero e len ts h =
      by-step pre s b at e len (λ m us k. tokens_plain s (pre ++ b ∷ []) (at + 1) m (e ∙ sym (append_assoc pre (b ∷ []) s)) (omega (arith, len, length-append pre (b ∷ []))) us k) (step (b ∷ s)) refl ts h

-- names

encode_same : (bs : List ℕ) → ArePlain bs → encode_utf8_all bs ≡ bs
encode_same [] all = refl
encode_same (b ∷ bs) all = ap (λ z. z ++ encode_utf8_all bs) (encode_ascii b all.0.small) ∙ ap (λ z. b ∷ z) (encode_same bs all.1)

plain_kin : (z : Zone) (k : Kin) (bytes : List ℕ) → is_declared (in_zone z (symbol_of k bytes)) ≡ true → Plain k
plain_kin z kin.Text bytes e = cc
plain_kin z kin.Full bytes e = cc
plain_kin z kin.Word bytes e = tt
plain_kin z kin.Mark bytes e = tt

all_same : (names : List (List ℕ)) → All ArePlain names → map encode_utf8_all names ≡ names
all_same [] all = refl
all_same (n ∷ names) all =
    ap (λ z. z ∷ map encode_utf8_all names) (encode_same n (All-head ArePlain n names all)) ∙ ap (λ z. n ∷ z) (all_same names (All-tail ArePlain n names all))

names_plain : (test : Symbol → Bool) → ((y : Symbol) → test y ≡ true → is_declared y ≡ true) → (text : List ℕ) (z : Zone) (ts : List Token) → Each text ts → All ArePlain (map (name_of text) (filter (λ l. test l.symbol) (lexemes_of text z ts)))
unfolding lexemes_of
names_plain test declared text z [] all = All-nil ArePlain
names_plain test declared text z (t ∷ ts) all =
    go (test (lexeme_of text (zone_behind text z t) t).symbol) refl (names_plain test declared text (zone_behind text z t) ts all.1) where
      go : (b : Bool) → test (lexeme_of text (zone_behind text z t) t).symbol ≡ b
          → All ArePlain (map (name_of text) (filter (λ x. test x.symbol) (lexemes_of text (zone_behind text z t) ts)))
          → All ArePlain (map (name_of text) (cond b (lexeme_of text (zone_behind text z t) t ∷ filter (λ x. test x.symbol) (lexemes_of text (zone_behind text z t) ts)) (filter (λ x. test x.symbol) (lexemes_of text (zone_behind text z t) ts))))
      go false e rest = rest
      go true e rest =
          All-cons ArePlain (slice_range text t.from t.to) (map (name_of text) (filter (λ x. test x.symbol) (lexemes_of text (zone_behind text z t) ts)))
          (all.0 (plain_kin (zone_behind text z t) t.kin (slice_range text t.from t.to) (declared _ e))) rest

input_declared : (y : Symbol) → is_input y ≡ true → is_declared y ≡ true
input_declared (s.Declared side) e = refl
input_declared y e = cc

output_declared : (y : Symbol) → is_output y ≡ true → is_declared y ≡ true
output_declared (s.Declared side) e = refl
output_declared y e = cc

declared_inputs : (text : List ℕ) (z : Zone) (ts : List Token) → tokens_of text ≡ Ok ts → All ArePlain (map (name_of text) (inputs_of (lexemes_of text z ts)))
declared_inputs text z ts e = names_plain is_input input_declared text z ts (tokens_plain text text [] 0 0 refl (omega arith) ts e)

declared_outputs : (text : List ℕ) (z : Zone) (ts : List Token) → tokens_of text ≡ Ok ts → All ArePlain (map (name_of text) (outputs_of (lexemes_of text z ts)))
declared_outputs text z ts e = names_plain is_output output_declared text z ts (tokens_plain text text [] 0 0 refl (omega arith) ts e)

pub inputs_plain : (text : List ℕ) (z : Zone) (ts : List Token) → tokens_of text ≡ Ok ts → map encode_utf8_all (map (name_of text) (inputs_of (lexemes_of text z ts))) ≡ map (name_of text) (inputs_of (lexemes_of text z ts))
inputs_plain text z ts e = all_same (map (name_of text) (inputs_of (lexemes_of text z ts))) (declared_inputs text z ts e)

pub outputs_plain : (text : List ℕ) (z : Zone) (ts : List Token) → tokens_of text ≡ Ok ts → map encode_utf8_all (map (name_of text) (outputs_of (lexemes_of text z ts))) ≡ map (name_of text) (outputs_of (lexemes_of text z ts))
outputs_plain text z ts e = all_same (map (name_of text) (outputs_of (lexemes_of text z ts))) (declared_outputs text z ts e)

-- bytes of one line
abbrev pub StandsInLine : List ℕ → Type 0
StandsInLine bs = All (λ b. b ≢ 10) bs

in_line : (bs : List ℕ) → ArePlain bs → StandsInLine bs
in_line [] all = All-nil (λ b. b ≢ 10)
in_line (b ∷ bs) all = All-cons (λ b. b ≢ 10) b bs all.0.unfed (in_line bs all.1)

all_in_line : (names : List (List ℕ)) → All ArePlain names → All StandsInLine names
all_in_line names all = All-weaker ArePlain StandsInLine in_line names all

pub inputs_in_line : (text : List ℕ) (z : Zone) (ts : List Token) → tokens_of text ≡ Ok ts → All StandsInLine (map (name_of text) (inputs_of (lexemes_of text z ts)))
inputs_in_line text z ts e = all_in_line (map (name_of text) (inputs_of (lexemes_of text z ts))) (declared_inputs text z ts e)

pub outputs_in_line : (text : List ℕ) (z : Zone) (ts : List Token) → tokens_of text ≡ Ok ts → All StandsInLine (map (name_of text) (outputs_of (lexemes_of text z ts)))
outputs_in_line text z ts e = all_in_line (map (name_of text) (outputs_of (lexemes_of text z ts))) (declared_outputs text z ts e)
