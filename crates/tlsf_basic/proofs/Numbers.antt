-- The names in order, and the number of each.
use Rattle.std.proofs.Common.{◌≡◌, ℕ, ◌<◌, ◌≤◌, ◌+◌, min, Bool, true, false, not, cond, List, [], ◌∷◌, ◌++◌, length, take, map, get_or, Bor, nat_lt, Some, None, Result, Ok, Err, sym, refl, ap, ◌∙◌, arith}
use Rattle.std.specs.Prelude.{◌||◌, ◌&&◌, fold, position, OkIff}
use Rattle.std.specs.Result.{result_unwrap_or}
use Rattle.std.specs.List.{list_any, position_or_len}
use Rattle.std.specs.Str.{bytes_eq}
use Rattle.std.proofs.lemmas.List.{take_more, map-append}
use Rattle.std.proofs.lemmas.List.Sums.{fold-append}
use Rattle.indexmap.specs.IndexSet.{insert_key}
use Rattle.tlsf_basic.specs.declared.symbols.Lexeme.{Lexeme}
use Rattle.tlsf_basic.specs.Signals.{with_name, name_of, each_once, inputs_of, outputs_of, declared_of}

abbrev pub seen : List (Bor (List ℕ)) → List (List ℕ)
seen ks = map (λ k. k.now) ks

pub any-seen : (test : List ℕ → Bool) (ks : List (Bor (List ℕ))) → list_any test (seen ks) ≡ list_any (λ k. test k.now) ks
any-seen test [] = refl
any-seen test (k ∷ ks) = ap (λ b. test k.now || b) (any-seen test ks)

length-seen : (ks : List (Bor (List ℕ))) → length (seen ks) ≡ length ks
length-seen [] = refl
length-seen (k ∷ ks) = let e = length-seen ks in omega (arith, e)

position_or_len-seen : (test : List ℕ → Bool) (ks : List (Bor (List ℕ))) → position_or_len test (seen ks) ≡ position_or_len (λ k. test k.now) ks
position_or_len-seen test [] = refl
position_or_len-seen test (k ∷ ks) = ap (λ n. cond (not (test k.now)) (1 + n) 0) (position_or_len-seen test ks)

pub position-seen : (test : List ℕ → Bool) (ks : List (Bor (List ℕ))) → position test (seen ks) ≡ position (λ k. test k.now) ks
position-seen test ks =
    ap (λ n. cond (nat_lt n (length (seen ks))) (Some n) None) (position_or_len-seen test ks)
    ∙ ap (λ m. cond (nat_lt (position_or_len (λ k. test k.now) ks) m) (Some (position_or_len (λ k. test k.now) ks)) None) (length-seen ks)

abbrev pub same_name : Bor (List ℕ) → Bor (List ℕ) → Bool
same_name a b = bytes_eq a.now b.now

pub insert-seen : (ks : List (Bor (List ℕ))) (k : Bor (List ℕ)) → seen (insert_key same_name ks k) ≡ with_name (seen ks) k.now
insert-seen ks k = go (list_any (same_name k) ks) refl where
  e : list_any (bytes_eq k.now) (seen ks) ≡ list_any (same_name k) ks
  e = any-seen (bytes_eq k.now) ks

  go : (b : Bool) → list_any (same_name k) ks ≡ b → seen (cond b ks (ks ++ k ∷ [])) ≡ cond (list_any (bytes_eq k.now) (seen ks)) (seen ks) (seen ks ++ k.now ∷ [])
  go true is = ap (λ b. cond b (seen ks) (seen ks ++ k.now ∷ [])) (sym (e ∙ is))
  go false is = map-append (λ k. k.now) ks (k ∷ []) ∙ ap (λ b. cond b (seen ks) (seen ks ++ k.now ∷ [])) (sym (e ∙ is))

pub len_more : (a b n i : ℕ) (new : Bool) → a ≡ b + cond new 1 0 → b ≤ n + i → a ≤ n + (i + 1)
len_more a b n i true e h = omega (arith, e, h)
len_more a b n i false e h = omega (arith, e, h)

-- one more name of a list of lexemes
pub fold_more : (text : List ℕ) (names : List (List ℕ)) (w : List Lexeme) (i : ℕ) (d : Lexeme) → i < length w → fold with_name names (map (name_of text) (take (i + 1) w)) ≡ with_name (fold with_name names (map (name_of text) (take i w))) (name_of text (get_or w i d))
fold_more text names w i d below =
    ap (λ z. fold with_name names (map (name_of text) z)) (take_more w i d below)
    ∙ ap (fold with_name names) (map-append (name_of text) (take i w) (get_or w i d ∷ []))
    ∙ fold-append with_name names (map (name_of text) (take i w)) (name_of text (get_or w i d) ∷ [])

-- a number that has no 32 bits is cut
pub cut : {E : Type 0} (r : Result ℕ E) (i : ℕ) → OkIff r (i < 4294967296) i → result_unwrap_or r 4294967295 ≡ min i 4294967295
cut (Ok x) i (below, e) = e ∙ (omega (arith, below))
cut (Err x) i above = omega (arith, above)

-- the names of both sides, each once
pub both_sides : (text : List ℕ) (w : List Lexeme) (none inputs outputs : List (List ℕ)) (ins outs : List Lexeme) → none ≡ [] → ins ≡ inputs_of w → outs ≡ outputs_of w → inputs ≡ fold with_name none (map (name_of text) ins) → outputs ≡ fold with_name inputs (map (name_of text) outs) → outputs ≡ each_once (declared_of text w)
both_sides text w none inputs outputs ins outs en ei eo e1 e2 =
    e2 ∙ ap (λ z. fold with_name inputs (map (name_of text) z)) eo
    ∙ ap (λ z. fold with_name z (map (name_of text) (outputs_of w))) (e1 ∙ ap (λ z. fold with_name z (map (name_of text) ins)) en ∙ ap (λ z. fold with_name [] (map (name_of text) z)) ei)
    ∙ sym (fold-append with_name [] (map (name_of text) (inputs_of w)) (map (name_of text) (outputs_of w)))

-- whether a name wasn't new
pub found_is : (new : Bool) (ks : List (Bor (List ℕ))) (k : Bor (List ℕ)) (name : List ℕ) (d : Bool) → new ≡ not (list_any (same_name k) ks) → k.now ≡ name → d ≡ true → not new ≡ (d && list_any (bytes_eq name) (seen ks))
found_is new ks k name d added e declared =
    ap not added ∙ not_twice (list_any (same_name k) ks) ∙ sym (any-seen (bytes_eq k.now) ks) ∙ ap (λ n. list_any (bytes_eq n) (seen ks)) e
    ∙ ap (λ b. b && list_any (bytes_eq name) (seen ks)) (sym declared) where
      not_twice : (b : Bool) → not (not b) ≡ b
      not_twice true = refl
      not_twice false = refl
