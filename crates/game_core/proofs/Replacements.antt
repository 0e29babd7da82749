-- A piece of f is put into a list, and f's place in a list is taken by its pieces.
use Rattle.std.proofs.Common.{◌≡◌, ℕ, zero, suc, ◌+◌, ◌<◌, ◌≤◌, Bool, true, false, ◌||◌, ◌⊎◌, inl, inr, List, [], ◌∷◌, ◌++◌, length, take, drop, refl, sym, ◌∙◌, subst, arith, length-append}
use Rattle.std.specs.Prelude.{ℤ, pos, negsuc, slice_index_or, ◌≤ℤ◌, vec_len}
use Rattle.std.specs.List.{All, AllPairs, remove}
use Rattle.std.proofs.lemmas.Int.{ints}
use Rattle.std.proofs.lemmas.Bool.{cases_lt}
use Rattle.std.proofs.lemmas.List.{get_or_default}
use Rattle.std.proofs.lemmas.List.Elements.{All-push, All-append, All-take, All-drop}
use Rattle.std.proofs.lemmas.List.Edits.{get_or-remove_below, get_or-remove_above, length-remove}
use Rattle.std.proofs.lemmas.List.Folds.{list_any_at}
use Rattle.std.proofs.lemmas.List.Quantifiers.{all_pairs_push, all_pairs_remove}
use Rattle.counter_vec.specs.Counters.{at_or_below}
use Rattle.counter_vec.specs.Orders.{below-refl}
use Rattle.game_form.specs.Game.{GameData, IsGame, lanes}
use Rattle.game_form.specs.Vector.{IsVector, bound, size_of, lane}
use Rattle.game_core.specs.declared.fronts.Note.{Note}
use Rattle.game_core.specs.Entries.{AreEntries}
use Rattle.game_core.specs.Front.{IsApart, IsPiece, Misses, under, box, extent}
use Rattle.game_core.specs.Known.{HaveAnswers}
use Rattle.game_core.proofs.Boxes.{in_box, IsOf}
use Rattle.game_core.proofs.Extents.{extent_falls, under_trans}
use Rattle.game_core.proofs.Orders.{piece_vector}

or_left : (a b : Bool) → a ≡ true → (a || b) ≡ true
or_left a b h = rw h refl

-- the entries with one more piece
pub entries_pushed : (g : GameData) (slots : ℕ) (vs : List (List ℤ)) (ms ms' : List Bool) (ns ns' : List Note) (f p : List ℤ) → AreEntries g slots vs ms ns → IsVector g f → IsPiece f p → All (λ e. IsApart e p) vs → length ms' ≡ length ms + 1 → length ns' ≡ length ns + 1 → HaveAnswers slots ns' → AreEntries g slots (vs ++ p ∷ []) ms' ns'
entries_pushed g slots vs ms ms' ns ns' f p h v piece apart a b c = record {
  vectors = All-push (IsVector g) vs p h.vectors (piece_vector g f p v piece);
  apart = all_pairs_push IsApart vs p h.apart apart;
  pending = omega (arith, a, h.pending, length-append vs (p ∷ []));
  notes = omega (arith, b, h.notes, length-append vs (p ∷ []));
  answers = c;
}

pub misses_pushed : (f p : List ℤ) (vs : List (List ℤ)) → Misses f vs → IsPiece f p → Misses f (vs ++ p ∷ [])
misses_pushed f p vs h piece = All-push (λ e. at_or_below f e ≡ false) vs p h piece.strict

under_front : (f p : List ℤ) (vs : List (List ℤ)) → at_or_below p f ≡ true → under (f ∷ vs) p ≡ true
under_front f p vs h = list_any_at (λ e. at_or_below p e) (f ∷ vs) 0 [] (omega arith) h

pub under_pushed : (f p : List ℤ) (old vs : List (List ℤ)) → All (λ e. under (f ∷ old) e ≡ true) vs → IsPiece f p → All (λ e. under (f ∷ old) e ≡ true) (vs ++ p ∷ [])
under_pushed f p old vs h piece = All-push (λ e. under (f ∷ old) e ≡ true) vs p h (under_front f p old piece.below)

-- each member of a list is under it
pub under_self : (vs : List (List ℤ)) → All (λ e. under vs e ≡ true) vs
under_self vs k d lt = list_any_at (λ e. at_or_below (slice_index_or vs k d) e) vs k d lt (below-refl (slice_index_or vs k d))

pub under_more : (f : List ℤ) (vs : List (List ℤ)) → All (λ e. under (f ∷ vs) e ≡ true) vs
under_more f vs k d lt = list_any_at (λ e. at_or_below (slice_index_or vs k d) e) (f ∷ vs) (suc k) d (omega arith) (below-refl (slice_index_or vs k d))

-- f, taken out of its list, is at or below none of the rest
pub misses_rest : (vs : List (List ℤ)) (i : ℕ) (f : List ℤ) → i < length vs → f ≡ slice_index_or vs i f → AllPairs IsApart vs → Misses f (remove vs i)
misses_rest vs i f lt e apart k d below = go (cases_lt k i)
  where
    P : List ℤ → Type 0
    P z = at_or_below z (slice_index_or (remove vs i) k d) ≡ false

    same : slice_index_or vs i d ≡ f
    same = get_or_default vs i d f lt ∙ sym e

    go : (k < i) ⊎ (i ≤ k) → at_or_below f (slice_index_or (remove vs i) k d) ≡ false
    go (inl less) = subst P same (rw (get_or-remove_below vs i d k less lt) ((apart k i d less lt).1))
    go (inr more) =
        let size : length (remove vs i) + 1 ≡ length vs = length-remove vs i lt in
        subst P same (rw (get_or-remove_above vs i d k more lt) ((apart i (k + 1) d (omega arith) (omega arith)).0))

pub all_removed : {X : Type 0} (P : X → Type 0) (xs : List X) (i : ℕ) → All P xs → All P (remove xs i)
all_removed P xs i h = All-append P (take i xs) (drop (suc i) xs) (All-take P i xs h) (All-drop P (suc i) xs h)

-- the entries without one of them
pub entries_removed : (g : GameData) (slots : ℕ) (vs : List (List ℤ)) (ms ms' : List Bool) (ns ns' : List Note) (i : ℕ) → AreEntries g slots vs ms ns → i < length vs → length ms' + 1 ≡ length ms → length ns' + 1 ≡ length ns → HaveAnswers slots ns' → AreEntries g slots (remove vs i) ms' ns'
entries_removed g slots vs ms ms' ns ns' i h lt a b c = record {
  vectors = all_removed (IsVector g) vs i h.vectors;
  apart = all_pairs_remove IsApart vs i lt h.apart;
  pending = omega (arith, a, h.pending, length-remove vs i lt);
  notes = omega (arith, b, h.notes, length-remove vs i lt);
  answers = c;
}

pub answers_removed : (slots : ℕ) (ns : List Note) (i : ℕ) → HaveAnswers slots ns → HaveAnswers slots (remove ns i)
answers_removed slots ns i h = all_removed (λ n. vec_len n.answers ≡ slots) ns i h

-- each of f and the rest is under the whole list
under_whole : (vs : List (List ℤ)) (i : ℕ) (f : List ℤ) → i < length vs → f ≡ slice_index_or vs i f → All (λ e. under vs e ≡ true) (f ∷ remove vs i)
under_whole vs i f lt e k d below = go k below
  where
    P : List ℤ → Type 0
    P z = under vs z ≡ true

    rest : All (λ z. under vs z ≡ true) (remove vs i)
    rest = all_removed (λ z. under vs z ≡ true) vs i (under_self vs)

    go : (k : ℕ) → k < length (f ∷ remove vs i) → under vs (slice_index_or (f ∷ remove vs i) k d) ≡ true
    go zero h = subst P (sym e) (under_self vs i f lt)
    go (suc m) h = rest m d (omega arith)

-- all of ws is under vs where it is under f and the rest
all_under : (vs us ws : List (List ℤ)) → All (λ e. under vs e ≡ true) us → All (λ e. under us e ≡ true) ws → All (λ e. under vs e ≡ true) ws
all_under vs us ws a b k d lt = under_trans vs us (slice_index_or ws k d) a (b k d lt)

bound_is : (g : GameData) → IsGame g → g.k ≡ pos (bound g)
bound_is g h = go g.k h.low
  where
    go : (x : ℤ) → pos 0 ≤ℤ x → x ≡ pos (size_of x)
    go (pos n) low = refl
    go (negsuc n) low = absurd (grind (arith, ints))

in_game_box : (g : GameData) (f : List ℤ) → IsGame g → IsVector g f → IsOf f (box (bound g) (lanes g))
in_game_box g f h v =
    let P : ℕ → Type 0 = λ n. IsOf f (box (bound g) n) in
    let Q : ℤ → Type 0 = λ z. (p : ℕ) → p < length f → lane f p ≤ℤ z in
    subst P v.same_length (in_box (bound g) f v.low (subst Q (bound_is g h) v.high))

-- the extent falls
pub exchange_falls : (g : GameData) (vs ws : List (List ℤ)) (i : ℕ) (f : List ℤ) → IsGame g → All (IsVector g) vs → i < length vs → f ≡ slice_index_or vs i f → Misses f ws → All (λ e. under (f ∷ remove vs i) e ≡ true) ws → extent (bound g) (lanes g) ws < extent (bound g) (lanes g) vs
exchange_falls g vs ws i f h all lt e miss hit =
    let P : List ℤ → Type 0 = λ z. under vs z ≡ true in
    let Q : List ℤ → Type 0 = λ z. IsVector g z in
    extent_falls (bound g) (lanes g) vs ws f (in_game_box g f h (subst Q (sym e) (all i f lt)))
    (subst P (sym e) (under_self vs i f lt)) miss (all_under vs (f ∷ remove vs i) ws (under_whole vs i f lt e) hit)
