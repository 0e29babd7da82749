-- The entries cover each closed list, as they are replaced.
use Rattle.std.proofs.Common.{◌≡◌, ◌⊎◌, inl, inr, ℕ, zero, suc, ◌+◌, ◌<◌, ◌≤◌, Bool, true, false, ◌||◌, List, [], ◌∷◌, length, refl, sym, ◌∙◌, ap, subst, arith, true≢false}
use Rattle.std.specs.Prelude.{ℤ, pos, slice_index_or, ◌≤ℤ◌}
use Rattle.std.specs.List.{All, AllPairs, remove}
use Rattle.std.proofs.lemmas.Bool.{cases_lt}
use Rattle.std.proofs.lemmas.List.{get_or_default}
use Rattle.std.proofs.lemmas.List.Edits.{get_or-remove_below, get_or-remove_above, length-remove}
use Rattle.std.proofs.lemmas.List.Elements.{All-from_recursion, recursion_from_All}
use Rattle.std.proofs.lemmas.List.FromFn.{get_or-map-range_with_len, length-map-range_with_len}
use Rattle.std.proofs.lemmas.List.Folds.{list_any_at}
use Rattle.word_core.specs.declared.names.Kind.{Kind}
use Rattle.word_core.specs.declared.names.Kind.TheVariants.{First, Second}
use Rattle.antichain_list.specs.Antichain.{covered}
use Rattle.counter_vec.specs.Counters.{at_or_below}
use Rattle.game_form.specs.Covering.{CoversLetters}
use Rattle.game_form.specs.Game.{GameData, IsGame, lanes}
use Rattle.game_form.specs.Held.{IsHeld}
use Rattle.game_form.specs.Vector.{IsVector, lane, top, initial, successor}
use Rattle.cpre_step.specs.Refinement.{action_works, all_work, some_works, answers, answers_by}
use Rattle.game_core.specs.Front.{IsApart, under}
use Rattle.game_core.specs.Remains.{AreRemains, KeepsAnswered}
use Rattle.game_core.specs.Solved.{Covers, IsClosed, IsLost, IsSettled}
use Rattle.game_core.proofs.EntriesHeld.{closed_held}
use Rattle.game_core.proofs.Exact.{has_held}
use Rattle.game_core.proofs.Extents.{under_trans}
use Rattle.game_core.proofs.KeptCovered.{kept_answered}
use Rattle.game_core.proofs.Orders.{below_from}
use Rattle.game_core.proofs.Works.{any_weaker, all_weaker}

or_comm : (a b : Bool) → (a || b) ≡ (b || a)
or_comm true true = refl
or_comm true false = refl
or_comm false true = refl
or_comm false false = refl

or_assoc : (a b c : Bool) → (a || (b || c)) ≡ ((a || b) || c)
or_assoc true b c = refl
or_assoc false b c = refl

-- a list is at or above what the rest and the vector taken out are
pub under_removed : (u : List ℤ) (vs : List (List ℤ)) (i : ℕ) (f : List ℤ) → i < length vs → f ≡ slice_index_or vs i f → under vs u ≡ (under (remove vs i) u || at_or_below u f)
under_removed u [] i f lt e = absurd (omega arith)
under_removed u (x ∷ vs) zero f lt e = or_comm (at_or_below u x) (under vs u) ∙ ap (λ z. under vs u || at_or_below u z) (sym e)
under_removed u (x ∷ vs) (suc i) f lt e =
    ap (λ b. at_or_below u x || b) (under_removed u vs i f (omega arith) e) ∙ or_assoc (at_or_below u x) (under (remove vs i) u) (at_or_below u f)

-- none of the rest is at or below the vector taken out
pub rest_above : (vs : List (List ℤ)) (i : ℕ) (f : List ℤ) → i < length vs → f ≡ slice_index_or vs i f → AllPairs IsApart vs → All (λ e. at_or_below e f ≡ false) (remove vs i)
rest_above vs i f lt e apart k d below = go (cases_lt k i)
  where
    P : List ℤ → Type 0
    P z = at_or_below (slice_index_or (remove vs i) k d) z ≡ false

    same : slice_index_or vs i d ≡ f
    same = get_or_default vs i d f lt ∙ sym e

    go : (k < i) ⊎ (i ≤ k) → at_or_below (slice_index_or (remove vs i) k d) f ≡ false
    go (inl less) = subst P same (rw (get_or-remove_below vs i d k less lt) ((apart k i d less lt).0))
    go (inr more) =
        let size : length (remove vs i) + 1 ≡ length vs = length-remove vs i lt in
        subst P same (rw (get_or-remove_above vs i d k more lt) ((apart i (k + 1) d (omega arith) (omega arith)).1))

pub exchange_keeps : (g : GameData) (vs ws pieces : List (List ℤ)) (i : ℕ) (f : List ℤ) → i < length vs → f ≡ slice_index_or vs i f → AreRemains g vs f pieces
    → ((u : List ℤ) → under ws u ≡ (under (remove vs i) u || under pieces u)) → KeepsAnswered g vs ws
exchange_keeps g vs ws pieces i f lt e remains made u vector hit answered =
    made u ∙ go (under (remove vs i) u) (sym (under_removed u vs i f lt e) ∙ hit)
  where
    go : (b : Bool) → (b || at_or_below u f) ≡ true → (b || under pieces u) ≡ true
    go true h = refl
    go false h = remains.whole u vector h answered

-- more is answered where more is covered
answers_more_by : (kind : Kind) (g : GameData) (list vs : List (List ℤ)) (u : List ℤ) → All (λ e. under vs e ≡ true) list → answers_by kind g list u ≡ true → answers_by kind g vs u ≡ true
answers_more_by First g list vs u all =
    any_weaker (λ c. all_work g list u c) (λ c. all_work g vs u c) g.classes
    (λ k d lt. all_weaker (λ o. action_works g list u o.0) (λ o. action_works g vs u o.0) (slice_index_or g.classes k d).options
    (λ i e below. under_trans vs list (successor g (slice_index_or (slice_index_or g.classes k d).options i e).0 u) all))
answers_more_by Second g list vs u all =
    all_weaker (λ c. some_works g list u c) (λ c. some_works g vs u c) g.classes
    (λ k d lt. any_weaker (λ o. action_works g list u o.0) (λ o. action_works g vs u o.0) (slice_index_or g.classes k d).options
    (λ i e below. under_trans vs list (successor g (slice_index_or (slice_index_or g.classes k d).options i e).0 u) all))

-- each closed list stays covered, and what machines keep in the bound
pub covers_kept : (g : GameData) → IsGame g → (vs ws : List (List ℤ)) → Covers g vs → KeepsAnswered g vs ws → Covers g ws
covers_kept g known vs ws covers keeps = record {
  closed = λ other closed k d lt.
      keeps (slice_index_or other k d) (All-from_recursion (IsVector g) other closed.vectors k d lt) (covers.closed other closed k d lt)
      (answers_more_by g.kind g other vs (slice_index_or other k d) (covers.closed other closed) (closed.closed k d lt));
  kept = λ letters m s u fits in_s vector stays.
      keeps u vector (covers.kept letters m s u fits in_s vector stays)
      (kept_answered g known vs (covers.kept letters) m fits s in_s u stays letters);
}

-- the top is at or above every vector
top_above : (g : GameData) (u : List ℤ) → IsVector g u → at_or_below u (top g) ≡ true
top_above g u h =
    let n : length (top g) ≡ lanes g = length-map-range_with_len (λ (q : ℕ). g.k) 0 (lanes g) in
    below_from u (top g) (h.same_length ∙ sym n)
    (λ p lt.
    let in_n : p < lanes g = (let s = h.same_length in omega arith) in
    let e : lane (top g) p ≡ g.k = get_or-map-range_with_len (λ (q : ℕ). g.k) 0 (lanes g) p p (pos 0) in_n (omega arith) in
    subst (λ x. lane u p ≤ℤ x) (sym e) (h.high p lt))

pub top_covers : (g : GameData) → Covers g (top g ∷ [])
top_covers g = record {
  closed = λ other closed k d lt. under_top (slice_index_or other k d) (All-from_recursion (IsVector g) other closed.vectors k d lt);
  kept = λ letters m s u fits in_s vector keeps. under_top u vector;
}
  where
    under_top : (u : List ℤ) → IsVector g u → under (top g ∷ []) u ≡ true
    under_top u vector = list_any_at (λ e. at_or_below u e) (top g ∷ []) 0 (top g) (omega arith) (top_above g u vector)

pub held_covered : (g : GameData) (vs : List (List ℤ)) → Covers g vs → CoversLetters g → (v : List ℤ) → IsHeld g v → under vs v ≡ true
held_covered g vs covers letters v held = covers.kept letters held.machine 0 v held.fits held.fits.machine.begins held.vector held.keeps

-- an initial vector that isn't covered is in no closed list, and isn't held
pub lost : (g : GameData) (whole : Bool) (vs : List (List ℤ)) → Covers g vs → whole ≡ false → under vs (initial g) ≡ false → IsLost g whole
lost g whole vs covers asked missed = record {
  asked = asked;
  missed = λ list closed. go (covered at_or_below (initial g) list) list closed refl;
  not_held = λ letters held. (let hit : under vs (initial g) ≡ true = held_covered g vs covers letters (initial g) held in true≢false (sym hit ∙ missed));
}
  where
    go : (b : Bool) (list : List (List ℤ)) → IsClosed g list → covered at_or_below (initial g) list ≡ b → b ≡ false
    go false list closed e = refl
    go true list closed e = let hit : under vs (initial g) ≡ true = under_trans vs list (initial g) (covers.closed list closed) e in cc

pub lost_seen : (g : GameData) (whole : Bool) (vs seen : List (List ℤ)) (first : List ℤ) → Covers g vs → whole ≡ false → seen ≡ vs → first ≡ initial g → under seen first ≡ false → IsLost g whole
lost_seen g whole vs seen first covers asked same is missed =
    lost g whole vs covers asked (ap (λ (xs : List (List ℤ)). under xs (initial g)) (sym same) ∙ ap (under seen) (sym is) ∙ missed)

pub settled_seen : (g : GameData) (whole : Bool) (vs seen : List (List ℤ)) (first : List ℤ) → IsGame g → AllPairs IsApart vs → All (IsVector g) vs → All (λ f. answers g vs f ≡ true) vs → Covers g vs → seen ≡ vs
    → first ≡ initial g → (whole ≡ false → under seen first ≡ true) → IsSettled g whole vs
settled_seen g whole vs seen first known apart vectors closed covers same is begins = record {
  vectors = recursion_from_All (IsVector g) vs vectors;
  closed = closed;
  largest = covers.closed;
  exact = λ letters covering. has_held g vs apart (closed_held g known letters vs vectors closed) (held_covered g vs covers covering);
  begins = λ asked. ap (λ (xs : List (List ℤ)). under xs (initial g)) (sym same) ∙ ap (under seen) (sym is) ∙ begins asked;
}
