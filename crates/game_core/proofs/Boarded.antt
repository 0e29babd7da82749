-- What boards keep of the held vectors, and what a board has whose entries are all fresh.
use Rattle.std.proofs.Common.{◌≡◌, ℕ, zero, suc, ◌<◌, Bool, true, false, ◌&&◌, ◌||◌, ◌⊎◌, inl, inr, List, [], ◌∷◌, length, refl, sym, ◌∙◌, ap, arith}
use Rattle.std.proofs.Common.{replicate, subst}
use Rattle.std.specs.Prelude.{ℤ, slice_index_or, slice_set}
use Rattle.std.specs.List.{All, remove}
use Rattle.std.proofs.lemmas.Bool.{cases_eq}
use Rattle.std.proofs.lemmas.List.{get_or_default, get_or-set_other, length-replicate}
use Rattle.std.proofs.lemmas.List.Elements.{All-from_get_or, All-from_recursion, recursion_from_All}
use Rattle.antichain_list.specs.Antichain.{IsAntichain}
use Rattle.counter_vec.specs.Counters.{at_or_below, lexicographic}
use Rattle.game_form.specs.Covering.{CoversLetters}
use Rattle.game_form.specs.Game.{GameData, IsGame}
use Rattle.game_form.specs.Held.{HasHeld, IsHeld}
use Rattle.game_form.specs.Letters.{HasLetters}
use Rattle.game_form.specs.Vector.{IsVector, top, initial}
use Rattle.cpre_step.specs.Refinement.{AreLeft, AreVectors, answers}
use Rattle.game_core.specs.Board.{BoardData, CoversHeld, IsAt, IsBoard, entry_at, mark_at, open_count, replaced}
use Rattle.game_core.specs.Commit.{exchanged}
use Rattle.game_core.specs.Front.{under}
use Rattle.game_core.specs.Solved.{Covers, CoversKept, IsClosed, IsSettled}
use Rattle.game_core.proofs.Begun.{held_from}
use Rattle.game_core.proofs.EntriesHeld.{closed_held}
use Rattle.game_core.proofs.Exact.{apart_from, covered_back, has_held}
use Rattle.game_core.proofs.Greatest.{held_covered, top_covers, under_removed}
use Rattle.game_core.proofs.Kept.{all_puts, all_removed, vector-top}
use Rattle.game_core.proofs.KeptCovered.{kept_answered}
use Rattle.game_core.proofs.Settled.{covered-puts}

-- what is held is what some machine keeps in the bound from one of its states
pub kept_from_held : (g : GameData) (list : List (List ℤ)) → CoversHeld g list → CoversLetters g → CoversKept g list
kept_from_held g list h letters m s u fits lt vector keeps = h.all letters u (held_from g m s u fits lt vector keeps)

pub covers_from_held : (g : GameData) (list : List (List ℤ)) → IsGame g → HasLetters g → CoversLetters g → CoversHeld g list → Covers g list
covers_from_held g list known letters covering h = record {
  closed = λ other (closed : IsClosed g other) k d lt.
      h.all covering (slice_index_or other k d) (closed_held g known letters other (All-from_recursion _ other closed.vectors) closed.closed k d lt);
  kept = λ _. kept_from_held g list h covering;
}

pub held_from_covers : (g : GameData) (list : List (List ℤ)) → Covers g list → CoversHeld g list
held_from_covers g list covers = record { all = held_covered g list covers }

pub top_covers_held : (g : GameData) → CoversHeld g (top g ∷ [])
top_covers_held g = held_from_covers g (top g ∷ []) (top_covers g)

pub left_covers : (b c d : Bool) → d ≡ (b && c) → b ≡ true → c ≡ true → d ≡ true
left_covers b c d e h k = rw (h, k) at e

-- the maximal held vectors are a closed list
pub held_closed : (g : GameData) (list : List (List ℤ)) → IsGame g → CoversLetters g → HasHeld g list → IsClosed g list
held_closed g list known letters h = record {
  vectors = recursion_from_All (IsVector g) list (All-from_get_or (IsVector g) list [] (λ i lt. (h.held i lt).vector));
  closed = All-from_get_or (λ f. answers g list f ≡ true) list [] (λ i lt. answered (slice_index_or list i []) (h.held i lt));
}
  where
    covers : CoversHeld g list
    covers = record { all = λ _ v held. covered_back list v (h.all v held) }

    answered : (f : List ℤ) → IsHeld g f → answers g list f ≡ true
    answered f held = kept_answered g known list (kept_from_held g list covers letters) held.machine held.fits 0 held.fits.machine.begins f held.keeps letters

-- a list stays at or above what is held, where what is left of an entry, under another such list, takes its place
pub exchanged_covers : (g : GameData) (list snapshot left : List (List ℤ)) (place : ℕ) (f : List ℤ) → IsGame g → IsAt list place f → CoversHeld g list → CoversHeld g snapshot
    → AreLeft g snapshot f left → CoversHeld g (replaced list place left)
exchanged_covers g list snapshot left place f known at covers then is_left = record { all = each }
  where
    same : f ≡ slice_index_or list place f
    same = sym at.1 ∙ get_or_default list place [] f at.0

    go : (b : Bool) (u : List ℤ) → CoversLetters g → IsHeld g u → (b || at_or_below u f) ≡ true → (b || under left u) ≡ true
    go true u letters held h = refl
    go false u letters held h =
        left_covers (at_or_below u f) (answers g snapshot u) (under left u) (is_left.covers u held.vector) h
        (kept_answered g known snapshot (kept_from_held g snapshot then letters) held.machine held.fits 0 held.fits.machine.begins u held.keeps letters)

    each : CoversLetters g → (u : List ℤ) → IsHeld g u → under (replaced list place left) u ≡ true
    each letters u held =
        covered-puts u (remove list place) left
        ∙ go (under (remove list place) u) u letters held (sym (under_removed u list place f at.0 same) ∙ covers.all letters u held)

-- an entry that was looked at under the present list is marked
pub marked_fresh : (g : GameData) (list : List (List ℤ)) (marks : List Bool) (place : ℕ) (f : List ℤ) → IsAt list place f → answers g list f ≡ true
    → ((i : ℕ) → i < length list → mark_at marks i ≡ true → answers g list (entry_at list i) ≡ true)
    → (i : ℕ) → i < length list → mark_at (slice_set marks place true) i ≡ true → answers g list (entry_at list i) ≡ true
marked_fresh g list marks place f at answered fresh i lt h = go (cases_eq i place)
  where
    go : (i ≡ place) ⊎ (i ≡ place → ⊥) → answers g list (entry_at list i) ≡ true
    go (inl e) = ap (λ k. answers g list (entry_at list k)) e ∙ ap (answers g list) at.1 ∙ answered
    go (inr ne) = fresh i lt (sym (get_or-set_other marks place i true false ne) ∙ h)

-- no entry is open
none_open : (marks : List Bool) (i : ℕ) → open_count marks ≡ 0 → i < length marks → mark_at marks i ≡ true
none_open [] i h lt = absurd (omega arith)
none_open (true ∷ marks) zero h lt = refl
none_open (true ∷ marks) (suc i) h lt = none_open marks i h (omega arith)
none_open (false ∷ marks) i h lt = absurd (omega (arith, h))

pub all_answered : (b : BoardData) → IsBoard b → open_count b.marks ≡ 0 → All (λ f. answers b.game b.list f ≡ true) b.list
all_answered b h none =
    All-from_get_or (λ f. answers b.game b.list f ≡ true) b.list []
    (λ i lt. h.fresh i lt (none_open b.marks i none (let n = h.marks in omega arith)))

pub board_closed : (b : BoardData) → IsBoard b → open_count b.marks ≡ 0 → IsClosed b.game b.list
board_closed b h none = record { vectors = h.vectors; closed = all_answered b h none }

pub board_held : (b : BoardData) → IsGame b.game → IsBoard b → open_count b.marks ≡ 0 → HasLetters b.game → CoversLetters b.game → HasHeld b.game b.list
board_held b known h none letters covering =
    has_held b.game b.list (apart_from b.list h.antichain)
    (closed_held b.game known letters b.list (All-from_recursion _ b.list h.vectors) (all_answered b h none)) (h.covers.all covering)

pub board_settled : (b : BoardData) (whole : Bool) → IsGame b.game → IsBoard b → open_count b.marks ≡ 0 → Covers b.game b.list → (whole ≡ false → under b.list (initial b.game) ≡ true) → IsSettled b.game whole b.list
board_settled b whole known h none covers begins = record {
  vectors = h.vectors;
  closed = all_answered b h none;
  largest = covers.closed;
  exact = board_held b known h none;
  begins = begins;
}

not_fresh : (g : GameData) (i : ℕ) → i < 1 → mark_at (false ∷ []) i ≡ true → answers g (top g ∷ []) (entry_at (top g ∷ []) i) ≡ true
not_fresh g zero lt h = cc
not_fresh g (suc i) lt h = absurd (omega arith)

pub opened : (g : GameData) → IsGame g → IsBoard (record { game = g; list = top g ∷ []; marks = false ∷ [] })
opened g known = record { vectors = (vector-top g known, tt); antichain = (tt, tt); covers = top_covers_held g; marks = refl; fresh = not_fresh g }

pub opened_as : (g : GameData) (list : List (List ℤ)) (marks : List Bool) → IsGame g → list ≡ top g ∷ [] → marks ≡ false ∷ [] → IsBoard (record { game = g; list = list; marks = marks })
opened_as g list marks known l m =
    subst (λ (x : List (List ℤ)). IsBoard (record { game = g; list = x; marks = marks })) (sym l)
    (subst (λ (x : List Bool). IsBoard (record { game = g; list = top g ∷ []; marks = x })) (sym m) (opened g known))

unmarked : (n i : ℕ) → mark_at (replicate n false) i ≡ true → ⊥
unmarked zero i h = cc
unmarked (suc n) zero h = cc
unmarked (suc n) (suc i) h = unmarked n i h

-- what is left of an entry takes its place, and no entry is fresh
pub exchanged_as : (g : GameData) (list snapshot next left : List (List ℤ)) (marks : List Bool) (place : ℕ) (f : List ℤ) → IsGame g → AreVectors g list → IsAt list place f
    → CoversHeld g list → CoversHeld g snapshot → AreLeft g snapshot f left → IsAntichain at_or_below lexicographic next → next ≡ replaced list place left
    → marks ≡ replicate (length next) false → IsBoard (record { game = g; list = next; marks = marks })
exchanged_as g list snapshot next left marks place f known vl at covers then is_left ascends next_is marks_is = record {
  vectors = subst (AreVectors g) (sym next_is) (all_puts (IsVector g) (remove list place) left (all_removed (IsVector g) list place vl) is_left.vectors);
  antichain = ascends;
  covers = subst (CoversHeld g) (sym next_is) (exchanged_covers g list snapshot left place f known at covers then is_left);
  marks = ap length marks_is ∙ length-replicate (length next) false;
  fresh = λ i lt h. absurd (unmarked (length next) i (sym (ap (λ ms. mark_at ms i) marks_is) ∙ h));
}

pub exchanged_view : (b : BoardData) (g : GameData) (next left : List (List ℤ)) (marks : List Bool) (place : ℕ) → g ≡ b.game → next ≡ replaced b.list place left
    → marks ≡ replicate (length next) false → (let seen : BoardData = record { game = g; list = next; marks = marks } in seen) ≡ exchanged b place left
exchanged_view b g next left marks place game_is next_is marks_is =
    let marks_are : marks ≡ replicate (length (replaced b.list place left)) false = marks_is ∙ ap (λ (l : List (List ℤ)). replicate (length l) false) next_is in
    made_same g b.game next (replaced b.list place left) marks _ game_is next_is marks_are
  where
    made_same : (g h : GameData) (l m : List (List ℤ)) (a c : List Bool) → g ≡ h → l ≡ m → a ≡ c → (let seen : BoardData = record { game = g; list = l; marks = a } in seen) ≡ (let seen : BoardData = record { game = h; list = m; marks = c } in seen)
    made_same g h l m a c e f k = cc
