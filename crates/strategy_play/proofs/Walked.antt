-- Entries numbered as they are met, and states while more are met.
use Rattle.std.proofs.Common.{◌≡◌, ℕ, zero, suc, ◌+◌, ◌<◌, ◌≤◌, ◌^◌, Bool, true, false, cond, List, [], ◌∷◌, ◌++◌, length, get_or, set, replicate, Option, Some, None, refl, sym, ◌∙◌, ap, subst, arith, inl, inr, append_assoc, append-nil, length-append, max}
use Rattle.std.specs.Option.{is_some, IsSome}
use Rattle.std.specs.List.{All, AllZip, flat_map}
use Rattle.std.proofs.lemmas.Bool.{cases_eq, cases_lt}
use Rattle.std.proofs.lemmas.List.{map-append, flat_map_more, get_or-set_same, get_or-set_other, length-set, length_push, get_or_push, get_or_append_left, get_or-replicate, get_or_past, length-replicate}
use Rattle.std.proofs.lemmas.List.Elements.{All-nil, All-cons, All-head, All-tail, All-push, AllZip-get_or, All-weaker, length_all_zip}
use Rattle.std.proofs.lemmas.Option.{same_Some, none-some}
use Rattle.word_core.specs.declared.machines.Line.{Line}
use Rattle.word_core.specs.Cube.{IsCube, holds}
use Rattle.word_core.specs.Machine.{choice, IsLine}
use Rattle.game_form.specs.Game.{GameData, own_width, other_width}
use Rattle.strategy_play.specs.Lead.{lead}
use Rattle.letter_tree.specs.Splitting.{all_cube}
use Rattle.strategy_play.specs.State.{IsState}
use Rattle.strategy_play.specs.Walk.{open_count, IsWalk, Extends, IsRenumbered, InTurn, nexts_of}
use Rattle.strategy_play.proofs.Renumbering.{lines_renumbered}

-- one entry fewer is without a number
open_falls : (numbers : List (Option ℕ)) (i n : ℕ) → i < length numbers → lead numbers i ≡ None → suc (open_count (set numbers i (Some n))) ≡ open_count numbers
open_falls [] i n lt none = absurd (omega arith)
open_falls (None ∷ rest) zero n lt none = refl
open_falls (Some m ∷ rest) zero n lt none = absurd (cc)
open_falls (None ∷ rest) (suc i) n lt none = ap suc (open_falls rest i n (omega arith) none)
open_falls (Some m ∷ rest) (suc i) n lt none = open_falls rest i n (omega arith) none

-- an entry without a number gets the next one
pub walk_push : (count entry : ℕ) (numbers : List (Option ℕ)) (order : List ℕ) → IsWalk count numbers order → entry < length numbers → lead numbers entry ≡ None
    → IsWalk count (set numbers entry (Some (length order))) (order ++ entry ∷ [])
walk_push count entry numbers order is lt none =
    let more : length (order ++ entry ∷ []) ≡ length order + 1 = length_push order entry in
    let size = length-set numbers entry (Some (length order)) in
    let falls = open_falls numbers entry (length order) lt none in
    record {
      counted = size ∙ is.counted;
      entries = All-push (λ e. e < count) order entry is.entries (omega (arith, is.counted));
      numbered = λ i n e. elim (cases_eq i entry) [
        | inl here ↦ (let first : lead (set numbers entry (Some (length order))) i ≡ Some (length order) = ap (lead (set numbers entry (Some (length order)))) here ∙ get_or-set_same numbers entry (Some (length order)) None lt in
            let same : length order ≡ n = same_Some (length order) n (sym first ∙ e) in
            (omega arith, get_or_push order entry 0 n same ∙ sym here))
        | inr elsewhere ↦ (let old = is.numbered i n (sym (get_or-set_other numbers entry i (Some (length order)) None elsewhere) ∙ e) in
            (omega (arith, old.0), get_or_append_left order (entry ∷ []) 0 n old.0 ∙ old.1))
      ];
      ordered = λ n less. elim (cases_lt n (length order)) [
        | inl before ↦ (let old = is.ordered n before in
            let at : get_or (order ++ entry ∷ []) n 0 ≡ get_or order n 0 = get_or_append_left order (entry ∷ []) 0 n before in
            let apart : get_or order n 0 ≡ entry → ⊥ = λ same. none-some n (sym none ∙ ap (lead numbers) (sym same) ∙ old) in
            ap (lead (set numbers entry (Some (length order)))) at ∙ get_or-set_other numbers entry (get_or order n 0) (Some (length order)) None apart ∙ old)
        | inr after ↦ (let here : length order ≡ n = omega arith in
            ap (lead (set numbers entry (Some (length order)))) (get_or_push order entry 0 n here) ∙ get_or-set_same numbers entry (Some (length order)) None lt ∙ ap Some here)
      ];
      balance = omega (arith, more, falls, is.balance);
    }

all_open : (n : ℕ) → open_count (replicate n None) ≡ n
all_open zero = refl
all_open (suc n) = ap suc (all_open n)

none_numbered : (count i : ℕ) → lead (replicate count None) i ≡ None
none_numbered count i = elim (cases_lt i count) [
  | inl lt ↦ get_or-replicate count i None None lt
  | inr ge ↦ get_or_past (replicate count None) i None (let n = length-replicate {A = Option ℕ} count None in omega arith)
]

-- the walk that begins
pub walk_begins : (count first : ℕ) → first < count → IsWalk count (set (replicate count None) first (Some 0)) (first ∷ [])
walk_begins count first lt =
    let n : length (replicate {A = Option ℕ} count None) ≡ count = length-replicate {A = Option ℕ} count None in
    walk_push count first (replicate count None) []
    (record {
      counted = n;
      entries = All-nil (λ e. e < count);
      numbered = λ i m e. absurd (let none = none_numbered count i in cc);
      ordered = λ m less. absurd (omega arith);
      balance = omega (arith, all_open count);
    })
    (omega arith) (none_numbered count first)

pub extends_none : (order : List ℕ) → Extends order order
extends_none order = record { more = []; is = sym (append-nil order) }

pub extends_one : (order : List ℕ) (entry : ℕ) → Extends order (order ++ entry ∷ [])
extends_one order entry = record { more = entry ∷ []; is = refl }

pub extends_then : (a b c : List ℕ) → Extends a b → Extends b c → Extends a c
extends_then a b c x y = record { more = x.more ++ y.more; is = y.is ∙ ap (λ l. l ++ y.more) x.is ∙ append_assoc a x.more y.more }

pub extends_length : (a b : List ℕ) → Extends a b → length a ≤ length b
extends_length a b x = omega (arith, ap length x.is, length-append a x.more)

pub extends_at : (a b : List ℕ) (i : ℕ) → Extends a b → i < length a → get_or b i 0 ≡ get_or a i 0
extends_at a b i x lt = ap (λ l. get_or l i 0) x.is ∙ get_or_append_left a x.more 0 i lt

-- renumbered lines stay so while more entries are met
pub zip_extends : (a b : List ℕ) (ls ms : List Line) → Extends a b → AllZip (IsRenumbered a) ls ms → AllZip (IsRenumbered b) ls ms
zip_extends a b [] [] x z = tt
zip_extends a b [] (m ∷ ms) x z = absurd z
zip_extends a b (l ∷ ls) [] x z = absurd z
zip_extends a b (l ∷ ls) (m ∷ ms) x z = (
  record { when = z.0.when; own = z.0.own; within = omega (arith, extends_length a b x, z.0.within); next = extends_at a b m.next x z.0.within ∙ z.0.next },
  zip_extends a b ls ms x z.1,
)

zip_ranged : (own others count : ℕ) (order : List ℕ) (ls ms : List Line) → AllZip (IsRenumbered order) ls ms → All (IsLine own others count) ls → All (IsLine own others (length order)) ms
zip_ranged own others count order [] [] z all = All-nil (IsLine own others (length order))
zip_ranged own others count order [] (m ∷ ms) z all = absurd z
zip_ranged own others count order (l ∷ ls) [] z all = absurd z
zip_ranged own others count order (l ∷ ls) (m ∷ ms) z all =
    let h = All-head (IsLine own others count) l ls all in
    All-cons (IsLine own others (length order)) m ms
    (subst (IsCube others) (sym z.0.when) h.0, subst (λ n. n < 2 ^ own) (sym z.0.own) h.1, z.0.within)
    (zip_ranged own others count order ls ms z.1 (All-tail (IsLine own others count) l ls all))

zip_chosen : (order : List ℕ) (ls ms : List Line) (x : ℕ) → AllZip (IsRenumbered order) ls ms → IsSome (choice ls x) → IsSome (choice ms x)
zip_chosen order [] [] x z h = h
zip_chosen order [] (m ∷ ms) x z h = absurd z
zip_chosen order (l ∷ ls) [] x z h = absurd z
zip_chosen order (l ∷ ls) (m ∷ ms) x z h =
    subst (λ c. is_some (cond (holds c x) (Some m) (choice ms x)) ≡ true) (sym z.0.when) (go (holds l.when x) (zip_chosen order ls ms x z.1) h)
  where
    go : (b : Bool) → (IsSome (choice ls x) → IsSome (choice ms x)) → is_some (cond b (Some l) (choice ls x)) ≡ true → is_some (cond b (Some m) (choice ms x)) ≡ true
    go true later is = refl
    go false later is = later is

-- the lines of a state, renumbered
pub state_renumbered : (g : GameData) (count : ℕ) (order : List ℕ) (ls ms : List Line) → ((i j : ℕ) → i < length order → j < length order → get_or order i 0 ≡ get_or order j 0 → i ≡ j)
    → AllZip (IsRenumbered order) ls ms → IsState g count ls → IsState g (length order) ms
state_renumbered g count order ls ms once z state =
    let n = length_all_zip (IsRenumbered order) ls ms z in
    record {
      ranged = zip_ranged (own_width g) (other_width g) count order ls ms z state.ranged;
      decided = λ x lt. zip_chosen order ls ms x z (state.decided x lt);
      first = λ e d i j in_i in_j.
          let at = λ (k : ℕ) (lt : k < length ls). (AllZip-get_or (IsRenumbered order) ls ms k d d z lt).own in
          at i (omega arith) ∙ state.first e d i j (omega arith) (omega arith) ∙ sym (at j (omega arith));
      split = lines_renumbered order once (other_width g) 0 all_cube ls ms z state.split;
    }

-- a state stays one while there are more
pub state_grows : (g : GameData) (a b : ℕ) (lines : List Line) → a ≤ b → IsState g a lines → IsState g b lines
state_grows g a b lines less state = record {
  ranged = All-weaker (IsLine (own_width g) (other_width g) a) (IsLine (own_width g) (other_width g) b) (λ l is. (is.0, is.1, omega (arith, is.2))) lines state.ranged;
  decided = state.decided;
  first = state.first;
  split = state.split;
}

pub states_grow : (g : GameData) (a b : ℕ) (states : List (List Line)) → a ≤ b → All (IsState g a) states → All (IsState g b) states
states_grow g a b states less = All-weaker (IsState g a) (IsState g b) (λ lines. state_grows g a b lines less) states

-- no entry has two numbers
pub walk_once : (count : ℕ) (numbers : List (Option ℕ)) (order : List ℕ) → IsWalk count numbers order → (i j : ℕ) → i < length order → j < length order → get_or order i 0 ≡ get_or order j 0 → i ≡ j
walk_once count numbers order is i j in_i in_j same = same_Some i j (sym (is.ordered i in_i) ∙ ap (lead numbers) same ∙ is.ordered j in_j)

-- numbers in turn behind others
pub turns_then : (a : ℕ) (xs : List ℕ) (b : ℕ) (ys : List ℕ) (c : ℕ) → InTurn a xs b → InTurn b ys c → InTurn a (xs ++ ys) c
turns_then a [] b ys c x y = subst (λ n. InTurn n ys c) x y
turns_then a (n ∷ ns) b ys c x y = (x.0, turns_then (max a (n + 1)) ns b ys c x.1 y)

pub turn_more : (a : ℕ) (lines : List Line) (b c : ℕ) (line : Line) → InTurn a (nexts_of lines) b → line.next ≤ b → c ≡ max b (line.next + 1) → InTurn a (nexts_of (lines ++ line ∷ [])) c
turn_more a lines b c line turns le end =
    subst (λ ns. InTurn a ns c) (sym (map-append (λ (l : Line). l.next) lines (line ∷ []))) (turns_then a (nexts_of lines) b (line.next ∷ []) c turns (le, end))

-- the lines of one more state
pub states_turn : (a : ℕ) (states : List (List Line)) (b c : ℕ) (made : List Line) → InTurn a (flat_map nexts_of states) b → InTurn b (nexts_of made) c → InTurn a (flat_map nexts_of (states ++ made ∷ [])) c
states_turn a states b c made x y = subst (λ ns. InTurn a ns c) (flat_map_more nexts_of [] states made) (turns_then a (flat_map nexts_of states) b (nexts_of made) c x y)
