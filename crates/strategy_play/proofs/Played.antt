-- The states answer while more entries are met.
use Rattle.std.proofs.Common.{◌≡◌, ℕ, ◌<◌, Bool, true, false, cond, List, [], ◌∷◌, ◌++◌, length, get_or, Option, Some, sym, ◌∙◌, ap, subst, arith, inl, inr}
use Rattle.std.specs.Prelude.{ℤ}
use Rattle.std.specs.Option.{IsSomeAnd}
use Rattle.std.specs.List.{All, AllZip}
use Rattle.std.proofs.lemmas.Bool.{cases_lt}
use Rattle.std.proofs.lemmas.List.{get_or_append_left, get_or_push, length_push}
use Rattle.std.proofs.lemmas.List.Elements.{All-head, All-tail, All-get_or}
use Rattle.word_core.specs.declared.machines.Line.{Line}
use Rattle.word_core.specs.Cube.{holds}
use Rattle.word_core.specs.Machine.{choice, IsLine}
use Rattle.game_form.specs.Game.{GameData, own_width, other_width}
use Rattle.strategy_play.specs.Answer.{IsAnswer, Answers}
use Rattle.strategy_play.specs.Lead.{next_at}
use Rattle.strategy_play.specs.State.{IsState}
use Rattle.strategy_play.specs.Strategy.{entry_of_state, AnswersEach}
use Rattle.strategy_play.specs.Walk.{Extends, IsRenumbered}
use Rattle.strategy_play.proofs.Answered.{some_and}
use Rattle.strategy_play.proofs.Walked.{extends_at}

-- the line that decides is one of the lines
pub decides_within : (P Q : Line → Type 0) (lines : List Line) (x : ℕ) → All P lines → IsSomeAnd (choice lines x) Q → IsSomeAnd (choice lines x) (λ l. P l × Q l)
decides_within P Q [] x all h = h
decides_within P Q (l ∷ ls) x all h = go (holds l.when x) (decides_within P Q ls x (All-tail P l ls all)) h
  where
    go : (b : Bool) → (IsSomeAnd (choice ls x) Q → IsSomeAnd (choice ls x) (λ l. P l × Q l)) → IsSomeAnd (cond b (Some l) (choice ls x)) Q → IsSomeAnd (cond b (Some l) (choice ls x)) (λ l. P l × Q l)
    go true later here = (All-head P l ls all, here)
    go false later here = later here

-- renumbered lines answer alike
zip_decides : (g : GameData) (next : ℕ → Option ℕ) (order : List ℕ) (x : ℕ) (ls ms : List Line) → AllZip (IsRenumbered order) ls ms
    → IsSomeAnd (choice ls x) (λ l. IsAnswer g next x l.own l.next) → IsSomeAnd (choice ms x) (λ m. IsAnswer g next x m.own (get_or order m.next 0))
zip_decides g next order x [] [] z h = h
zip_decides g next order x [] (m ∷ ms) z h = absurd z
zip_decides g next order x (l ∷ ls) [] z h = absurd z
zip_decides g next order x (l ∷ ls) (m ∷ ms) z h =
    subst (λ c. IsSomeAnd (cond (holds c x) (Some m) (choice ms x)) (λ m. IsAnswer g next x m.own (get_or order m.next 0))) (sym z.0.when) (go (holds l.when x) (zip_decides g next order x ls ms z.1) h)
  where
    go : (b : Bool) → (IsSomeAnd (choice ls x) (λ l. IsAnswer g next x l.own l.next) → IsSomeAnd (choice ms x) (λ m. IsAnswer g next x m.own (get_or order m.next 0)))
        → IsSomeAnd (cond b (Some l) (choice ls x)) (λ l. IsAnswer g next x l.own l.next) → IsSomeAnd (cond b (Some m) (choice ms x)) (λ m. IsAnswer g next x m.own (get_or order m.next 0))
    go true later here = subst (λ o. IsAnswer g next x o (get_or order m.next 0)) (sym z.0.own) (subst (λ e. IsAnswer g next x l.own e) (sym z.0.next) here)
    go false later here = later here

pub answers_renumbered : (g : GameData) (next : ℕ → Option ℕ) (order : List ℕ) (ls ms : List Line) → AllZip (IsRenumbered order) ls ms → Answers g next (λ n. n) ls → Answers g next (λ n. get_or order n 0) ms
answers_renumbered g next order ls ms z h x in_x = zip_decides g next order x ls ms z (h x in_x)

answers_grow : (g : GameData) (next : ℕ → Option ℕ) (before order : List ℕ) (lines : List Line) → Extends before order → IsState g (length before) lines
    → Answers g next (λ n. get_or before n 0) lines → Answers g next (λ n. get_or order n 0) lines
answers_grow g next before order lines more state h x in_x =
    some_and (choice lines x) (λ l. IsLine (own_width g) (other_width g) (length before) l × IsAnswer g next x l.own (get_or before l.next 0)) (λ l. IsAnswer g next x l.own (get_or order l.next 0))
    (λ l r. subst (λ e. IsAnswer g next x l.own e) (sym (extends_at before order l.next more r.0.2)) r.1)
    (decides_within (IsLine (own_width g) (other_width g) (length before)) (λ l. IsAnswer g next x l.own (get_or before l.next 0)) lines x state.ranged (h x in_x))

-- one more state
pub answers_more : (g : GameData) (entries : List (List ℤ)) (before order : List ℕ) (states : List (List Line)) (made : List Line) → Extends before order → length states < length before
    → All (IsState g (length before)) states → AnswersEach g entries before states
    → Answers g (next_at g entries (entry_of_state entries before (length states))) (λ n. get_or order n 0) made
    → AnswersEach g entries order (states ++ made ∷ [])
answers_more g entries before order states made more seen all old new s lt =
    let size = length_push states made in
    elim (cases_lt s (length states)) [
      | inl earlier ↦ (let same : get_or order s 0 ≡ get_or before s 0 = extends_at before order s more (omega arith) in
          let grown = answers_grow g (next_at g entries (entry_of_state entries before s)) before order (get_or states s []) more (All-get_or (IsState g (length before)) states s [] earlier all) (old s earlier) in
          subst (Answers g (next_at g entries (entry_of_state entries order s)) (λ n. get_or order n 0)) (sym (get_or_append_left states (made ∷ []) [] s earlier))
          (subst (λ e. Answers g (next_at g entries (get_or entries e [])) (λ n. get_or order n 0) (get_or states s [])) (sym same) grown))
      | inr here ↦ (let at : length states ≡ s = omega arith in
          let same : get_or order s 0 ≡ get_or before (length states) 0 = extends_at before order s more (omega arith) ∙ ap (λ i. get_or before i 0) (sym at) in
          subst (Answers g (next_at g entries (entry_of_state entries order s)) (λ n. get_or order n 0)) (sym (get_or_push states made [] s at))
          (subst (λ e. Answers g (next_at g entries (get_or entries e [])) (λ n. get_or order n 0) made) (sym same) new))
    ]
