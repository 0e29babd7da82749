-- The numbers of rows are those of the steps from which they are made.
use Rattle.std.proofs.Common.{◌≡◌, ℕ, zero, suc, ◌+◌, ◌-◌, ◌<◌, ◌≤◌, ◌⊎◌, inl, inr, Bool, true, false, cond, eqb, ◌&&◌, List, [], ◌∷◌, ◌++◌, length, get_or, drop, max, refl, sym, ap, ◌∙◌, subst, arith}
use Rattle.std.specs.Prelude.{nat_eq, if◌then◌else◌}
use Rattle.std.specs.List.{AllPairs}
use Rattle.std.proofs.lemmas.Bool.{cases_eq, cases_lt}
use Rattle.std.proofs.lemmas.Bool.Decides.{Decides-eqb}
use Rattle.std.proofs.lemmas.List.{drop_all, get_or_append_left, get_or_push, length_push}
use Rattle.game_form.specs.declared.actions.Step.{Step}
use Rattle.game_form.specs.Vector.{number, size_of}
use Rattle.action_groups.specs.Row.{EndsBelow}
use Rattle.action_groups.specs.Made.{AreLater, IsRowOf}
use Rattle.action_groups.specs.Numbers.{step_number, steps_number, mark_number}
use Rattle.action_groups.specs.Way.{IsBefore}
use Rattle.action_groups.proofs.Steps.{step_at, numbers_drop}

pub apart : (a b : ℕ) → (a ≡ b → ⊥) → nat_eq a b ≡ false
apart a b n = go (eqb a b) refl
  where
    go : (t : Bool) → eqb a b ≡ t → eqb a b ≡ false
    go true e = absurd (n ((Decides-eqb a b).0 e))
    go false e = e

-- what one step brings to the row's number at a lane
abbrev pub end_number : Step → ℕ → ℕ
end_number s p = if nat_eq s.to p then size_of s.number else 0

pub number_pushed : (next : ℕ) (row : List Step) (s : Step) (p : ℕ) → EndsBelow next row → next ≤ s.to → number (row ++ s ∷ []) p ≡ max (number row p) (end_number s p)
number_pushed next [] s p e le = none (end_number s p)
  where
    none : (n : ℕ) → n ≡ max 0 n
    none n = omega arith
number_pushed next (x ∷ row) s p e le = go (number_pushed next row s p e.1 le) (cases_eq x.to p)
  where
    alone : (n : ℕ) → n ≡ max n 0
    alone n = omega arith

    go : number (row ++ s ∷ []) p ≡ max (number row p) (end_number s p) → (x.to ≡ p) ⊎ (x.to ≡ p → ⊥) → number ((x ∷ row) ++ s ∷ []) p ≡ max (number (x ∷ row) p) (end_number s p)
    go r (inl f) =
        let t : nat_eq x.to p ≡ true = (Decides-eqb x.to p).1 f in
        let first : x.to < next = e.0 in
        let other : s.to ≡ p → ⊥ = λ g. omega arith in
        let off : nat_eq s.to p ≡ false = apart s.to p other in
        ap (λ b. cond b (size_of x.number) (number (row ++ s ∷ []) p)) t
        ∙ alone (size_of x.number)
        ∙ sym (ap (λ b. max (cond b (size_of x.number) (number row p)) (end_number s p)) t ∙ ap (λ b. max (size_of x.number) (cond b (size_of s.number) 0)) off)
    go r (inr n) =
        let f : nat_eq x.to p ≡ false = apart x.to p n in
        ap (λ b. cond b (size_of x.number) (number (row ++ s ∷ []) p)) f
        ∙ r
        ∙ sym (ap (λ b. max (cond b (size_of x.number) (number row p)) (end_number s p)) f)

-- a step of the lane brings what its end does, and one of another lane nothing
pub here_number : (s : ℕ × ℕ × Bool) (q p : ℕ) → s.0 ≡ q → step_number s q p ≡ (if nat_eq s.1 p then mark_number s.2 else 0)
here_number s q p e = ap (λ b. cond (b && nat_eq s.1 p) (mark_number s.2) 0) ((Decides-eqb s.0 q).1 e)

pub there_number : (s : ℕ × ℕ × Bool) (q p : ℕ) → (s.0 ≡ q → ⊥) → step_number s q p ≡ 0
there_number s q p n = ap (λ b. cond (b && nat_eq s.1 p) (mark_number s.2) 0) (apart s.0 q n)

none_left : (steps : List (ℕ × ℕ × Bool)) (q p n i : ℕ) → length steps - i ≤ n → ((k : ℕ) → i ≤ k → k < length steps → (step_at steps k).0 ≡ q → ⊥) → steps_number (drop i steps) q p ≡ 0
none_left steps q p zero i le h = ap (λ (l : List (ℕ × ℕ × Bool)). steps_number l q p) (drop_all i steps (omega arith))
none_left steps q p (suc n) i le h = go (λ l. none_left steps q p n (i + 1) (omega arith) (λ k lk inside. h k (omega arith) inside)) (cases_lt i (length steps))
  where
    both : (a b : ℕ) → a ≡ 0 → b ≡ 0 → max a b ≡ 0
    both a b e f = omega arith

    go : (i < length steps → steps_number (drop (i + 1) steps) q p ≡ 0) → (i < length steps) ⊎ (length steps ≤ i) → steps_number (drop i steps) q p ≡ 0
    go r (inl l) =
        numbers_drop steps i q p l
        ∙ both (step_number (step_at steps i) q p) (steps_number (drop (i + 1) steps) q p)
        (there_number (step_at steps i) q p (h i (omega arith) l))
        (r l)
    go r (inr l) = ap (λ (s : List (ℕ × ℕ × Bool)). steps_number s q p) (drop_all i steps l)

-- the row of a lane, as far as a place of the steps
pub record IsRowUpto (steps : List (ℕ × ℕ × Bool)) (at lane i next : ℕ) (row : List Step) : Type 0 where
  pub numbers : (p : ℕ) → max (number row p) (steps_number (drop i steps) lane p) ≡ steps_number (drop at steps) lane p
  pub others : (q p : ℕ) → (lane ≡ q → ⊥) → steps_number (drop i steps) q p ≡ steps_number (drop at steps) q p
  pub ends : EndsBelow next row
  pub ahead : i < length steps → (step_at steps i).0 ≡ lane → next ≤ (step_at steps i).1

pub row_start : (steps : List (ℕ × ℕ × Bool)) (at lane : ℕ) → IsRowUpto steps at lane at 0 []
row_start steps at lane = record {
  numbers = λ p. none (steps_number (drop at steps) lane p);
  others = λ q p n. refl;
  ends = tt;
  ahead = λ l e. omega arith;
}
  where
    none : (n : ℕ) → max 0 n ≡ n
    none n = omega arith

pub row_more : (steps : List (ℕ × ℕ × Bool)) (at lane i next : ℕ) (row now : List Step) → AllPairs IsBefore steps → i < length steps → (step_at steps i).0 ≡ lane → ((p : ℕ) → number now p ≡ max (number row p) (if nat_eq (step_at steps i).1 p then mark_number (step_at steps i).2 else 0)) → EndsBelow ((step_at steps i).1 + 1) now → IsRowUpto steps at lane i next row → IsRowUpto steps at lane (i + 1) ((step_at steps i).1 + 1) now
row_more steps at lane i next row now up lt e numbers ends h = record {
  numbers = λ p.
      regroup (number now p) (number row p) (if nat_eq (step_at steps i).1 p then mark_number (step_at steps i).2 else 0) (steps_number (drop (i + 1) steps) lane p) (steps_number (drop i steps) lane p) (steps_number (drop at steps) lane p)
      (numbers p) (numbers_drop steps i lane p lt ∙ ap (λ n. max n (steps_number (drop (i + 1) steps) lane p)) (here_number (step_at steps i) lane p e)) (h.numbers p);
  others = λ q p n.
      rest (step_number (step_at steps i) q p) (steps_number (drop (i + 1) steps) q p) (steps_number (drop i steps) q p)
      (there_number (step_at steps i) q p (λ f. n (sym e ∙ f))) (numbers_drop steps i q p lt)
      ∙ h.others q p n;
  ends = ends;
  ahead = λ l f. after (up i (i + 1) (0, 0, false) (omega arith) l) f;
}
  where
    regroup : (a b c d f g : ℕ) → a ≡ max b c → f ≡ max c d → max b f ≡ g → max a d ≡ g
    regroup a b c d f g x y z = omega arith

    rest : (a b c : ℕ) → a ≡ 0 → c ≡ max a b → b ≡ c
    rest a b c x y = omega arith

    after : IsBefore (step_at steps i) (step_at steps (i + 1)) → (step_at steps (i + 1)).0 ≡ lane → (step_at steps i).1 + 1 ≤ (step_at steps (i + 1)).1
    after (inl b) f = absurd (omega arith)
    after (inr b) f = omega (arith, b.1)

rising_from : (steps : List (ℕ × ℕ × Bool)) (i k : ℕ) → AllPairs IsBefore steps → i ≤ k → k < length steps → (step_at steps i).0 ≤ (step_at steps k).0
rising_from steps i k up le lt = go (cases_lt i k)
  where
    before : (s t : ℕ × ℕ × Bool) → IsBefore s t → s.0 ≤ t.0
    before s t (inl b) = omega arith
    before s t (inr b) = omega (arith, b.0)

    go : (i < k) ⊎ (k ≤ i) → (step_at steps i).0 ≤ (step_at steps k).0
    go (inl l) = before (step_at steps i) (step_at steps k) (up i k (0, 0, false) l lt)
    go (inr l) = (let e : k ≡ i = omega arith in subst (λ n. (step_at steps i).0 ≤ (step_at steps n).0) (sym e) (omega arith))

row_done : (steps : List (ℕ × ℕ × Bool)) (at lane i next : ℕ) (row : List Step) → AreLater steps i (lane + 1) → IsRowUpto steps at lane i next row → IsRowOf steps at lane row i
row_done steps at lane i next row later h = record {
  numbers = λ p. alone (number row p) (steps_number (drop i steps) lane p) (steps_number (drop at steps) lane p)
      (none_left steps lane p (length steps) i (omega arith) (λ k le lt e. (let l = later k le lt in omega arith))) (h.numbers p);
  others = h.others;
  later = later;
}
  where
    alone : (a b d : ℕ) → b ≡ 0 → max a b ≡ d → a ≡ d
    alone a b d e f = omega arith

pub row_stopped : (steps : List (ℕ × ℕ × Bool)) (at lane i next : ℕ) (row : List Step) → AllPairs IsBefore steps → AreLater steps at lane → at ≤ i → i < length steps → ((step_at steps i).0 ≡ lane → ⊥) → IsRowUpto steps at lane i next row → IsRowOf steps at lane row i
row_stopped steps at lane i next row up later le lt n h =
    let first : lane ≤ (step_at steps i).0 = later i le lt in
    let above : lane < (step_at steps i).0 = strict (step_at steps i).0 first n in
    row_done steps at lane i next row (λ k lk inside. (let r = rising_from steps i k up lk inside in omega arith)) h
  where
    strict : (m : ℕ) → lane ≤ m → (m ≡ lane → ⊥) → lane < m
    strict m l k = go (cases_lt lane m)
      where
        go : (lane < m) ⊎ (m ≤ lane) → lane < m
        go (inl a) = a
        go (inr b) = absurd (k (omega arith))

pub row_ended : (steps : List (ℕ × ℕ × Bool)) (at lane i next : ℕ) (row : List Step) → length steps ≤ i → IsRowUpto steps at lane i next row → IsRowOf steps at lane row (length steps)
row_ended steps at lane i next row le h =
    let done : IsRowOf steps at lane row i = row_done steps at lane i next row (λ k lk inside. absurd (omega arith)) h in
    record {
      numbers = done.numbers;
      others = λ q p n. same q p ∙ done.others q p n;
      later = λ k lk inside. absurd (omega arith);
    }
  where
    same : (q p : ℕ) → steps_number (drop (length steps) steps) q p ≡ steps_number (drop i steps) q p
    same q p =
        ap (λ (l : List (ℕ × ℕ × Bool)). steps_number l q p) (drop_all (length steps) steps (omega arith))
        ∙ sym (ap (λ (l : List (ℕ × ℕ × Bool)). steps_number l q p) (drop_all i steps le))

-- the rows of the first lanes
pub record AreRowsUpto (steps : List (ℕ × ℕ × Bool)) (at lane : ℕ) (rows : List (List Step)) : Type 0 where
  pub each : (q p : ℕ) → q < length rows → number (get_or rows q []) p ≡ steps_number steps q p
  pub rest : (q p : ℕ) → lane ≤ q → steps_number (drop at steps) q p ≡ steps_number steps q p
  pub later : AreLater steps at lane

pub rows_start : (steps : List (ℕ × ℕ × Bool)) → AreRowsUpto steps 0 0 []
rows_start steps = record {
  each = λ q p lt. absurd (omega arith);
  rest = λ q p le. refl;
  later = λ k le lt. omega arith;
}

pub rows_more : (steps : List (ℕ × ℕ × Bool)) (at lane behind : ℕ) (rows now : List (List Step)) (row : List Step) → length rows ≡ lane → now ≡ rows ++ row ∷ [] → IsRowOf steps at lane row behind → AreRowsUpto steps at lane rows → AreRowsUpto steps behind (lane + 1) now
rows_more steps at lane behind rows now row size en r h = record {
  each = λ q p lt. subst (λ (l : List (List Step)). number (get_or l q []) p ≡ steps_number steps q p) (sym en) (go q p (cases_lt q (length rows)) (subst (λ (l : List (List Step)). q < length l) en lt));
  rest = λ q p le. r.others q p (λ e. omega arith) ∙ h.rest q p (omega arith);
  later = r.later;
}
  where
    go : (q p : ℕ) → (q < length rows) ⊎ (length rows ≤ q) → q < length (rows ++ row ∷ []) → number (get_or (rows ++ row ∷ []) q []) p ≡ steps_number steps q p
    go q p (inl l) lt = ap (λ (x : List Step). number x p) (get_or_append_left rows (row ∷ []) [] q l) ∙ h.each q p l
    go q p (inr l) lt =
        let long : length (rows ++ row ∷ []) ≡ length rows + 1 = length_push rows row in
        let at_end : length rows ≡ q = omega arith in
        let same : q ≡ lane = omega arith in
        ap (λ (x : List Step). number x p) (get_or_push rows row [] q at_end)
        ∙ r.numbers p
        ∙ h.rest lane p (omega arith)
        ∙ ap (λ n. steps_number steps n p) (sym same)
