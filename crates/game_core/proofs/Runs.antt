-- What a commit does with the outcome of a board's first job.
use Rattle.std.proofs.Common.{◌≡◌, ◌⊎◌, inl, inr, ℕ, zero, suc, ◌<◌, ◌≤◌, ◌%◌, Bool, true, false, ◌&&◌, ◌||◌, List, [], ◌∷◌, ◌++◌, length, Option, Some, refl, sym, ◌∙◌, ap, subst, arith, true≢false, append-nil, append_assoc}
use Rattle.std.specs.Prelude.{ℤ, slice_index_or, slice_set}
use Rattle.std.specs.List.{All, AllPairs, remove}
use Rattle.std.proofs.Math.Nat.{mod-lt}
use Rattle.std.proofs.lemmas.Bool.{cases_lt}
use Rattle.std.proofs.lemmas.List.{get_or_default}
use Rattle.std.proofs.lemmas.List.Elements.{All-from_recursion, recursion_from_All}
use Rattle.std.proofs.lemmas.List.Folds.{list_any_none}
use Rattle.counter_vec.specs.Counters.{at_or_below}
use Rattle.counter_vec.specs.Orders.{below-refl}
use Rattle.game_form.specs.Game.{GameData, IsGame, lanes}
use Rattle.game_form.specs.Vector.{IsVector, bound}
use Rattle.cpre_step.specs.Refinement.{AreLeft, answers}
use Rattle.game_core.specs.declared.boards.Committed.TheVariants.{Fresh, Replaced}
use Rattle.game_core.specs.Board.{BoardData, IsAt, IsBoard, IsLeft, OutcomeData, entry_at, mark_at, open_count, open_place, puts, replaced}
use Rattle.game_core.specs.Commit.{Commits}
use Rattle.game_core.specs.Front.{IsApart, extent, under}
use Rattle.game_core.specs.Journal.{Ends, GoesOn, IsNext, IsRun, StepData, run_ends, run_keeps, run_replaces}
use Rattle.game_core.specs.Remains.{KeepsAnswered}
use Rattle.game_core.specs.Rounds.{Leads, Stopped, steps_by, steps_of}
use Rattle.game_core.specs.Solved.{Covers}
use Rattle.game_core.proofs.Boarded.{left_covers}
use Rattle.game_core.proofs.Exact.{apart_from}
use Rattle.game_core.proofs.Greatest.{covers_kept, under_removed}
use Rattle.game_core.proofs.Kept.{all_puts}
use Rattle.game_core.proofs.Replacements.{exchange_falls, misses_rest, under_more, under_self}
use Rattle.game_core.proofs.Settled.{covered-puts}
use Rattle.game_core.proofs.Unders.{misses_from}

or_true : (a b : Bool) → b ≡ true → (a || b) ≡ true
or_true true b h = refl
or_true false b h = h

left_part : (a b : Bool) → (a && b) ≡ true → a ≡ true
left_part true b h = refl
left_part false b h = h

and_false : (a b : Bool) → b ≡ false → (a && b) ≡ false
and_false true b h = h
and_false false b h = refl

or_false : (a b : Bool) → a ≡ false → b ≡ false → (a || b) ≡ false
or_false a b h k = rw (h, k) refl

-- what is left of an entry under the present list takes its place
module _ (g : GameData) (known : IsGame g) (vs left : List (List ℤ)) (place : ℕ) (f : List ℤ) (vectors : All (IsVector g) vs) (apart : AllPairs IsApart vs) (at : IsAt vs place f)
    (failed : answers g vs f ≡ false) (is_left : AreLeft g vs f left) where
  same : f ≡ slice_index_or vs place f
  same = sym at.1 ∙ get_or_default vs place [] f at.0

  rest : List (List ℤ)
  rest = remove vs place

  vector : IsVector g f
  vector = subst (IsVector g) at.1 (vectors place [] at.0)

  missed : under (replaced vs place left) f ≡ false
  missed =
      covered-puts f (remove vs place) left
      ∙ or_false (under (remove vs place) f) (under left f)
      (list_any_none (λ e. at_or_below f e) (remove vs place) (misses_rest vs place f at.0 same apart))
      (is_left.covers f vector ∙ and_false (at_or_below f f) (answers g vs f) failed)

  abbrev Under : List ℤ → Type 0
  Under e = under (f ∷ remove vs place) e ≡ true

  piece_under : (e : List ℤ) → IsVector g e → under left e ≡ true → Under e
  piece_under e is hit =
      let below : at_or_below e f ≡ true = left_part (at_or_below e f) (answers g vs e) (sym (is_left.covers e is) ∙ hit) in
      ap (λ b. b || under (remove vs place) e) below

  all_under : All Under (replaced vs place left)
  all_under =
      All-from_recursion Under (puts (remove vs place) left)
      (all_puts Under (remove vs place) left (recursion_from_All Under (remove vs place) (under_more f (remove vs place)))
      (recursion_from_All Under left (λ k d lt. piece_under (slice_index_or left k d) (All-from_recursion (IsVector g) left is_left.vectors k d lt) (under_self left k d lt))))

  pub replaced_falls : extent (bound g) (lanes g) (replaced vs place left) < extent (bound g) (lanes g) vs
  replaced_falls = exchange_falls g vs (replaced vs place left) place f known vectors at.0 same (misses_from f (replaced vs place left) missed) all_under

  go : (b : Bool) (u : List ℤ) → IsVector g u → answers g vs u ≡ true → (b || at_or_below u f) ≡ true → (b || under left u) ≡ true
  go true u is answered h = refl
  go false u is answered h = left_covers (at_or_below u f) (answers g vs u) (under left u) (is_left.covers u is) h answered

  keeps : KeepsAnswered g vs (replaced vs place left)
  keeps u is hit answered =
      covered-puts u (remove vs place) left
      ∙ go (under (remove vs place) u) u is answered (sym (under_removed u vs place f at.0 same) ∙ hit)

  pub replaced_covers : Covers g vs → Covers g (replaced vs place left)
  replaced_covers covers = covers_kept g known vs (replaced vs place left) covers keeps

-- the entry number n among those that aren't fresh isn't fresh
pub place_open : (marks : List Bool) (n : ℕ) → n < open_count marks → (open_place marks n < length marks) × (mark_at marks (open_place marks n) ≡ false)
place_open [] n h = absurd (omega arith)
place_open (true ∷ marks) n h = let r = place_open marks n h in (omega (arith, r.0), r.1)
place_open (false ∷ marks) zero h = (omega arith, refl)
place_open (false ∷ marks) (suc n) h = let r = place_open marks n (omega arith) in (omega (arith, r.0), r.1)

pub count_falls : (marks : List Bool) (p : ℕ) → p < length marks → mark_at marks p ≡ false → open_count (slice_set marks p true) < open_count marks
count_falls [] p lt h = absurd (omega arith)
count_falls (true ∷ marks) zero lt h = absurd (true≢false h)
count_falls (false ∷ marks) zero lt h = omega arith
count_falls (true ∷ marks) (suc p) lt h = count_falls marks p (omega arith) h
count_falls (false ∷ marks) (suc p) lt h = let r = count_falls marks p (omega arith) h in omega (arith, r)

-- each entry stands at one place
pub one_place : (vs : List (List ℤ)) (i j : ℕ) → AllPairs IsApart vs → i < length vs → j < length vs → entry_at vs i ≡ entry_at vs j → i ≡ j
one_place vs i j apart in_i in_j e = go (cases_lt i j)
  where
    below : at_or_below (entry_at vs i) (entry_at vs j) ≡ true
    below = ap (at_or_below (entry_at vs i)) (sym e) ∙ below-refl (entry_at vs i)

    back : (j < i) ⊎ (i ≤ j) → j ≤ i → i ≡ j
    back (inl less) le = absurd (true≢false (sym below ∙ (apart j i [] less in_i).1))
    back (inr ge) le = omega arith

    go : (i < j) ⊎ (j ≤ i) → i ≡ j
    go (inl less) = absurd (true≢false (sym below ∙ (apart i j [] less in_j).0))
    go (inr le) = back (cases_lt j i) le

lead_on : (steps more rest all : List StepData) (s : StepData) → more ≡ steps ++ s ∷ [] → steps ++ s ∷ rest ≡ more ++ rest
lead_on steps more rest all s e = sym (append_assoc steps (s ∷ []) rest) ∙ ap (λ (xs : List StepData). xs ++ rest) (sym e)

module _ (b : BoardData) (o : OutcomeData) (after : BoardData) (known : IsGame b.game) (is : IsBoard b) (next : IsNext b o) where
  abbrev number : ℕ
  number = 0 % open_count b.marks

  in_count : number < open_count b.marks
  in_count = mod-lt 0 next.some

  place_is : (open_place b.marks number < length b.marks) × (mark_at b.marks (open_place b.marks number) ≡ false)
  place_is = place_open b.marks number in_count

  in_list : open_place b.marks number < length b.list
  in_list = let n = is.marks in let p = place_is in omega (arith, p.0)

  left_is : (left : List (List ℤ)) → o.left ≡ Some left → (answers b.game b.list o.entry ≡ false) × AreLeft b.game b.list o.entry left
  left_is left e =
      let P : List ℤ → Option (List (List ℤ)) → Type 0 = λ f l. IsLeft b.game b.list f l in
      subst (λ f. P f (Some left)) (sym next.work.entry) (subst (P (entry_at b.list (open_place b.marks number))) e next.work.left)

  pub falls : Commits b o after Replaced → extent (bound b.game) (lanes b.game) after.list < extent (bound b.game) (lanes b.game) b.list
  falls h =
      let l = left_is h.1.2.0 h.1.2.1 in
      subst (λ (a : BoardData). extent (bound b.game) (lanes b.game) a.list < extent (bound b.game) (lanes b.game) b.list) (sym h.1.2.2)
      (replaced_falls b.game known b.list h.1.2.0 h.1.0 o.entry (All-from_recursion (IsVector b.game) b.list is.vectors) (apart_from b.list is.antichain) h.1.1 l.0 l.1)

  pub covers_after : Commits b o after Replaced → Covers b.game b.list → Covers b.game after.list
  covers_after h covers =
      let l = left_is h.1.2.0 h.1.2.1 in
      subst (λ (a : BoardData). Covers b.game a.list) (sym h.1.2.2)
      (replaced_covers b.game known b.list h.1.2.0 h.1.0 o.entry (All-from_recursion (IsVector b.game) b.list is.vectors) (apart_from b.list is.antichain) h.1.1 l.0 l.1 covers)

  pub marks_after : Commits b o after Fresh → open_count after.marks < open_count b.marks
  marks_after h =
      let e : h.3.0 ≡ open_place b.marks number =
      one_place b.list h.3.0 (open_place b.marks number) (apart_from b.list is.antichain) h.3.1.0 in_list (h.3.1.1 ∙ next.work.entry) in
      let p = place_is in
      subst (λ (a : BoardData). open_count a.marks < open_count b.marks) (sym h.3.2)
      (subst (λ i. open_count (slice_set b.marks i true) < open_count b.marks) (sym e) (count_falls b.marks (open_place b.marks number) p.0 p.1))

  pub lead_fresh : (whole : Bool) (steps more : List StepData) → GoesOn whole b → more ≡ steps ++ steps_of o → Commits b o after Fresh → Leads whole b steps after more
  lead_fresh whole steps more goes e h = λ rest last run.
      let none : steps_of o ≡ [] = (let P : Option (List (List ℤ)) → Type 0 = λ l. steps_by o.entry l ≡ [] in subst P (sym h.1) refl) in
      (rest, run_keeps b after last o rest goes next h run, ap (λ (xs : List StepData). xs ++ rest) (sym (e ∙ ap (λ xs. steps ++ xs) none ∙ append-nil steps)))

  pub lead_replaced : (whole : Bool) (steps more : List StepData) → GoesOn whole b → more ≡ steps ++ steps_of o → Commits b o after Replaced → Leads whole b steps after more
  lead_replaced whole steps more goes e h = λ rest last run.
      let s : StepData = record { taken = o.entry; put = h.1.2.0 } in
      let one : steps_of o ≡ s ∷ [] = ap (steps_by o.entry) h.1.2.1 in
      (s ∷ rest, run_replaces b after last o h.1.2.0 rest goes next h.1.2.1 h run, lead_on steps more rest [] s (e ∙ ap (λ xs. steps ++ xs) one))

-- runs one after another
pub lead_none : (whole : Bool) (b : BoardData) (steps : List StepData) → Leads whole b steps b steps
lead_none whole b steps = λ rest last run. (rest, run, refl)

pub lead_both : (whole : Bool) (b c d : BoardData) (steps more all : List StepData) → Leads whole b steps c more → Leads whole c more d all → Leads whole b steps d all
lead_both whole b c d steps more all h k = λ rest last run.
    let r = k rest last run in
    let s = h r.0 last r.1 in
    (s.0, s.1, s.2 ∙ r.2)

pub journal_of : (whole : Bool) (b last : BoardData) (steps more : List StepData) → steps ≡ [] → Leads whole b steps last more → Ends whole last → IsRun whole b more last
journal_of whole b last steps more none leads ends =
    let r = leads [] last (run_ends last ends) in
    let all : r.0 ≡ more = ap (λ (xs : List StepData). xs ++ r.0) (sym none) ∙ r.2 ∙ append-nil more in
    subst (λ (xs : List StepData). IsRun whole b xs last) all r.1

pub stopped_ends : (whole lost : Bool) (b : BoardData) → Stopped whole lost b → Ends whole b
stopped_ends whole true b h = inr h
stopped_ends whole false b h = inl h.0
