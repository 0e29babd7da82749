-- What an event does is determined.
use Rattle.std.proofs.Common.{◌≡◌, ℕ, List, Option, Some, None, refl, sym, ◌∙◌, ap, subst, true≢false}
use Rattle.std.specs.Prelude.{ℤ}
use Rattle.game_form.specs.Game.{GameData}
use Rattle.game_core.specs.declared.boards.Committed.{Committed}
use Rattle.game_core.specs.declared.boards.Committed.TheVariants.{Fresh, Replaced, Stale, Gone, Other}
use Rattle.game_core.specs.declared.events.Event.{Event}
use Rattle.game_core.specs.declared.events.Event.TheVariants.{Draw, Claim, Commit}
use Rattle.game_core.specs.declared.events.Played.{Played}
use Rattle.game_core.specs.declared.events.Played.TheVariants.{Done}
use Rattle.game_core.specs.Board.{BoardData, IsAt, IsBoard, IsLeft, IsWork, JobData, OutcomeData}
use Rattle.game_core.specs.Commit.{Commits, exchanged, marked}
use Rattle.game_core.specs.World.{WorldData, Claims, CommitsHeld, Plays, after_commit, job_at, number_at}
use Rattle.game_core.proofs.Exact.{apart_from}
use Rattle.game_core.proofs.Runs.{one_place}
use Rattle.game_core.proofs.Unique.{left_unique}

none_some : {X : Type 0} (o : Option X) (x : X) → o ≡ None → o ≡ Some x → ⊥
none_some o x e f = cc

same_some : {X : Type 0} (o : Option X) (x y : X) → o ≡ Some x → o ≡ Some y → x ≡ y
same_some o x y e f = cc

-- an outcome of a job is one
left_one : (g : GameData) (snapshot : List (List ℤ)) (f : List ℤ) (a b : Option (List (List ℤ))) → IsLeft g snapshot f a → IsLeft g snapshot f b → a ≡ b
left_one g snapshot f None None h k = refl
left_one g snapshot f None (Some b) h k = absurd (true≢false (sym h ∙ k.0))
left_one g snapshot f (Some a) None h k = absurd (true≢false (sym k ∙ h.0))
left_one g snapshot f (Some a) (Some b) h k = ap (λ l. Some l) (left_unique g snapshot f a b h.1 k.1)

pub outcome_same : (g h : GameData) (s t : List (List ℤ)) (f e : List ℤ) (a b : Option (List (List ℤ))) → g ≡ h → s ≡ t → f ≡ e → a ≡ b
    → (let o : OutcomeData = record { game = g; snapshot = s; entry = f; left = a } in o) ≡ (let o : OutcomeData = record { game = h; snapshot = t; entry = e; left = b } in o)
outcome_same g h s t f e a b i j k l = cc

work_one : (j : JobData) (a b : OutcomeData) → IsWork j a → IsWork j b → a ≡ b
work_one j a b h k =
    outcome_same a.game b.game a.snapshot b.snapshot a.entry b.entry a.left b.left (h.game ∙ sym k.game) (h.snapshot ∙ sym k.snapshot) (h.entry ∙ sym k.entry)
    (left_one j.game j.snapshot j.entry a.left b.left h.left k.left)

exchanged_same : (b : BoardData) (i j : ℕ) (l m : List (List ℤ)) → i ≡ j → l ≡ m → exchanged b i l ≡ exchanged b j m
exchanged_same b i j l m e f = ap (λ k. exchanged b k l) e ∙ ap (λ n. exchanged b j n) f

module _ (b : BoardData) (o : OutcomeData) (x y : BoardData) (is : IsBoard b) where
  one_at : (i j : ℕ) → IsAt b.list i o.entry → IsAt b.list j o.entry → i ≡ j
  one_at i j h k = one_place b.list i j (apart_from b.list is.antichain) h.0 k.0 (h.1 ∙ sym k.1)

  pub commits_one : (done said : Committed) → Commits b o x done → Commits b o y said → (x ≡ y) × (done ≡ said)
  commits_one Fresh Fresh h k = (h.3.2 ∙ ap (marked b) (one_at h.3.0 k.3.0 h.3.1 k.3.1) ∙ sym k.3.2, refl)
  commits_one Fresh Replaced h k = absurd (none_some o.left k.1.2.0 h.1 k.1.2.1)
  commits_one Fresh Stale h k = absurd (k.2 h.2)
  commits_one Fresh Gone h k = absurd (k.1 h.3.0 h.3.1.0 h.3.1.1)
  commits_one Fresh Other h k = absurd (k.0 h.0)
  commits_one Replaced Fresh h k = absurd (none_some o.left h.1.2.0 k.1 h.1.2.1)
  commits_one Replaced Replaced h k =
      (h.1.2.2 ∙ exchanged_same b h.1.0 k.1.0 h.1.2.0 k.1.2.0 (one_at h.1.0 k.1.0 h.1.1 k.1.1) (same_some o.left h.1.2.0 k.1.2.0 h.1.2.1 k.1.2.1) ∙ sym k.1.2.2, refl)
  commits_one Replaced Stale h k = absurd (none_some o.left h.1.2.0 k.1 h.1.2.1)
  commits_one Replaced Gone h k = absurd (k.1 h.1.0 h.1.1.0 h.1.1.1)
  commits_one Replaced Other h k = absurd (k.0 h.0)
  commits_one Stale Fresh h k = absurd (h.2 k.2)
  commits_one Stale Replaced h k = absurd (none_some o.left k.1.2.0 h.1 k.1.2.1)
  commits_one Stale Stale h k = (h.4 ∙ sym k.4, refl)
  commits_one Stale Gone h k = absurd (k.1 h.3.0 h.3.1.0 h.3.1.1)
  commits_one Stale Other h k = absurd (k.0 h.0)
  commits_one Gone Fresh h k = absurd (h.1 k.3.0 k.3.1.0 k.3.1.1)
  commits_one Gone Replaced h k = absurd (h.1 k.1.0 k.1.1.0 k.1.1.1)
  commits_one Gone Stale h k = absurd (h.1 k.3.0 k.3.1.0 k.3.1.1)
  commits_one Gone Gone h k = (h.2 ∙ sym k.2, refl)
  commits_one Gone Other h k = absurd (k.0 h.0)
  commits_one Other Fresh h k = absurd (h.0 k.0)
  commits_one Other Replaced h k = absurd (h.0 k.0)
  commits_one Other Stale h k = absurd (h.0 k.0)
  commits_one Other Gone h k = absurd (h.0 k.0)
  commits_one Other Other h k = (h.1 ∙ sym k.1, refl)

claims_one : (w : WorldData) (worker : ℕ) (number : Option ℕ) (x y : WorldData) (p q : Played) → Claims w worker number x p → Claims w worker number y q → (x ≡ y) × (p ≡ q)
claims_one w worker None x y p q h k = (h.0 ∙ sym k.0, h.1 ∙ sym k.1)
claims_one w worker (Some number) x y p q h k = (h.0 ∙ sym k.0, h.1 ∙ sym k.1)

held_one : (w : WorldData) (worker : ℕ) (job : Option JobData) (x y : WorldData) (p q : Played) → IsBoard w.board → CommitsHeld w worker job x p → CommitsHeld w worker job y q → (x ≡ y) × (p ≡ q)
held_one w worker None x y p q is h k = (h.0 ∙ sym k.0, h.1 ∙ sym k.1)
held_one w worker (Some job) x y p q is h k =
    let same : h.outcome ≡ k.outcome = work_one job h.outcome k.outcome h.work k.work in
    let one = commits_one w.board h.outcome x.board y.board is h.done k.done h.commits (subst (λ o. Commits w.board o y.board k.done) (sym same) k.commits) in
    (h.now ∙ ap (after_commit w worker) one.0 ∙ sym k.now, h.says ∙ ap (λ d. Done d) one.1 ∙ sym k.says)

pub plays_one : (w : WorldData) (e : Event) (x y : WorldData) (p q : Played) → IsBoard w.board → Plays w e x p → Plays w e y q → (x ≡ y) × (p ≡ q)
plays_one w (Draw worker) x y p q is h k = (h.0 ∙ sym k.0, h.1 ∙ sym k.1)
plays_one w (Claim worker) x y p q is h k = claims_one w worker (number_at w worker) x y p q h k
plays_one w (Commit worker) x y p q is h k = held_one w worker (job_at w worker) x y p q is h k
