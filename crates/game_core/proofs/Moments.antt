-- What is known of worlds stays so with each event.
use Rattle.std.proofs.Common.{◌≡◌, ℕ, zero, suc, ◌<◌, ◌%◌, Bool, true, false, cond, List, [], ◌∷◌, length, replicate, Option, Some, None, IfSome, refl, sym, ◌∙◌, subst, arith, length-set}
use Rattle.std.specs.Prelude.{ℤ, slice_index_or}
use Rattle.std.specs.List.{All, remove}
use Rattle.std.proofs.Math.Nat.{mod-lt}
use Rattle.std.proofs.lemmas.List.{get_or_default}
use Rattle.std.proofs.lemmas.List.Elements.{All-cons, All-from_recursion, All-set}
use Rattle.antichain_list.specs.Antichain.{IsAntichain, added, covered, placed, without_below}
use Rattle.antichain_list.proofs.Antichains.{IsAntichain-put, IsAntichain-remove}
use Rattle.counter_vec.specs.Counters.{at_or_below, lexicographic}
use Rattle.counter_vec.specs.Orders.{counters_order}
use Rattle.game_form.specs.Game.{GameData, IsGame}
use Rattle.game_form.specs.Vector.{IsVector}
use Rattle.cpre_step.specs.Refinement.{AreLeft, answers}
use Rattle.game_core.specs.declared.boards.Committed.{Committed}
use Rattle.game_core.specs.declared.boards.Committed.TheVariants.{Fresh, Replaced, Stale, Gone, Other}
use Rattle.game_core.specs.declared.events.Event.{Event}
use Rattle.game_core.specs.declared.events.Event.TheVariants.{Draw, Claim, Commit}
use Rattle.game_core.specs.declared.events.Played.{Played}
use Rattle.game_core.specs.Board.{BoardData, CoversHeld, IsBoard, IsJob, IsLeft, IsOutcome, IsWork, JobData, OutcomeData, job_of, open_count, open_place, puts, replaced}
use Rattle.game_core.specs.Commit.{Commits}
use Rattle.game_core.specs.World.{IsSound, WorldData, Claims, CommitsHeld, Plays, Replays, claim_by, claim_of, job_at, no_event, number_at, one_event, opened_world}
use Rattle.game_core.proofs.Boarded.{exchanged_as, marked_fresh, opened}
use Rattle.game_core.proofs.Determined.{outcome_same, plays_one}
use Rattle.game_core.proofs.Replayed.{commit_game}
use Rattle.game_core.proofs.Runs.{place_open}

-- vectors that are put leave an ascending antichain
added_ascends : (v : List ℤ) (xs : List (List ℤ)) → IsAntichain at_or_below lexicographic xs → IsAntichain at_or_below lexicographic (added at_or_below lexicographic v xs)
added_ascends v xs h = go (covered at_or_below v xs) refl
  where
    go : (b : Bool) → covered at_or_below v xs ≡ b → IsAntichain at_or_below lexicographic (cond b xs (placed lexicographic v (without_below at_or_below v xs)))
    go true e = h
    go false e = IsAntichain-put at_or_below lexicographic counters_order v xs e h

puts_ascend : (xs vs : List (List ℤ)) → IsAntichain at_or_below lexicographic xs → IsAntichain at_or_below lexicographic (puts xs vs)
puts_ascend xs [] h = h
puts_ascend xs (v ∷ vs) h = puts_ascend (added at_or_below lexicographic v xs) vs (added_ascends v xs h)

module _ (b : BoardData) (o : OutcomeData) (after : BoardData) (known : IsGame b.game) (is : IsBoard b) (iso : IsOutcome o) where
  replaced_board : Commits b o after Replaced → IsBoard after
  replaced_board h =
      let left : List (List ℤ) = h.1.2.0 in
      let in_game = (subst (IsLeft o.game o.snapshot o.entry) h.1.2.1 iso.refined).1 in
      subst IsBoard (sym h.1.2.2)
      (exchanged_as b.game b.list o.snapshot (replaced b.list h.1.0 left) left (replicate (length (replaced b.list h.1.0 left)) false) h.1.0 o.entry known is.vectors h.1.1 is.covers
      (subst (λ (g : GameData). CoversHeld g o.snapshot) (sym h.0) iso.covers) (subst (λ (g : GameData). AreLeft g o.snapshot o.entry left) (sym h.0) in_game)
      (puts_ascend (remove b.list h.1.0) left (IsAntichain-remove at_or_below lexicographic b.list h.1.0 is.antichain)) refl refl)

  fresh_board : Commits b o after Fresh → IsBoard after
  fresh_board h =
      let in_game : answers o.game o.snapshot o.entry ≡ true = subst (IsLeft o.game o.snapshot o.entry) h.1 iso.refined in
      let answered : answers b.game b.list o.entry ≡ true =
      subst (λ (g : GameData). answers g b.list o.entry ≡ true) (sym h.0) (subst (λ (l : List (List ℤ)). answers o.game l o.entry ≡ true) (sym h.2) in_game) in
      subst IsBoard (sym h.3.2) (record {
        vectors = is.vectors;
        antichain = is.antichain;
        covers = is.covers;
        marks = length-set b.marks h.3.0 true ∙ is.marks;
        fresh = marked_fresh b.game b.list b.marks h.3.0 o.entry h.3.1 answered is.fresh;
      })

  commit_board : (done : Committed) → Commits b o after done → IsBoard after
  commit_board Fresh h = fresh_board h
  commit_board Replaced h = replaced_board h
  commit_board Stale h = subst IsBoard (sym h.4) is
  commit_board Gone h = subst IsBoard (sym h.2) is
  commit_board Other h = subst IsBoard (sym h.1) is

work_known : (j : JobData) (o : OutcomeData) → IsJob j → IsWork j o → IsOutcome o
work_known j o is h =
    subst IsOutcome (outcome_same j.game o.game j.snapshot o.snapshot j.entry o.entry o.left o.left (sym h.game) (sym h.snapshot) (sym h.entry) refl)
    (record { vectors = is.vectors; vector = is.vector; taken = is.taken; covers = is.covers; refined = h.left })

job_known : (b : BoardData) (n : ℕ) → IsBoard b → n < open_count b.marks → IsJob (job_of b n)
job_known b n is lt =
    let p = place_open b.marks n lt in
    let within : open_place b.marks n < length b.list = (let m = is.marks in omega (arith, p.0)) in
    record {
      vectors = is.vectors;
      vector = All-from_recursion (IsVector b.game) b.list is.vectors (open_place b.marks n) [] within;
      taken = (open_place b.marks n, within, get_or_default b.list (open_place b.marks n) _ [] within);
      covers = is.covers;
    }

claim_known : (b : BoardData) (number : ℕ) → IsBoard b → IfSome (claim_of b number) IsJob
claim_known b number is = go (open_count b.marks) refl
  where
    go : (n : ℕ) → open_count b.marks ≡ n → IfSome (claim_by b number n) IsJob
    go zero e = tt
    go (suc n) e = job_known b (number % suc n) is (subst (λ m. number % suc n < m) (sym e) (let below : number % suc n < suc n = mod-lt number (omega arith) in below))

job_here : (jobs : List (Option JobData)) (worker : ℕ) → All (λ j. IfSome j IsJob) jobs → IfSome (slice_index_or jobs worker None) IsJob
job_here [] worker h = tt
job_here (j ∷ jobs) zero h = h zero j (omega arith)
job_here (j ∷ jobs) (suc worker) h = job_here jobs worker (λ k d lt. h (suc k) d (omega arith))

claims_sound : (w : WorldData) (worker : ℕ) (number : Option ℕ) (after : WorldData) (said : Played) → IsSound w → Claims w worker number after said → IsSound after
claims_sound w worker None after said is h = subst IsSound (sym h.0) is
claims_sound w worker (Some number) after said is h =
    subst IsSound (sym h.0) (record {
      known = is.known;
      board = is.board;
      jobs = All-set (λ j. IfSome j IsJob) w.jobs worker (claim_of w.board number) (claim_known w.board number is.board) is.jobs;
    })

held_sound : (w : WorldData) (worker : ℕ) (job : Option JobData) (after : WorldData) (said : Played) → IsSound w → IfSome job IsJob → CommitsHeld w worker job after said → IsSound after
held_sound w worker None after said is j h = subst IsSound (sym h.0) is
held_sound w worker (Some job) after said is j h =
    subst IsSound (sym h.now) (record {
      known = subst IsGame (sym (commit_game w.board h.outcome after.board h.done h.commits)) is.known;
      board = commit_board w.board h.outcome after.board is.known is.board (work_known job h.outcome j h.work) h.done h.commits;
      jobs = All-set (λ j. IfSome j IsJob) w.jobs worker None tt is.jobs;
    })

pub plays_sound : (w : WorldData) (e : Event) (after : WorldData) (said : Played) → IsSound w → Plays w e after said → IsSound after
plays_sound w (Draw worker) after said is h = subst IsSound (sym h.0) (record { known = is.known; board = is.board; jobs = is.jobs })
plays_sound w (Claim worker) after said is h = claims_sound w worker (number_at w worker) after said is h
plays_sound w (Commit worker) after said is h = held_sound w worker (job_at w worker) after said is (job_here w.jobs worker is.jobs) h

opened_sound : (g : GameData) (workers : ℕ) → IsGame g → IsSound (opened_world g workers)
opened_sound g workers known = record { known = known; board = opened g known; jobs = no_jobs workers }
  where
    no_jobs : (n : ℕ) → All (λ j. IfSome j IsJob) (replicate n None)
    no_jobs zero = λ k d lt. absurd (omega arith)
    no_jobs (suc n) = All-cons (λ j. IfSome j IsJob) None (replicate n None) tt (no_jobs n)

replays_sound : (w : WorldData) (events : List Event) (after : WorldData) (answers : List Played) → IsSound w → Replays w events after answers → IsSound after
replays_sound w [] after [] is (no_event _) = is
replays_sound w [] after (told ∷ answers) is x = elim x [ ]
replays_sound w (first ∷ events) after [] is x = elim x [ ]
replays_sound w (first ∷ events) after (told ∷ answers) is (one_event _ next _ _ _ _ _ play rest) = replays_sound next events after answers (plays_sound w first next told is play) rest

pub moments_sound : (g : GameData) (workers : ℕ) (events : List Event) (after : WorldData) (answers : List Played) → IsGame g → Replays (opened_world g workers) events after answers → IsSound after
moments_sound g workers events after answers known = replays_sound (opened_world g workers) events after answers (opened_sound g workers known)

cons_same : (p q : Played) (ps qs : List Played) → p ≡ q → ps ≡ qs → p ∷ ps ≡ q ∷ qs
cons_same p q ps qs e f = cc

replays_one : (w : WorldData) (events : List Event) (x y : WorldData) (ps qs : List Played) → IsSound w → Replays w events x ps → Replays w events y qs → (x ≡ y) × (ps ≡ qs)
replays_one w [] x y [] [] is (no_event _) (no_event _) = (refl, refl)
replays_one w [] x y (p ∷ ps) qs is h k = elim h [ ]
replays_one w [] x y [] (q ∷ qs) is h k = elim k [ ]
replays_one w (e ∷ events) x y [] qs is h k = elim h [ ]
replays_one w (e ∷ events) x y (p ∷ ps) [] is h k = elim k [ ]
replays_one w (e ∷ events) x y (p ∷ ps) (q ∷ qs) is (one_event _ v _ _ _ _ _ play rest) (one_event _ u _ _ _ _ _ other more) =
    let one = plays_one w e v u p q is.board play other in
    let later = replays_one v events x y ps qs (plays_sound w e v p is play) rest (subst (λ (z : WorldData). Replays z events y qs) (sym one.0) more) in
    (later.0, cons_same p q ps qs one.1 later.1)

pub replay_one : (g : GameData) (workers : ℕ) (events : List Event) (x y : WorldData) (ps qs : List Played) → IsGame g → Replays (opened_world g workers) events x ps
    → Replays (opened_world g workers) events y qs → (x ≡ y) × (ps ≡ qs)
replay_one g workers events x y ps qs known = replays_one (opened_world g workers) events x y ps qs (opened_sound g workers known)
