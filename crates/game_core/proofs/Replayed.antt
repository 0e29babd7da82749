-- Worlds and their events.
use Rattle.std.proofs.Common.{◌≡◌, ℕ, zero, suc, ◌<◌, ◌≤◌, ◌%◌, List, [], ◌∷◌, ◌++◌, length, Option, Some, None, refl, sym, ◌∙◌, ap, subst, arith, length-set}
use Rattle.std.proofs.Common.{take, ◌+◌}
use Rattle.std.specs.Prelude.{slice_index_or}
use Rattle.std.proofs.lemmas.List.{take_more}
use Rattle.game_core.specs.declared.boards.Committed.{Committed}
use Rattle.game_core.specs.declared.boards.Committed.TheVariants.{Fresh, Replaced, Stale, Gone, Other}
use Rattle.game_core.specs.declared.events.Event.{Event}
use Rattle.game_core.specs.declared.events.Event.TheVariants.{Draw, Claim, Commit}
use Rattle.game_core.specs.declared.events.Played.{Played}
use Rattle.game_core.specs.Board.{BoardData, JobData, OutcomeData, job_of, open_count}
use Rattle.game_core.specs.Commit.{Commits}
use Rattle.game_core.specs.World.{WorldData, Claims, CommitsHeld, Plays, Replays, claim_by, claim_of, drawn, job_at, no_event, number_at, one_event}

-- what a board answers to a number
pub claim_none : (b : BoardData) (number : ℕ) → open_count b.marks ≡ 0 → claim_of b number ≡ None
claim_none b number e = ap (claim_by b number) e

pub claim_some : (b : BoardData) (number : ℕ) (job : JobData) → 0 < open_count b.marks → job ≡ job_of b (number % open_count b.marks) → claim_of b number ≡ Some job
claim_some b number job some e = go (open_count b.marks) some ∙ ap (λ j. Some j) (sym e)
  where
    go : (n : ℕ) → 0 < n → claim_by b number n ≡ Some (job_of b (number % n))
    go zero h = absurd (omega arith)
    go (suc n) h = refl

-- a commit keeps the game
pub commit_game : (b : BoardData) (o : OutcomeData) (after : BoardData) (done : Committed) → Commits b o after done → after.game ≡ b.game
commit_game b o after Fresh h = ap (λ (b : BoardData). b.game) h.3.2
commit_game b o after Replaced h = ap (λ (b : BoardData). b.game) h.1.2.2
commit_game b o after Stale h = ap (λ (b : BoardData). b.game) h.4
commit_game b o after Gone h = ap (λ (b : BoardData). b.game) h.2
commit_game b o after Other h = ap (λ (b : BoardData). b.game) h.1

claim_game : (w : WorldData) (worker : ℕ) (number : Option ℕ) (after : WorldData) (said : Played) → Claims w worker number after said → after.board.game ≡ w.board.game
claim_game w worker None after said h = ap (λ (w : WorldData). w.board.game) h.0
claim_game w worker (Some number) after said h = ap (λ (w : WorldData). w.board.game) h.0

held_game : (w : WorldData) (worker : ℕ) (job : Option JobData) (after : WorldData) (said : Played) → CommitsHeld w worker job after said → after.board.game ≡ w.board.game
held_game w worker None after said h = ap (λ (w : WorldData). w.board.game) h.0
held_game w worker (Some job) after said h = commit_game w.board h.outcome after.board h.done h.commits

pub play_game : (w : WorldData) (e : Event) (after : WorldData) (said : Played) → Plays w e after said → after.board.game ≡ w.board.game
play_game w (Draw worker) after said h = ap (λ (w : WorldData). w.board.game) h.0
play_game w (Claim worker) after said h = claim_game w worker (number_at w worker) after said h
play_game w (Commit worker) after said h = held_game w worker (job_at w worker) after said h

claim_workers : (w : WorldData) (worker : ℕ) (number : Option ℕ) (after : WorldData) (said : Played) → Claims w worker number after said → length after.numbers ≡ length w.numbers
claim_workers w worker None after said h = ap (λ (w : WorldData). length w.numbers) h.0
claim_workers w worker (Some number) after said h = ap (λ (w : WorldData). length w.numbers) h.0 ∙ length-set w.numbers worker None

held_workers : (w : WorldData) (worker : ℕ) (job : Option JobData) (after : WorldData) (said : Played) → CommitsHeld w worker job after said → length after.numbers ≡ length w.numbers
held_workers w worker None after said h = ap (λ (w : WorldData). length w.numbers) h.0
held_workers w worker (Some job) after said h = ap (λ (w : WorldData). length w.numbers) h.now

pub play_workers : (w : WorldData) (e : Event) (after : WorldData) (said : Played) → Plays w e after said → length after.numbers ≡ length w.numbers
play_workers w (Draw worker) after said h = ap (λ (w : WorldData). length w.numbers) h.0 ∙ length-set w.numbers worker (Some (drawn w.next))
play_workers w (Claim worker) after said h = claim_workers w worker (number_at w worker) after said h
play_workers w (Commit worker) after said h = held_workers w worker (job_at w worker) after said h

-- one event more
pub plays_more : (w before after : WorldData) (events : List Event) (answers : List Played) (e : Event) (said : Played) → Replays w events before answers → Plays before e after said
    → Replays w (events ++ e ∷ []) after (answers ++ said ∷ [])
plays_more w before after [] [] e said (no_event _) h = one_event w after after e said [] [] h (no_event after)
plays_more w before after [] (told ∷ answers) e said x h = elim x [ ]
plays_more w before after (first ∷ events) [] e said x h = elim x [ ]
plays_more w before after (first ∷ events) (told ∷ answers) e said (one_event _ next _ _ _ _ _ play rest) h =
    one_event w next after first told (events ++ e ∷ []) (answers ++ said ∷ []) play (plays_more next before after events answers e said rest h)

pub replay_game : (w : WorldData) (events : List Event) (after : WorldData) (answers : List Played) → Replays w events after answers → after.board.game ≡ w.board.game
replay_game w [] after [] (no_event _) = refl
replay_game w [] after (told ∷ answers) x = elim x [ ]
replay_game w (first ∷ events) after [] x = elim x [ ]
replay_game w (first ∷ events) after (told ∷ answers) (one_event _ next _ _ _ _ _ play rest) =
    replay_game next events after answers rest ∙ play_game w first next told play

pub plays_none : (w after : WorldData) (answers : List Played) → after ≡ w → answers ≡ [] → Replays w [] after answers
plays_none w after answers e none = subst (λ a. Replays w [] a answers) (sym e) (subst (Replays w [] w) (sym none) (no_event w))

pub plays_next : (w before after : WorldData) (events : List Event) (i : ℕ) (d : Event) (answers all : List Played) (said : Played) → i < length events
    → Replays w (take i events) before answers → Plays before (slice_index_or events i d) after said → all ≡ answers ++ said ∷ [] → Replays w (take (i + 1) events) after all
plays_next w before after events i d answers all said lt h play e =
    subst (λ es. Replays w es after all) (sym (take_more events i d lt))
    (subst (Replays w (take i events ++ slice_index_or events i d ∷ []) after) (sym e) (plays_more w before after (take i events) answers (slice_index_or events i d) said h play))

pub replays_all : (w after : WorldData) (events : List Event) (i : ℕ) (answers : List Played) → length events ≤ i → Replays w (take i events) after answers → Replays w events after answers
replays_all w after events i answers le h = subst (λ es. Replays w es after answers) (take_whole events i le) h
  where
    take_whole : (xs : List Event) (n : ℕ) → length xs ≤ n → take n xs ≡ xs
    take_whole [] zero le = refl
    take_whole [] (suc n) le = refl
    take_whole (x ∷ xs) zero le = absurd (omega arith)
    take_whole (x ∷ xs) (suc n) le = ap (λ ys. x ∷ ys) (take_whole xs n (omega arith))
