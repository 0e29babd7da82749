-- Worlds: a board, the next number, and for each worker a number or none and a job or none.
use Rattle.std.specs.Prelude.{◌≡◌, ℕ, zero, suc, ◌+◌, ◌≤◌, ◌^◌, ◌%◌, List, [], ◌∷◌, length, Option, Some, None, IfSome, nat_le, replicate, slice_index_or, slice_set, if◌then◌else◌}
use Rattle.std.specs.List.{All}
use Rattle.game_form.specs.Game.{GameData, IsGame}
use Rattle.game_core.specs.Board.{BoardData, IsBoard, IsJob, IsWork, JobData, OutcomeData, job_of, open_count, opened}
use Rattle.game_core.specs.Commit.{Commits}
use Rattle.game_core.specs.declared.boards.Committed.{Committed}
use Rattle.game_core.specs.declared.events.Event.{Event}
use Rattle.game_core.specs.declared.events.Event.TheVariants.{Draw, Claim, Commit}
use Rattle.game_core.specs.declared.events.Played.{Played}
use Rattle.game_core.specs.declared.events.Played.TheVariants.{Drawn, Claimed, Closed, Done, Idle}

pub record WorldData : Type 0 where
  pub board : BoardData
  pub next : ℕ
  pub numbers : List (Option ℕ)
  pub jobs : List (Option JobData)

-- one number and one job for each worker, and the next number is at most 2 ^ 63
pub record IsWorld (w : WorldData) : Type 0 where
  pub next : w.next ≤ 2 ^ 63
  pub workers : length w.jobs ≡ length w.numbers

-- what is known of the board and of the jobs
pub record IsSound (w : WorldData) : Type 0 where
  pub known : IsGame w.board.game
  pub board : IsBoard w.board
  pub jobs : All (λ j. IfSome j IsJob) w.jobs

-- the board as opened, and so many workers that hold nothing
abbrev pub opened_world : GameData → ℕ → WorldData
opened_world g workers = record { board = opened g; next = 0; numbers = replicate workers None; jobs = replicate workers None }

abbrev pub number_at : WorldData → ℕ → Option ℕ
number_at w worker = slice_index_or w.numbers worker None

abbrev pub job_at : WorldData → ℕ → Option JobData
job_at w worker = slice_index_or w.jobs worker None

-- the number that is drawn, which is 0 once the next one would be 2 ^ 63, and the next one after it
abbrev pub drawn : ℕ → ℕ
drawn next = if nat_le (2 ^ 63) next then 0 else next

abbrev pub raised : ℕ → ℕ
raised next = if nat_le (2 ^ 63) next then next else next + 1

-- a worker draws
abbrev pub after_draw : WorldData → ℕ → WorldData
after_draw w worker = record {
  board = w.board;
  next = raised w.next;
  numbers = slice_set w.numbers worker (Some (drawn w.next));
  jobs = w.jobs;
}

-- what a board answers to a number: none where every entry is fresh
abbrev pub claim_by : BoardData → ℕ → ℕ → Option JobData
claim_by b number zero = None
claim_by b number (suc n) = Some (job_of b (number % suc n))

abbrev pub claim_of : BoardData → ℕ → Option JobData
claim_of b number = claim_by b number (open_count b.marks)

-- a worker's number is spent, and it has a job or none
abbrev pub after_claim : WorldData → ℕ → Option JobData → WorldData
after_claim w worker job = record {
  board = w.board;
  next = w.next;
  numbers = slice_set w.numbers worker None;
  jobs = slice_set w.jobs worker job;
}

abbrev pub said_of : Option JobData → Played
said_of None = Closed
said_of (Some job) = Claimed

-- a worker claims with the number that it holds
abbrev pub Claims : WorldData → ℕ → Option ℕ → WorldData → Played → Type 0
Claims w worker None after said = (after ≡ w) × (said ≡ Idle)
Claims w worker (Some number) after said = (after ≡ after_claim w worker (claim_of w.board number)) × (said ≡ said_of (claim_of w.board number))

-- a worker's job is gone, and the board is another
abbrev pub after_commit : WorldData → ℕ → BoardData → WorldData
after_commit w worker board = record { board = board; next = w.next; numbers = w.numbers; jobs = slice_set w.jobs worker None }

-- a worker does the work of its job and commits the outcome
pub record CommitsJob (w : WorldData) (worker : ℕ) (job : JobData) (after : WorldData) (said : Played) : Type 0 where
  pub outcome : OutcomeData
  pub work : IsWork job outcome
  pub done : Committed
  pub commits : Commits w.board outcome after.board done
  pub now : after ≡ after_commit w worker after.board
  pub says : said ≡ Done done

-- a worker commits the job that it holds
abbrev pub CommitsHeld : WorldData → ℕ → Option JobData → WorldData → Played → Type 0
CommitsHeld w worker None after said = (after ≡ w) × (said ≡ Idle)
CommitsHeld w worker (Some job) after said = CommitsJob w worker job after said

abbrev pub worker_of : Event → ℕ
worker_of (Draw worker) = worker
worker_of (Claim worker) = worker
worker_of (Commit worker) = worker

-- the world after an event, and what was answered
abbrev pub Plays : WorldData → Event → WorldData → Played → Type 0
Plays w (Draw worker) after said = (after ≡ after_draw w worker) × (said ≡ Drawn (drawn w.next))
Plays w (Claim worker) after said = Claims w worker (number_at w worker) after said
Plays w (Commit worker) after said = CommitsHeld w worker (job_at w worker) after said

-- the world after a list of events, and the list of answers
pub data Replays : WorldData → List Event → WorldData → List Played → Type 0 where
  no_event : (w : WorldData) → Replays w [] w []
  one_event : (w next after : WorldData) (e : Event) (said : Played) (events : List Event) (answers : List Played) → Plays w e next said
      → Replays next events after answers → Replays w (e ∷ events) after (said ∷ answers)
