-- What a commit does.
use Rattle.std.specs.Prelude.{◌≡◌, ℕ, ℤ, true, false, List, length, Some, None, slice_set, replicate}
use Rattle.game_core.specs.Board.{BoardData, OutcomeData, replaced, IsAt, IsNowhere}
use Rattle.game_core.specs.declared.boards.Committed.{Committed}
use Rattle.game_core.specs.declared.boards.Committed.TheVariants.{Fresh, Replaced, Stale, Gone, Other}

-- the board with an entry marked
abbrev pub marked : BoardData → ℕ → BoardData
marked b place = record b { marks = slice_set b.marks place true }

-- the board in which what is left of an entry has taken its place, with no mark
abbrev pub exchanged : BoardData → ℕ → List (List ℤ) → BoardData
exchanged b place left = record {
  game = b.game;
  list = replaced b.list place left;
  marks = replicate (length (replaced b.list place left)) false;
}

-- the answer to an outcome, and the board after it
abbrev pub Commits : BoardData → OutcomeData → BoardData → Committed → Type 0
Commits b o after Other = (b.game ≡ o.game → ⊥) × (after ≡ b)
Commits b o after Gone = (b.game ≡ o.game) × IsNowhere b.list o.entry × (after ≡ b)
Commits b o after Replaced =
    (b.game ≡ o.game) × ((place : ℕ) × IsAt b.list place o.entry × ((left : List (List ℤ)) × (o.left ≡ Some left) × (after ≡ exchanged b place left)))
Commits b o after Fresh =
    (b.game ≡ o.game) × (o.left ≡ None) × (b.list ≡ o.snapshot) × ((place : ℕ) × IsAt b.list place o.entry × (after ≡ marked b place))
Commits b o after Stale =
    (b.game ≡ o.game) × (o.left ≡ None) × (b.list ≡ o.snapshot → ⊥) × ((place : ℕ) × IsAt b.list place o.entry) × (after ≡ b)
