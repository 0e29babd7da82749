-- What a solver knows of the entries.
use Rattle.std.specs.Prelude.{◌≡◌, ℕ, List, vec_len}
use Rattle.std.specs.List.{All}
use Rattle.game_core.specs.declared.fronts.Note.{Note}

-- notes with so many answers
abbrev pub HaveAnswers : ℕ → List Note → Type 0
HaveAnswers slots = All (λ n. vec_len n.answers ≡ slots)
