-- Automata that count no less.
use Rattle.std.specs.Prelude.{ℕ, ◌≤◌, List}
use Rattle.word_core.specs.declared.automata.Edge.{Edge}
use Rattle.word_core.specs.Automaton.{AutomatonData}
use Rattle.word_core.specs.Run.{IsRun, count}

-- for each run of the second automaton the first one has a run on the same letters, with no fewer marks
abbrev pub Outruns : AutomatonData → AutomatonData → Type 0
Outruns b a =
    (letters : List ℕ) (run : List Edge) → IsRun a letters run → (other : List Edge) × IsRun b letters other × (count run ≤ count other)
