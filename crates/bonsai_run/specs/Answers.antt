-- The texts of answers, by their statuses.
use Rattle.std.specs.Prelude.{◌≡◌, ◌<◌, ◌≤◌, ℕ, ℤ, Bool, true, false, Option, List, [], ◌∷◌, ◌++◌, codes, decimal, length}
use Rattle.std.specs.Fmt.{signed_decimal}
use Rattle.word_core.specs.declared.names.Player.{Player}
use Rattle.word_core.specs.declared.names.Player.TheVariants.{System, Environment}
use Rattle.word_core.specs.declared.names.Names.{Names}
use Rattle.word_core.specs.Automaton.{AutomatonData}
use Rattle.word_core.specs.Lasso.{LassoData}
use Rattle.word_core.specs.Machine.{MachineData}
use Rattle.word_core.specs.Play.{IsLassoPlay}
use Rattle.word_core.specs.Run.{Keeps}
use Rattle.dual_game.specs.declared.bounds.Bounds.{Bounds}
use Rattle.dual_game.specs.declared.games.Pair.{Pair}
use Rattle.dual_game.specs.Bounds.{IsTried}
use Rattle.dual_game.specs.Automata.{avoided, formula_count, IsAutomatonOf, IsPairOf}
use Rattle.dual_game.specs.Machines.{IsMachineOfWhole}
use Rattle.dual_game.specs.Winning.{IsMachineFor, Wins, NobodyWins, automaton_of}
use Rattle.shelf_io.specs.Texts.{Texts}
use Rattle.ltl_form.specs.declared.formulas.Ltl.{Ltl}
use Rattle.ltl_form.specs.Meaning.{holds_at}
use Rattle.tlsf_basic.specs.declared.specifications.Spec.{Spec}
use Rattle.tlsf_basic.specs.Specification.{IsSpec}
use Rattle.antichain_list.specs.Antichain.{IsAntichain}
use Rattle.counter_vec.specs.Counters.{at_or_below, lexicographic}
use Rattle.game_form.specs.Game.{GameData, IsGame, lanes}
use Rattle.game_form.specs.Held.{HasHeld}
use Rattle.dual_game.specs.Games.{IsGameOf}
use Rattle.machine_text.specs.Machines.{machine_text, player_word}
use Rattle.spec_gen.specs.Arbiter.{arbiter_text}
use Rattle.bonsai_words.specs.Ordered.{Asked}
use Rattle.bonsai_words.specs.Ordered.Asked.{synth, downset, check, eval, gen}
use Rattle.bonsai_run.specs.Generated.{arbiter_formula}
use Rattle.bonsai_run.specs.Texts.{IsSpecOf, IsLassoOf, IsMachineIn}
use Rattle.bonsai_run.specs.declared.answers.Answer.{Answer}
use Rattle.bonsai_run.specs.declared.verdicts.Verdict.{Verdict}
use Rattle.bonsai_run.specs.declared.verdicts.Verdict.TheVariants.{Won, Unknown}

-- a line with a bound
abbrev pub bound_line : ℕ → List ℕ
bound_line bound = codes "bound " ++ decimal bound ++ codes "\n"

-- the verdict of the player whose machine it is
abbrev pub verdict_word : Player → List ℕ
verdict_word System = codes "REALIZABLE"
verdict_word Environment = codes "UNREALIZABLE"

abbrev pub verdict_status : Player → ℕ
verdict_status System = 10
verdict_status Environment = 20

-- the answer with a machine at a bound
abbrev pub won_text : Names → ℕ → MachineData → List ℕ
won_text names bound m = verdict_word m.player ++ codes "\n" ++ bound_line bound ++ machine_text names m

abbrev pub unknown_text : ℕ → List ℕ
unknown_text bound = codes "UNKNOWN\n" ++ bound_line bound

-- numbers, each behind a space
abbrev pub spaced : List ℤ → List ℕ
spaced [] = []
spaced (x ∷ xs) = codes " " ++ signed_decimal x ++ spaced xs

-- the numbers of a vector with one space between, or a dot
abbrev pub vector_line : List ℤ → List ℕ
vector_line [] = codes ".\n"
vector_line (x ∷ xs) = signed_decimal x ++ spaced xs ++ codes "\n"

abbrev pub vector_lines : List (List ℤ) → List ℕ
vector_lines [] = []
vector_lines (v ∷ vs) = vector_line v ++ vector_lines vs

abbrev pub downset_text : Player → ℕ → ℕ → List (List ℤ) → List ℕ
downset_text player bound lanes vectors =
    codes "downset " ++ player_word player ++ codes " bound " ++ decimal bound ++ codes " lanes " ++ decimal lanes
    ++ codes " entries " ++ decimal (length vectors) ++ codes "\n" ++ vector_lines vectors

-- the last line of a generated text
abbrev pub won_comment : ℕ → MachineData → List ℕ
won_comment bound m = codes "// " ++ verdict_word m.player ++ codes " bound " ++ decimal bound ++ codes " states " ++ decimal (length m.states) ++ codes "\n"

abbrev pub unknown_comment : ℕ → List ℕ
unknown_comment bound = codes "// UNKNOWN bound " ++ decimal bound ++ codes "\n"

-- the verdict on automata: at the least tried bound at which a player wins, a machine of that player which keeps the bound
-- on the player's automaton, and which is that of the maximal held vectors of the automaton's game; where nobody wins at any tried bound, the last one
abbrev pub IsVerdict : Pair → Names → Bounds → Verdict → Type 0
IsVerdict pair names bounds (Won bound machine) =
    IsTried bounds bound × ((k : ℕ) → IsTried bounds k → k < bound → NobodyWins pair names k)
    × IsMachineFor names machine.player machine × Keeps (automaton_of pair machine.player) machine bound
    × IsMachineOfWhole (automaton_of pair machine.player) names machine.player bound machine.states
IsVerdict pair names bounds (Unknown bound) = (bound ≡ bounds.last) × ((k : ℕ) → IsTried bounds k → NobodyWins pair names k)

-- on each lasso that the machine of a verdict plays the formula holds for the system, and fails for the environment
abbrev pub IsSatisfied : Ltl → Verdict → Type 0
IsSatisfied f (Won bound machine) = (w : LassoData) → 0 < length w.cycle → IsLassoPlay machine w → avoided machine.player (holds_at w f 0) ≡ false
IsSatisfied f (Unknown bound) = Unit {0}

abbrev pub other_player : Player → Player
other_player System = Environment
other_player Environment = System

-- where a player wins, no machine of the other one keeps any bound
abbrev pub IsAlone : Pair → Names → Verdict → Type 0
IsAlone pair names (Won bound machine) =
    (k : ℕ) → Wins (automaton_of pair (other_player machine.player)) names (other_player machine.player) k → ⊥
IsAlone pair names (Unknown bound) = Unit {0}

-- the bounds of an order
abbrev pub bounds_of : ℕ × ℕ × ℕ → Bounds
bounds_of b = record { first = b.0; step = b.1; last = b.2 }

-- the status and the text of a verdict
abbrev pub verdict_of : Verdict → ℕ
verdict_of (Won bound machine) = verdict_status machine.player
verdict_of (Unknown bound) = 30

abbrev pub verdict_text : Names → Verdict → List ℕ
verdict_text names (Won bound machine) = won_text names bound machine
verdict_text names (Unknown bound) = unknown_text bound

abbrev pub verdict_comment : Verdict → List ℕ
verdict_comment (Won bound machine) = won_comment bound machine
verdict_comment (Unknown bound) = unknown_comment bound

-- the answer of one word
abbrev pub IsWord : ℕ → List ℕ → Answer → Type 0
IsWord status word a = (a.status ≡ status) × (a.text.items ≡ word ++ codes "\n")

-- what an order is answered, where the shelf has these texts: a status and a text
pub data IsAnswer (texts : Option Texts) : Asked → ℕ → List ℕ → Type 0 where
  decided : (name : List ℕ) (bounds : ℕ × ℕ × ℕ) (workers : ℕ) (as_written : Bool) (spec : Spec) (pair : Pair) (v : Verdict)
      → IsSpecOf texts name as_written spec → IsPairOf spec pair → IsVerdict pair spec.names (bounds_of bounds) v
      → IsSatisfied spec.formula v → IsAlone pair spec.names v
      → IsAnswer texts (synth name bounds workers as_written) (verdict_of v) (verdict_text spec.names v)
  held : (name : List ℕ) (player : Player) (bound : ℕ) (as_written : Bool) (spec : Spec) (a : AutomatonData) (g : GameData) (vectors : List (List ℤ))
      → IsSpecOf texts name as_written spec → IsAutomatonOf spec player a → IsGame g → IsGameOf a spec.names player bound g
      → HasHeld g vectors → IsAntichain at_or_below lexicographic vectors
      → IsAnswer texts (downset name player bound as_written) 0 (downset_text player bound (lanes g) vectors)
  valid : (name machine : List ℕ) (bound : ℕ) (as_written : Bool) (spec : Spec) (m : MachineData) (a : AutomatonData)
      → IsSpecOf texts name as_written spec → IsMachineIn texts machine spec m → IsAutomatonOf spec m.player a → Keeps a m bound
      → ((w : LassoData) → 0 < length w.cycle → IsLassoPlay m w → avoided m.player (holds_at w spec.formula 0) ≡ false)
      → IsAnswer texts (check name machine bound as_written) 0 (codes "VALID\n")
  over : (name machine : List ℕ) (bound : ℕ) (as_written : Bool) (spec : Spec) (m : MachineData) (a : AutomatonData)
      → IsSpecOf texts name as_written spec → IsMachineIn texts machine spec m → IsAutomatonOf spec m.player a → (Keeps a m bound → ⊥)
      → IsAnswer texts (check name machine bound as_written) 40 (codes "OVER\n")
  holds : (name lasso : List ℕ) (as_written : Bool) (spec : Spec) (w : LassoData)
      → IsSpecOf texts name as_written spec → IsLassoOf texts lasso spec w → formula_count spec Environment ≤ 512 → holds_at w spec.formula 0 ≡ true
      → IsAnswer texts (eval name lasso as_written) 0 (codes "HOLDS\n")
  fails : (name lasso : List ℕ) (as_written : Bool) (spec : Spec) (w : LassoData)
      → IsSpecOf texts name as_written spec → IsLassoOf texts lasso spec w → formula_count spec Environment ≤ 512 → holds_at w spec.formula 0 ≡ false
      → IsAnswer texts (eval name lasso as_written) 40 (codes "FAILS\n")
  generated : (clients workers : ℕ) (spec : Spec) (pair : Pair) (v : Verdict)
      → IsSpec (arbiter_text clients) false spec → spec.formula ≡ arbiter_formula clients → IsPairOf spec pair → IsVerdict pair spec.names (bounds_of (0, 1, 8)) v
      → IsSatisfied spec.formula v → IsAlone pair spec.names v
      → IsAnswer texts (gen clients workers) 0 (arbiter_text clients ++ verdict_comment v)
