-- Laws of closed lists and held vectors.
use Rattle.std.specs.Prelude.{◌≡◌, ℕ, ℤ, Bool, true, List}
use Rattle.antichain_list.specs.Antichain.{IsAntichain, covered}
use Rattle.counter_vec.specs.Counters.{at_or_below, lexicographic}
use Rattle.game_form.specs.Covering.{CoversLetters}
use Rattle.game_form.specs.Game.{GameData, IsGame}
use Rattle.game_form.specs.Held.{HasHeld, IsHeld}
use Rattle.game_form.specs.Letters.{HasLetters}
use Rattle.game_form.specs.Vector.{IsVector}
use Rattle.game_core.specs.declared.events.Event.{Event}
use Rattle.game_core.specs.declared.events.Played.{Played}
use Rattle.game_core.specs.Solved.{IsClosed, IsLost, IsSettled}
use Rattle.game_core.specs.World.{IsSound, Replays, WorldData, opened_world}

-- every vector at or below a member of a closed list is held
abbrev pub ClosedIsHeld : Type 0
ClosedIsHeld = (g : GameData) (list : List (List ℤ)) (v : List ℤ) → IsGame g → HasLetters g → IsClosed g list → IsVector g v → covered at_or_below v list ≡ true → IsHeld g v

-- the maximal held vectors are a closed list
abbrev pub HeldIsClosed : Type 0
HeldIsClosed = (g : GameData) (list : List (List ℤ)) → IsGame g → CoversLetters g → HasHeld g list → IsClosed g list

-- at most one ascending antichain is the list of the maximal held vectors
abbrev pub HeldIsOne : Type 0
HeldIsOne =
    (g : GameData) (list other : List (List ℤ)) → IsAntichain at_or_below lexicographic list → IsAntichain at_or_below lexicographic other → HasHeld g list → HasHeld g other → list ≡ other

-- a game has one answer: the list is one, and where the initial vector is lost there is none
pub record IsOneAnswer (g : GameData) (whole : Bool) : Type 0 where
  pub list : (list other : List (List ℤ)) → IsAntichain at_or_below lexicographic list → IsAntichain at_or_below lexicographic other
      → IsSettled g whole list → IsSettled g whole other → list ≡ other
  pub lost : (list : List (List ℤ)) → IsSettled g whole list → IsLost g whole → ⊥

abbrev pub AnswerIsOne : Type 0
AnswerIsOne = (g : GameData) (whole : Bool) → IsOneAnswer g whole

-- in the world after any list of events, what is known of boards and jobs holds
abbrev pub ReplayIsSound : Type 0
ReplayIsSound = (g : GameData) (workers : ℕ) (events : List Event) (after : WorldData) (answers : List Played) → IsGame g → Replays (opened_world g workers) events after answers → IsSound after

-- the world after a list of events, and the list of answers, are a function of the list
abbrev pub ReplayIsOne : Type 0
ReplayIsOne =
    (g : GameData) (workers : ℕ) (events : List Event) (after other : WorldData) (said answers : List Played) → IsGame g → Replays (opened_world g workers) events after said
    → Replays (opened_world g workers) events other answers → (after ≡ other) × (said ≡ answers)
