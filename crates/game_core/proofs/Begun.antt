-- A machine that begins in another one's state: a copy of the state stands in front, and each next state is one more.
use Rattle.std.proofs.Common.{◌≡◌, ℕ, zero, suc, ◌<◌, Bool, true, false, cond, List, [], ◌∷◌, length, map, Option, Some, None, IsSome, refl, sym, ◌∙◌, ap, subst, arith}
use Rattle.std.specs.Prelude.{ℤ, slice_index_or, MatchOption}
use Rattle.std.specs.List.{All}
use Rattle.std.proofs.lemmas.List.{length-map}
use Rattle.std.proofs.lemmas.List.Elements.{All-cons}
use Rattle.word_core.specs.declared.machines.Line.{Line}
use Rattle.word_core.specs.Cube.{holds}
use Rattle.word_core.specs.Machine.{MachineData, IsMachine, IsLine, IsDecided, HasOneOwn, choice, lines_at, own_of, other_of}
use Rattle.word_core.specs.Play.{Move, IsPlayFrom}
use Rattle.game_form.specs.Game.{GameData}
use Rattle.game_form.specs.Held.{IsHeld, IsMachineOf, KeepsFrom}
use Rattle.game_form.specs.Vector.{IsVector}

abbrev later : Line → Line
later l = record { when = l.when; own = l.own; next = suc l.next }

abbrev later_of : Option Line → Option Line
later_of None = None
later_of (Some l) = Some (later l)

abbrev pub begun : MachineData → ℕ → MachineData
begun m s = record {
  player = m.player;
  kind = m.kind;
  inputs = m.inputs;
  outputs = m.outputs;
  states = map later (lines_at m s) ∷ map (map later) m.states;
}

choice_later : (lines : List Line) (x : ℕ) → choice (map later lines) x ≡ later_of (choice lines x)
choice_later [] x = refl
choice_later (l ∷ lines) x = go (holds l.when x) (choice_later lines x)
  where
    go : (b : Bool) → choice (map later lines) x ≡ later_of (choice lines x) → cond b (Some (later l)) (choice (map later lines) x) ≡ later_of (cond b (Some l) (choice lines x))
    go true rest = refl
    go false rest = rest

lines_later : (states : List (List Line)) (t : ℕ) → slice_index_or (map (map later) states) t [] ≡ map later (slice_index_or states t [])
lines_later [] t = refl
lines_later (lines ∷ states) zero = refl
lines_later (lines ∷ states) (suc t) = lines_later states t

-- a move from a copy of a state is one from the state
move_back : (m : MachineData) (s : ℕ) (v : Move) (moves : List Move) (o : Option Line) → ((t : ℕ) → IsPlayFrom (begun m s) (suc t) moves → IsPlayFrom m t moves)
    → MatchOption (later_of o) ⊥ (λ l. (v.own ≡ l.own) × IsPlayFrom (begun m s) l.next moves) → MatchOption o ⊥ (λ l. (v.own ≡ l.own) × IsPlayFrom m l.next moves)
move_back m s v moves None rest h = h
move_back m s v moves (Some l) rest h = (h.0, rest l.next h.1)

plays_on : (m : MachineData) (s : ℕ) (moves : List Move) (t : ℕ) → IsPlayFrom (begun m s) (suc t) moves → IsPlayFrom m t moves
plays_on m s [] t h = tt
plays_on m s (v ∷ moves) t h =
    let is : choice (slice_index_or (map (map later) m.states) t []) v.other ≡ later_of (choice (lines_at m t) v.other) =
    ap (λ (lines : List Line). choice lines v.other) (lines_later m.states t) ∙ choice_later (lines_at m t) v.other in (
      h.0,
      move_back m s v moves (choice (lines_at m t) v.other) (plays_on m s moves)
          (subst (λ o. MatchOption o ⊥ (λ l. (v.own ≡ l.own) × IsPlayFrom (begun m s) l.next moves)) is h.1),
    )

plays : (m : MachineData) (s : ℕ) (moves : List Move) → IsPlayFrom (begun m s) 0 moves → IsPlayFrom m s moves
plays m s [] h = tt
plays m s (v ∷ moves) h = (
  h.0,
  move_back m s v moves (choice (lines_at m s) v.other) (plays_on m s moves)
      (subst (λ o. MatchOption o ⊥ (λ l. (v.own ≡ l.own) × IsPlayFrom (begun m s) l.next moves)) (choice_later (lines_at m s) v.other) h.1),
)

all_mapped : {X Y : Type 0} (P : X → Type 0) (Q : Y → Type 0) (f : X → Y) → ((x : X) → P x → Q (f x)) → (xs : List X) → All P xs → All Q (map f xs)
all_mapped P Q f each [] h = λ k d lt. absurd (omega arith)
all_mapped P Q f each (x ∷ xs) h = All-cons Q (f x) (map f xs) (each x (h zero x (omega arith))) (all_mapped P Q f each xs (λ k d lt. h (suc k) d (omega arith)))

line_later : (own other n : ℕ) (l : Line) → IsLine own other n l → IsLine own other (suc n) (later l)
line_later own other n l h = (h.0, h.1, omega (arith, h.2))

some_later : (o : Option Line) → IsSome o → IsSome (later_of o)
some_later None h = h
some_later (Some l) h = refl

decided_later : (other : ℕ) (lines : List Line) → IsDecided other lines → IsDecided other (map later lines)
decided_later other lines h x lt = subst IsSome (sym (choice_later lines x)) (some_later (choice lines x) (h x lt))

own_later : (lines : List Line) (d : Line) (i : ℕ) → i < length lines → (slice_index_or (map later lines) i d).own ≡ (slice_index_or lines i d).own
own_later [] d i lt = absurd (omega arith)
own_later (l ∷ lines) d zero lt = refl
own_later (l ∷ lines) d (suc i) lt = own_later lines d i (omega arith)

one_later : (lines : List Line) → HasOneOwn lines → HasOneOwn (map later lines)
one_later lines h d i j in_i in_j =
    let size : length (map later lines) ≡ length lines = length-map lines later in
    let at_i : i < length lines = omega arith in
    let at_j : j < length lines = omega arith in
    own_later lines d i at_i ∙ h d i j at_i at_j ∙ sym (own_later lines d j at_j)

is_begun : (m : MachineData) (s : ℕ) → IsMachine m → s < length m.states → IsMachine (begun m s)
is_begun m s h lt = record {
  begins = omega arith;
  narrow = h.narrow;
  ranged = subst (λ n. All (All (IsLine (own_of m) (other_of m) (suc n))) (map later (lines_at m s) ∷ map (map later) m.states)) (sym size)
      (front (All (IsLine (own_of m) (other_of m) (length m.states))) (All (IsLine (own_of m) (other_of m) (suc (length m.states)))) lines_ranged h.ranged);
  decided = front (IsDecided (other_of m)) (IsDecided (other_of m)) (decided_later (other_of m)) h.decided;
  first = λ kind. front HasOneOwn HasOneOwn one_later (h.first kind);
}
  where
    size : length (map (map later) m.states) ≡ length m.states
    size = length-map m.states (map later)

    front : (P Q : List Line → Type 0) → ((lines : List Line) → P lines → Q (map later lines)) → All P m.states → All Q (map later (lines_at m s) ∷ map (map later) m.states)
    front P Q each all = All-cons Q (map later (lines_at m s)) (map (map later) m.states) (each (lines_at m s) (all s [] lt)) (all_mapped P Q (map later) each m.states all)

    lines_ranged : (lines : List Line) → All (IsLine (own_of m) (other_of m) (length m.states)) lines → All (IsLine (own_of m) (other_of m) (suc (length m.states))) (map later lines)
    lines_ranged lines = all_mapped (IsLine (own_of m) (other_of m) (length m.states)) (IsLine (own_of m) (other_of m) (suc (length m.states))) later (line_later (own_of m) (other_of m) (length m.states)) lines

-- what a machine keeps in the bound from one of its states is held
pub held_from : (g : GameData) (m : MachineData) (s : ℕ) (u : List ℤ) → IsMachineOf g m → s < length m.states → IsVector g u → KeepsFrom g m s u → IsHeld g u
held_from g m s u fits lt vector keeps = record {
  vector = vector;
  machine = begun m s;
  fits = record { machine = is_begun m s fits.machine lt; player = fits.player; kind = fits.kind; inputs = fits.inputs; outputs = fits.outputs };
  keeps = λ moves play. keeps moves (plays m s moves play);
}
