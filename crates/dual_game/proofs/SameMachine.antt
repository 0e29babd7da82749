-- The machine of the held vectors of the game of classes is that of the held vectors of the whole game.
use Rattle.std.proofs.Common.{◌≡◌, ℕ, ◌<◌, ◌^◌, List, [], length, map, get_or, sym, ◌∙◌, subst, arith}
use Rattle.std.specs.Prelude.{ℤ}
use Rattle.std.specs.Option.{IsSome}
use Rattle.std.proofs.lemmas.List.{get_or-map, length-map}
use Rattle.std.proofs.lemmas.List.Elements.{All-weaker, All-get_or}
use Rattle.word_core.specs.declared.names.Kind.{Kind}
use Rattle.word_core.specs.declared.names.Kind.TheVariants.{First, Second}
use Rattle.word_core.specs.declared.machines.Line.{Line}
use Rattle.word_core.specs.Automaton.{AutomatonData}
use Rattle.word_core.specs.Machine.{choice}
use Rattle.game_form.specs.Game.{GameData, action_of, own_width, other_width}
use Rattle.game_form.specs.Vector.{initial, successor}
use Rattle.strategy_play.specs.Exact.{led_to, stays_by, IsLeast, IsMachineOfList}
use Rattle.strategy_play.specs.Splitting.{AreSplit}
use Rattle.strategy_play.specs.Strategy.{entry_of_state}
use Rattle.strategy_play.proofs.Answered.{some_and}
use Rattle.dual_game.proofs.Alike.{AreAlike, lifted, lifted_stands, stepped, begins_stands, owns, others}
use Rattle.dual_game.proofs.Lifting.{AreLong, place_same}

module _ (a q : AutomatonData) (of : List ℕ) (g h : GameData) (alike : AreAlike a q of g h) (entries : List (List ℤ)) (long : AreLong (length q.states) entries) where
  abbrev lifts : List (List ℤ)
  lifts = map (lifted of) entries

  in_own : (own : ℕ) → own < 2 ^ own_width h → own < 2 ^ own_width g
  in_own own l = subst (λ w. own < 2 ^ w) (owns a q of g h alike) l

  in_other : (other : ℕ) → other < 2 ^ other_width g → other < 2 ^ other_width h
  in_other other l = subst (λ w. other < 2 ^ w) (sym (others a q of g h alike)) l

  other_in : (other : ℕ) → other < 2 ^ other_width h → other < 2 ^ other_width g
  other_in other l = subst (λ w. other < 2 ^ w) (others a q of g h alike) l

  module _ (f : List ℤ) (size : length f ≡ length q.states) where
    -- letters lead to entries in the same place
    led_same : (own other : ℕ) → own < 2 ^ own_width g → other < 2 ^ other_width g → led_to g lifts (lifted of f) own other ≡ led_to h entries f own other
    led_same own other lo lx =
        place_same a q of g h alike entries (successor g (action_of g own other) (lifted of f)) (successor h (action_of h own other) f) long
        (stepped a q of g h alike own other (lifted of f) f lo lx (lifted_stands a q of g h alike f size))

    stays_up : (kind : Kind) (other own : ℕ) → own < 2 ^ own_width g → other < 2 ^ other_width g → stays_by kind h entries f other own → stays_by kind g lifts (lifted of f) other own
    stays_up First other own lo lx stays = λ x l. subst IsSome (sym (led_same own x lo l)) (stays x (in_other x l))
    stays_up Second other own lo lx stays = subst IsSome (sym (led_same own other lo lx)) stays

    stays_down : (kind : Kind) (other own : ℕ) → own < 2 ^ own_width g → other < 2 ^ other_width g → stays_by kind g lifts (lifted of f) other own → stays_by kind h entries f other own
    stays_down First other own lo lx stays = λ x l. subst IsSome (led_same own x lo (other_in x l)) (stays x (other_in x l))
    stays_down Second other own lo lx stays = subst IsSome (led_same own other lo lx) stays

    least_up : (other own entry : ℕ) → other < 2 ^ other_width g → IsLeast h entries f other own entry → IsLeast g lifts (lifted of f) other own entry
    least_up other own entry lx is =
        let within : own < 2 ^ own_width g = in_own own is.within in
        record {
          within = within;
          stays = subst (λ k. stays_by k g lifts (lifted of f) other own) alike.kind (stays_up h.kind other own within lx is.stays);
          least = λ x l stays. is.least x l (stays_down h.kind other x (omega (arith, l, within)) lx (subst (λ k. stays_by k g lifts (lifted of f) other x) (sym alike.kind) stays));
          leads = led_same own other within lx ∙ is.leads;
        }

  pub machine_lifted : (states : List (List Line)) → IsMachineOfList h entries states → IsMachineOfList g lifts states
  machine_lifted states is = record {
    order = is.order;
    count = is.count;
    within = All-weaker (λ e. e < length entries) (λ e. e < length lifts) (λ e l. omega (arith, l, size)) is.order is.within;
    once = is.once;
    first = place_same a q of g h alike entries (initial g) (initial h) long (begins_stands a q of g h alike) ∙ is.first;
    choices = λ s other l lx.
        let in_order : get_or is.order s 0 < length entries = All-get_or (λ e. e < length entries) is.order s 0 (omega (arith, l, is.count)) is.within in
        let f = entry_of_state entries is.order s in
        let entry : entry_of_state lifts is.order s ≡ lifted of (entry_of_state entries is.order s) = get_or-map (lifted of) entries (get_or is.order s 0) [] [] in_order in
        some_and (choice (get_or states s []) other)
        (λ (line : Line). IsLeast h entries (entry_of_state entries is.order s) other line.own (get_or is.order line.next 0))
        (λ (line : Line). IsLeast g lifts (entry_of_state lifts is.order s) other line.own (get_or is.order line.next 0))
        (λ line least. subst (λ e. IsLeast g lifts e other line.own (get_or is.order line.next 0)) (sym entry)
        (least_up (entry_of_state entries is.order s) (long (get_or is.order s 0) in_order) other line.own (get_or is.order line.next 0) lx least))
        (is.choices s other l (in_other other lx));
    lines = All-weaker (AreSplit (other_width h)) (AreSplit (other_width g)) (λ ls split. subst (λ w. AreSplit w ls) (others a q of g h alike) split) states is.lines;
    breadth_first = is.breadth_first;
    met = is.met;
  }
    where
      size : length lifts ≡ length entries
      size = length-map entries (lifted of)
