-- A game over an automaton that keeps what another one keeps decides who wins on that one.
use Rattle.std.proofs.Common.{◌≡◌, ℕ, ◌<◌, ◌≤◌, Bool, true, false, cond, nat_eq, length, Option, Some, None, refl, sym, ◌∙◌, subst, arith}
use Rattle.std.specs.Prelude.{pos, negsuc, ◌≤ℤ◌}
use Rattle.std.proofs.lemmas.Int.{ints}
use Rattle.std.proofs.lemmas.List.FromFn.{get_or-map-range_with_len, length-map-range_with_len}
use Rattle.word_core.specs.declared.names.Names.{Names}
use Rattle.word_core.specs.declared.names.Player.{Player}
use Rattle.word_core.specs.Automaton.{AutomatonData, IsAutomaton}
use Rattle.word_core.specs.Machine.{MachineData}
use Rattle.word_core.specs.Run.{Keeps}
use Rattle.game_form.specs.Game.{GameData, IsGame, lanes}
use Rattle.game_form.specs.Held.{IsMachineOf}
use Rattle.game_form.specs.Vector.{IsVector, lane, begins, initial}
use Rattle.dual_game.specs.Counting.{Counts}
use Rattle.dual_game.specs.Games.{IsGameOf}
use Rattle.dual_game.specs.Winning.{IsMachineFor, with_bound, Decides}
use Rattle.dual_game.proofs.Counted.{counting_is_sound}
use Rattle.dual_game.proofs.Reached.{counting_is_exact}

begins_low : (o : Option ℕ) (q : ℕ) → negsuc 0 ≤ℤ begins o q
begins_low None q = grind (arith, ints)
begins_low (Some first) q = by (nat_eq first q)
  where
    by : (b : Bool) → negsuc 0 ≤ℤ cond b (pos 0) (negsuc 0)
    by true = grind (arith, ints)
    by false = grind (arith, ints)

begins_high : (o : Option ℕ) (q : ℕ) (k : ℕ) → begins o q ≤ℤ pos k
begins_high None q k = grind (arith, ints)
begins_high (Some first) q k = by (nat_eq first q)
  where
    by : (b : Bool) → cond b (pos 0) (negsuc 0) ≤ℤ pos k
    by true = grind (arith, ints)
    by false = grind (arith, ints)

-- the initial vector is one of the game, whatever the bound
initial_vector : (g : GameData) (k : ℕ) → IsVector (with_bound k g) (initial g)
initial_vector g k = record {
  same_length = size;
  low = λ q l. subst (λ z. negsuc 0 ≤ℤ z) (sym (at q (omega (arith, size)))) (begins_low g.init q);
  high = λ q l. subst (λ z. z ≤ℤ pos k) (sym (at q (omega (arith, size)))) (begins_high g.init q k);
}
  where
    size : length (initial g) ≡ lanes g
    size = length-map-range_with_len (begins g.init) 0 (lanes g)

    at : (q : ℕ) → q < lanes g → lane (initial g) q ≡ begins g.init q
    at q l = get_or-map-range_with_len (begins g.init) 0 (lanes g) q q (pos 0) l (omega arith)

pub game_with : (g : GameData) (k : ℕ) → IsGame g → k ≤ 10000 → IsGame (with_bound k g)
game_with g k is le = record {
  widths = is.widths;
  low = grind (arith, ints);
  high = grind (arith, ints);
  some_action = is.some_action;
  some_class = is.some_class;
  actions = is.actions;
  init = is.init;
  classes = λ c l. record {
    least = (is.classes c l).least;
    some = (is.classes c l).some;
    action = (is.classes c l).action;
    reply = (is.classes c l).reply;
  };
  letters = is.letters;
  firsts = is.firsts;
}

module _ (a q : AutomatonData) (names : Names) (who : Player) (bound : ℕ) (g : GameData) (automaton : IsAutomaton q) (game : IsGame g) (is : IsGameOf q names who bound g)
    (kept : (m : MachineData) (k : ℕ) → Keeps a m k → Keeps q m k) (keeps : (m : MachineData) (k : ℕ) → Keeps q m k → Keeps a m k) where
  counts : (k : ℕ) → k ≤ 10000 → Counts q (with_bound k g)
  counts k le = record { automaton = automaton; game = game_with g k game le; first = is.init; lanes_are = is.lanes; rows = is.rows }

  machine_for : (k : ℕ) (m : MachineData) → IsMachineOf (with_bound k g) m → IsMachineFor names who m
  machine_for k m fits = record {
    machine = fits.machine;
    player = fits.player ∙ is.player;
    kind = fits.kind ∙ is.kind;
    inputs = fits.inputs ∙ is.inputs;
    outputs = fits.outputs ∙ is.outputs;
  }

  machine_of : (k : ℕ) (m : MachineData) → IsMachineFor names who m → IsMachineOf (with_bound k g) m
  machine_of k m fits = record {
    machine = fits.machine;
    player = fits.player ∙ sym is.player;
    kind = fits.kind ∙ sym is.kind;
    inputs = fits.inputs ∙ sym is.inputs;
    outputs = fits.outputs ∙ sym is.outputs;
  }

  pub decides : Decides a names who g
  decides = record {
    letters = is.letters;
    covers = is.covers;
    sound = λ k m le fits all. (machine_for k m fits, keeps m k (counting_is_sound q (with_bound k g) m k (counts k le) refl fits all));
    exact = λ k le wins. record {
      vector = initial_vector g k;
      machine = wins.machine;
      fits = machine_of k wins.machine wins.fits;
      keeps = counting_is_exact q (with_bound k g) wins.machine k (counts k le) refl (machine_of k wins.machine wins.fits) (kept wins.machine k wins.keeps);
    };
  }
