-- Two games of one automaton have the same held vectors: each state is a class of its own.
use Rattle.std.proofs.Common.{◌≡◌, ℕ, ◌+◌, ◌<◌, List, length, Option, Some, None, refl, sym, ◌∙◌, ap, subst, arith}
use Rattle.std.specs.Prelude.{ℤ, ◌≤ℤ◌, option_map}
use Rattle.std.specs.List.{All, Contains, range_with_len}
use Rattle.std.specs.Option.{IfSome}
use Rattle.std.proofs.lemmas.Int.{ints}
use Rattle.std.proofs.lemmas.List.Elements.{All-contains}
use Rattle.std.proofs.lemmas.List.FromFn.{length-range_with_len, get_or-range_with_len}
use Rattle.word_core.specs.declared.automata.Edge.{Edge}
use Rattle.word_core.specs.declared.names.Names.{Names}
use Rattle.word_core.specs.declared.names.Player.{Player}
use Rattle.word_core.specs.Automaton.{AutomatonData, IsAutomaton, IsEdge, edges_at}
use Rattle.game_form.specs.Game.{GameData, IsGame}
use Rattle.game_form.specs.Vector.{lane}
use Rattle.game_form.specs.Held.{HasHeld}
use Rattle.nba_quotient.specs.Folding.{Does, IsFolding}
use Rattle.nba_quotient.specs.Ways.{class_at}
use Rattle.dual_game.specs.Games.{IsGameOf, kind_of}
use Rattle.dual_game.proofs.Shadow.{IsShadow}
use Rattle.dual_game.proofs.Alike.{AreAlike, held_down, held_up}

least : (x : ℤ) → x ≤ℤ x
least x = grind (arith, ints)

does : (e : Edge) → Does e e
does e = record { marked = λ h. h; cube = λ x h. h }

module _ (a : AutomatonData) (known : IsAutomaton a) where
  -- the class of each state is its number
  abbrev own_classes : List ℕ
  own_classes = range_with_len 0 (length a.states)

  own : (s : ℕ) → s < length a.states → class_at own_classes s ≡ s
  own s l = (let plain : 0 + s ≡ s = omega arith in get_or-range_with_len 0 (length a.states) s 0 l ∙ plain)

  edge_within : (s : ℕ) (e : Edge) → s < length a.states → Contains (edges_at a s) e → e.next < length a.states
  edge_within s e l has =
      let all : All (IsEdge a.signals (length a.states)) (edges_at a s) = known.ranged s _ l in
      (All-contains (IsEdge a.signals (length a.states)) (edges_at a s) e all has).1

  begun : (i : Option ℕ) → IfSome i (λ q. q < length a.states) → i ≡ option_map (class_at own_classes) i
  begun None within = refl
  begun (Some f) within = ap Some (sym (own f within))

  folded_alone : IsFolding a own_classes a
  folded_alone = record {
    each = length-range_with_len 0 (length a.states);
    classes = λ s l. subst (λ c. c < length a.states) (sym (own s l)) l;
    firsts = λ c l. (
      c,
      record {
        within = subst (λ n. c < n) (sym (length-range_with_len 0 (length a.states))) l;
        class = own c l;
        before = λ t m. subst (λ d. d < c) (sym (own t (omega (arith, m, l)))) m;
      },
    );
    init = begun a.init known.begins;
    begins = λ s e l has. (e, subst (λ c. Contains (edges_at a c) e) (sym (own s l)) has, sym (own e.next (edge_within s e l has)), does e);
    ends = λ s f l has.
        let there = subst (λ c. Contains (edges_at a c) f) (own s l) has in
        (f, there, own f.next (edge_within s f l there), does f);
  }

  stands : (v : List ℤ) → length v ≡ length a.states → IsShadow own_classes (length a.states) (length a.states) v v
  stands v size = record {
    long = size;
    short = size;
    below = λ s l. subst (λ c. lane v s ≤ℤ lane v c) (sym (own s l)) (least (lane v s));
    reached = λ c l. (c, l, own c l, least (lane v c));
  }

  -- games of one player and bound, over as many signals and with the same target
  module _ (names others : Names) (who : Player) (k : ℕ) (g h : GameData)
      (target : names.target ≡ others.target) (inputs : length names.inputs.items ≡ length others.inputs.items) (outputs : length names.outputs.items ≡ length others.outputs.items)
      (one : IsGame g) (other : IsGame h) (of : IsGameOf a names who k g) (also : IsGameOf a others who k h) where
    alike : AreAlike a a own_classes g h
    alike = record {
      automaton = known;
      folding = folded_alone;
      whole = one;
      small = other;
      player = also.player ∙ sym of.player;
      kind = also.kind ∙ sym (of.kind ∙ ap (kind_of who) target);
      inputs = also.inputs ∙ sym (of.inputs ∙ inputs);
      outputs = also.outputs ∙ sym (of.outputs ∙ outputs);
      bounds = also.bound ∙ sym of.bound;
      whole_init = of.init;
      small_init = also.init;
      whole_lanes = of.lanes;
      small_lanes = also.lanes;
      whole_rows = of.rows;
      small_rows = also.rows;
    }

    -- the maximal held vectors of the one are those of the other
    pub list_same : (list : List (List ℤ)) → HasHeld g list → HasHeld h list
    list_same list all = record {
      antichain = all.antichain;
      held = λ i l. let held = all.held i l in held_down a a own_classes g h alike _ _ (stands _ (held.vector.same_length ∙ of.lanes)) held;
      all = λ v held. all.all v (held_up a a own_classes g h alike v v (stands v (held.vector.same_length ∙ also.lanes)) held.vector.low held);
    }
