-- A list with one more vector of the game has vectors of the game.
use Rattle.std.proofs.Common.{◌≡◌, Bool, true, false, List, sym, subst}
use Rattle.std.specs.Prelude.{ℤ, is_ok, if◌then◌else◌}
use Rattle.antichain_list.specs.Antichain.{added}
use Rattle.antichain_list.specs.Covering.{all_added}
use Rattle.counter_vec.specs.Counters.{at_or_below, lexicographic}
use Rattle.cpre_step.specs.Refinement.{AreVectors}
use Rattle.game_form.specs.Game.{GameData}
use Rattle.game_form.specs.Vector.{IsVector}
use Rattle.layer_trials.proofs.layer_vectors.put.Goals as goal

put_or_not : (g : GameData) (v : List ℤ) (old new : List (List ℤ)) (b : Bool) → new ≡ (if b then added at_or_below lexicographic v old else old) → IsVector g v → AreVectors g old → AreVectors g new
put_or_not g v old new true e vector vectors = subst (AreVectors g) (sym e) (all_added (IsVector g) at_or_below lexicographic v old vector vectors)
put_or_not g v old new false e vector vectors = subst (AreVectors g) (sym e) vectors

pub returns : goal.returns
returns c = put_or_not c.args.g.now c.args.v c.args.list.now c.put.new.self (is_ok c.put.result) c.put.ensures.after c.requires.vector c.requires.vectors
