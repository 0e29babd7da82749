use Rattle.std.proofs.lemmas.List.Elements.{All-from_recursion}
use Rattle.game_core.proofs.EntriesHeld.{below_held}
use Rattle.game_core.proofs.laws.closed_is_held.Goals as goal

pub returns : goal.returns
returns c = λ g list v known letters closed. below_held g known letters list (All-from_recursion _ list closed.vectors) closed.closed v
