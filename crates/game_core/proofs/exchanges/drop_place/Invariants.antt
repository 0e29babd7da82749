use Rattle.std.proofs.Common.{◌<◌, List, length}
use Rattle.std.specs.Prelude.{ℤ}
use Rattle.game_form.specs.Game.{GameData}
use Rattle.game_core.specs.Columns.{AreColumns}
use Rattle.game_core.proofs.ColumnReads.{AreDropped}
use Rattle.game_core.proofs.exchanges.drop_place.Given as goal

abbrev pub invariant-loop-at : goal.invariant-loop-at
invariant-loop-at l = (g : GameData) (vectors : List (List ℤ)) → l.gone < length vectors → AreColumns g vectors l.initial.columns → AreDropped g vectors l.gone l.at l.columns
