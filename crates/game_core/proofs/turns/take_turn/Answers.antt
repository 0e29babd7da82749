use Rattle.std.proofs.Common.{◌<◌, subst, sym}
use Rattle.game_core.specs.declared.turns.Turn.{Turn}
use Rattle.game_core.proofs.Lists.{all_inserted}
use Rattle.game_core.proofs.Replacements.{all_removed}
use Rattle.game_core.proofs.turns.take_turn.Goals as goal

pub returns : goal.returns
returns c = λ n h.
    let P : Turn → Type 0 = λ t. t.class < n in
    rw (c.in_ok-insert.ensures.items, c.remove-old.ensures.items)
    (all_inserted P _ _ _ (all_removed P _ _ h) (subst P (sym c.remove-old.ensures.value) (h c.args.at c.remove-old.result c.requires)))
