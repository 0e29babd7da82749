use Rattle.std.proofs.Common.{sym, ◌∙◌}
use Rattle.cover_sets.specs.Bits.{set_of}
use Rattle.cover_sets.proofs.Consistent.{denied_yes, denied_no}
use Rattle.cover_sets.proofs.reductions.denied.Goals as goal

pub returns-then-contains : goal.returns-then-contains
returns-then-contains c y = denied_yes _ _ _ c.args.literal c.args.negation y c.with.ensures (sym c.contains.ensures ∙ c.if-contains.true)

pub returns-else-contains : goal.returns-else-contains
returns-else-contains c y = denied_no (set_of c.args.against.now) (set_of c.args.literals.now) c.args.literal c.args.negation y (sym c.contains.ensures ∙ c.if-contains.false)
