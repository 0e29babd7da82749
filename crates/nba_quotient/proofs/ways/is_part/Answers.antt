use Rattle.nba_quotient.proofs.Covered.{wider}
use Rattle.nba_quotient.proofs.ways.is_part.Goals as goal

pub returns-then-narrow-wide : goal.returns-then-narrow-wide
returns-then-narrow-wide c = wider c.args.narrow c.args.wide c.if-narrow-wide.true
