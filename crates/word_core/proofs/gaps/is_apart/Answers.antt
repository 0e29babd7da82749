use Rattle.word_core.proofs.CubeHalves.{inside_apart, inside_fills, across_apart}
use Rattle.word_core.proofs.gaps.is_apart.Goals as goal

pub returns-then-cube-inner-clause-apart : goal.returns-then-cube-inner-clause-apart
returns-then-cube-inner-clause-apart c = inside_apart c.args.cube c.args.inner c.if-cube-inner.true

pub returns-then-cube-inner-clause-fills : goal.returns-then-cube-inner-clause-fills
returns-then-cube-inner-clause-fills c = λ n p. inside_fills c.args.cube c.args.inner p n

pub returns-else-cube-inner-clause-apart : goal.returns-else-cube-inner-clause-apart
returns-else-cube-inner-clause-apart c = across_apart c.args.cube c.args.inner
