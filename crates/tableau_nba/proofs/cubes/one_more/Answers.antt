use Rattle.std.proofs.Common.{◌*◌, ◌^◌, ◌%◌, ap, arith, cond, inl, inr, sym, ◌∙◌}
use Rattle.std.specs.Prelude.{bit_or}
use Rattle.tableau_nba.proofs.CubeBits.{cube_is, signal_bit, cube_more}
use Rattle.tableau_nba.proofs.cubes.one_more.Goals as goal
use Rattle.tableau_nba.proofs.cubes.one_more.Goals.{then-literal, else-literal}

pub returns-clause-value : goal.returns-clause-value
returns-clause-value c =
    let cube = c.args.cube.now in
    let l = c.args.literal.now in
    cube_is cube l c.if-literal.want (omega (arith, c.requires.literal, c.requires.signals))
    (elim c.if-literal.branch [
      | then-literal w ↦ w.want-is ∙ ap (λ b. cond b (bit_or cube.want ((1 * 2 ^ l.signal) % 2 ^ 64)) cube.want) (sym w.if-literal.true)
      | else-literal w ↦ w.want-is ∙ ap (λ b. cond b (bit_or cube.want ((1 * 2 ^ l.signal) % 2 ^ 64)) cube.want) (sym w.if-literal.false)
    ])

pub returns-clause-cube : goal.returns-clause-cube
returns-clause-cube c =
    let cube = c.args.cube.now in
    cube_more c.args.signals cube.care cube.want _ c.if-literal.want c.requires.cube.0 c.requires.cube.1
    (signal_bit c.args.literal.now.signal c.args.signals c.requires.literal)
    (elim c.if-literal.branch [ then-literal w ↦ inl w.want-is | else-literal w ↦ inr w.want-is ])
