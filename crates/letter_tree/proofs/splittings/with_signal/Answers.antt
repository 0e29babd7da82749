use Rattle.std.proofs.Common.{◌+◌, ℕ, true, false, sym, subst}
use Rattle.std.proofs.lemmas.Nat.{one_shl}
use Rattle.word_core.specs.declared.cubes.Cube.{Cube}
use Rattle.word_core.specs.Cube.{IsCube}
use Rattle.letter_tree.proofs.SplitLines.{IsCube-fixed}
use Rattle.letter_tree.proofs.splittings.with_signal.Goals as goal

pub returns-then-value-clause-earlier : goal.returns-then-value-clause-earlier
returns-then-value-clause-earlier c =
    let with_bit : ℕ → Cube = λ n. record { care = c.args.cube.care + n; want = c.args.cube.want + n } in
    subst (λ n. IsCube (c.args.signal + 1) (with_bit n)) (sym (one_shl c.args.signal 64 c.requires.small)) (IsCube-fixed c.args.signal c.args.cube true c.requires.earlier)

pub returns-else-value-clause-earlier : goal.returns-else-value-clause-earlier
returns-else-value-clause-earlier c =
    let with_bit : ℕ → Cube = λ n. record { care = c.args.cube.care + n; want = c.args.cube.want } in
    subst (λ n. IsCube (c.args.signal + 1) (with_bit n)) (sym (one_shl c.args.signal 64 c.requires.small)) (IsCube-fixed c.args.signal c.args.cube false c.requires.earlier)
