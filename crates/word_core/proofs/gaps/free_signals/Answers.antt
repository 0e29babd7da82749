use Rattle.std.proofs.Common.{◌^◌, ◌<◌, ◌-◌, arith}
use Rattle.std.proofs.lemmas.Nat.{and-not, and_comm}
use Rattle.word_core.proofs.gaps.free_signals.Goals as goal

pub returns-clause-none : goal.returns-clause-none
returns-clause-none c = λ h.
    let cube = c.args.cube.care in
    let inner = c.args.inner.care in
    let i : inner < 2 ^ 64 = omega arith in
    let k : cube < 2 ^ 64 = omega arith in
    let e = and-not 64 inner cube i k in
    let f = and_comm cube (18446744073709551615 - inner) in
    let g = and_comm cube inner in
    omega arith
