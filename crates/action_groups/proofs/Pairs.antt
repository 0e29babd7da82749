-- Pairs of a valuation and a number under a greater count, and at an equal width.
use Rattle.std.proofs.Common.{◌≡◌, ℕ, ◌+◌, ◌≤◌, List, subst, arith}
use Rattle.std.specs.Prelude.{Vec}
use Rattle.std.specs.declared.alloc.Global.{Global}
use Rattle.action_groups.specs.First.{AreOptions}
use Rattle.action_groups.specs.Part.{ArePairs}

pub pairs_weaker : (width n m : ℕ) (xs : List (ℕ × ℕ)) → n ≤ m → ArePairs width n xs → ArePairs width m xs
pairs_weaker width n m xs le h k d lt = let p = h k d lt in (p.0, omega (arith, p.1))

pub pairs_at : (rest width n : ℕ) (xs : List (ℕ × ℕ)) → rest + 1 ≡ width → ArePairs (rest + 1) n xs → ArePairs width n xs
pairs_at rest width n xs e h = let P : ℕ → Type 0 = λ w. ArePairs w n xs in subst P e h

pub options_weaker : (second n m : ℕ) (os : List (Vec (ℕ × ℕ) Global)) → n ≤ m → AreOptions second n os → AreOptions second m os
options_weaker second n m os le h k d lt = let o = h k d lt in (pairs_weaker second n m _ le o.0, o.1)
