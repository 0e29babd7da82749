use Rattle.std.proofs.Common.{ℕ, ◌<◌, ◌^◌, sym, subst}
use Rattle.std.specs.Prelude.{Vec}
use Rattle.std.specs.declared.alloc.Global.{Global}
use Rattle.std.proofs.lemmas.List.Sorted.{All-permutation}
use Rattle.std.proofs.lemmas.Result.{IfOk-weaker}
use Rattle.action_groups.specs.Options.{IsOnce}
use Rattle.action_groups.proofs.Numbering.{AreAscending, ascending, once_permuted}
use Rattle.action_groups.proofs.leasts.least_of_each.Goals as goal

pub first_of_each-requires-clause-pairs : goal.first_of_each-requires-clause-pairs
first_of_each-requires-clause-pairs c =
    let P : ℕ × ℕ → Type 0 = λ p. (p.0 < 2 ^ c.args.width) × (p.1 < c.args.count) in
    rw c.deref.ensures.value (All-permutation P _ _ c.sort.ensures.permutation c.requires.pairs)

pub first_of_each-requires-clause-sorted : goal.first_of_each-requires-clause-sorted
first_of_each-requires-clause-sorted c = subst AreAscending (sym c.deref.ensures.value) (ascending c.sort.new.self.items c.in_ok-sort.ensures.sorted)

pub returns-clause-once : goal.returns-clause-once
returns-clause-once c =
    let P : Vec (ℕ × ℕ) Global → Type 0 = λ v. IsOnce c.deref.result.now v.items in
    let Q : Vec (ℕ × ℕ) Global → Type 0 = λ v. IsOnce c.args.pairs.items v.items in
    IfOk-weaker _ P Q (λ v h. once_permuted c.args.pairs.items c.sort.new.self.items v.items c.sort.ensures.permutation (subst (λ ps. IsOnce ps v.items) c.deref.ensures.value h)) c.first_of_each.ensures.once
