use Rattle.std.proofs.Common.{ℕ, ◌<◌, ◌^◌, sym, subst}
use Rattle.std.proofs.lemmas.Result.{IfOk-weaker}
use Rattle.std.proofs.lemmas.List.Sorted.{All-permutation}
use Rattle.action_groups.specs.declared.ranks.Ranked.{Ranked}
use Rattle.action_groups.specs.Rank.{IsNumbering}
use Rattle.action_groups.proofs.Numbering.{AreAscending, ascending, numbering_permuted}
use Rattle.action_groups.proofs.ranks.rank.Goals as goal

pub rank_sorted-requires-clause-pairs : goal.rank_sorted-requires-clause-pairs
rank_sorted-requires-clause-pairs c =
    let P : ℕ × ℕ → Type 0 = λ p. (p.0 < 2 ^ c.args.width) × (p.1 < c.args.count) in
    rw c.deref.ensures.value (All-permutation P _ _ c.sort.ensures.permutation c.requires.pairs)

pub rank_sorted-requires-clause-sorted : goal.rank_sorted-requires-clause-sorted
rank_sorted-requires-clause-sorted c = subst AreAscending (sym c.deref.ensures.value) (ascending c.sort.new.self.items c.in_ok-sort.ensures.sorted)

pub returns-clause-numbering : goal.returns-clause-numbering
returns-clause-numbering c =
    let P : Ranked → Type 0 = λ r. IsNumbering c.deref.result.now r.order.items r.numbers.items in
    let Q : Ranked → Type 0 = λ r. IsNumbering c.args.pairs.items r.order.items r.numbers.items in
    let step : (r : Ranked) → P r → Q r = λ r h.
    numbering_permuted c.args.pairs.items c.sort.new.self.items r.order.items r.numbers.items c.sort.ensures.permutation
    (subst (λ ps. IsNumbering ps r.order.items r.numbers.items) c.deref.ensures.value h) in
    IfOk-weaker _ P Q step c.rank_sorted.ensures.numbering
