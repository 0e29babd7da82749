use Rattle.std.proofs.Common.{◌≡◌, arith, rules}
use Rattle.std.proofs.lemmas.List.{length-map}
use Rattle.std.proofs.lemmas.List.Sorted.{All-permutation, IsNonDecreasingBy-from_sort_by_key, IsPermutation-map}
use Rattle.cover_sets.specs.Bits.{size_of, sets_of}
use Rattle.cover_sets.specs.Union.{covers_of, union_at}
use Rattle.cover_sets.proofs.Unions.{all_unions, by_sizes}
use Rattle.cover_sets.proofs.reductions.unions_of.Goals as goal

pub returns-clause-all : goal.returns-clause-all
returns-clause-all c =
    let xs = covers_of c.args.xs.now in
    let ys = covers_of c.args.ys.now in
    all_unions c.args.opposites.now xs ys _ _ c.loop-left.left (omega (arith, length-map c.args.xs.now sets_of)) c.loop-left.invariant.2
    (IsPermutation-map (union_at xs ys) _ _ c.in_ok-sort_by_key.ensures.permutation)

pub returns-clause-order : goal.returns-clause-order
returns-clause-order c =
    let xs = covers_of c.args.xs.now in
    let ys = covers_of c.args.ys.now in
    by_sizes xs ys _
    (IsNonDecreasingBy-from_sort_by_key (λ u. u.size) _ c.in_ok-sort_by_key.ensures.sorted (λ a r q k. search rules))
    (All-permutation (λ u. u.size ≡ size_of (union_at xs ys u)) _ _ c.in_ok-sort_by_key.ensures.permutation c.loop-left.invariant.1)
