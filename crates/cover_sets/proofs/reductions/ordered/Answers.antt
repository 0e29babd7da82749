use Rattle.std.proofs.Common.{rules, is_lt}
use Rattle.std.proofs.lemmas.List.Sorted.{answers_always, ranks_by}
use Rattle.cover_sets.specs.Bits.{sets_of}
use Rattle.cover_sets.specs.Covers.{cover_cmp}
use Rattle.cover_sets.proofs.Parts.{cover_cmp_total}
use Rattle.cover_sets.proofs.Unions.{sorted_is}
use Rattle.cover_sets.proofs.reductions.ordered.Goals as goal

pub returns-clause-value : goal.returns-clause-value
returns-clause-value c =
    sorted_is c.args.covers.items _ c.requires c.in_ok-sort_by.ensures.permutation
    (c.in_ok-sort_by.ensures.sorted (λ x y. is_lt (cover_cmp (sets_of x) (sets_of y))) (ranks_by cover_cmp_total sets_of) (answers_always _ _ _ (λ f a r g q. search rules)))
