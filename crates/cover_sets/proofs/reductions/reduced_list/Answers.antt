use Rattle.std.proofs.Common.{◌≡◌, Some, None, ap, subst}
use Rattle.std.specs.Result.{IfOk, IfErr}
use Rattle.cover_sets.specs.declared.cover_lists.CoverError.TheVariants.{TooWide}
use Rattle.cover_sets.specs.Covers.{Row, narrow, reduced}
use Rattle.cover_sets.specs.Union.{covers_of}
use Rattle.cover_sets.proofs.FormulaRows.{consistent_none, one_consistent, products_nothing}
use Rattle.cover_sets.proofs.reductions.reduced_list.Goals as goal

pub product-requires-clause-ys : goal.product-requires-clause-ys
product-requires-clause-ys c = one_consistent c.args.opposites.now _ (consistent_none c.args.opposites.now)

pub returns-clause-value : goal.returns-clause-value
returns-clause-value c =
    subst (λ (row : Row). IfOk c.product.result (λ list. row ≡ Some (covers_of list.items))) (ap (λ cs. narrow (reduced c.args.opposites.now cs)) (products_nothing (covers_of c.args.raw.now)))
    c.product.ensures.value

pub returns-clause-wide : goal.returns-clause-wide
returns-clause-wide c =
    subst (λ (row : Row). IfErr c.product.result (λ e. e ≡ TooWide → row ≡ None)) (ap (λ cs. narrow (reduced c.args.opposites.now cs)) (products_nothing (covers_of c.args.raw.now)))
    c.product.ensures.wide
