use Rattle.std.proofs.Common.{◌∙◌, ap, sym, List}
use Rattle.std.specs.Prelude.{ℤ}
use Rattle.std.proofs.lemmas.List.Folds.{list_any_none}
use Rattle.std.proofs.lemmas.Option.{IfSome_then}
use Rattle.counter_vec.specs.Counters.{at_or_below}
use Rattle.game_core.specs.Front.{under}
use Rattle.game_core.proofs.Weaker.{none_weaker}
use Rattle.game_core.proofs.searches.find_by_step.Goals as goal

pub returns-clause-some : goal.returns-clause-some
returns-clause-some c =
    IfSome_then c.find_cover.result c.find_cover.ensures.under
    (λ _ hit. ap (λ (v : List ℤ). under c.args.vectors.now v) (sym c.in_ok-next.ensures) ∙ hit)

pub returns-clause-none : goal.returns-clause-none
returns-clause-none c =
    none_weaker c.find_cover.result c.find_cover.ensures.none
    (λ miss.
    ap (λ (v : List ℤ). under c.args.vectors.now v) (sym c.in_ok-next.ensures)
    ∙ list_any_none (λ e. at_or_below c.in_ok-next.next e) c.args.vectors.now miss)
