-- What takes an entry's place is what remains of it, for both kinds of games.
use Rattle.std.proofs.Common.{◌≡◌, ◌∙◌, ℕ, true, List, Option, Result, Vec, IfOk, IfSome}
use Rattle.std.specs.Prelude.{ℤ}
use Rattle.std.specs.List.{All, AllPairs, list_any, list_all}
use Rattle.std.specs.declared.alloc.Global.{Global}
use Rattle.word_core.specs.declared.names.Kind.TheVariants.{First, Second}
use Rattle.counter_vec.specs.Counters.{at_or_below}
use Rattle.cpre_step.specs.Refinement.{action_works}
use Rattle.game_form.specs.Game.{GameData, IsGame}
use Rattle.game_form.specs.Vector.{IsVector}
use Rattle.game_core.specs.Front.{IsApart, IsPiece, under}
use Rattle.game_core.specs.Plan.{IsPlan, each_planned}
use Rattle.game_core.specs.Remains.{AreRemains}
use Rattle.game_core.proofs.Weaker.{ok_some_three}
use Rattle.game_core.proofs.Works.{first_plan, second_plan}

module _ {E : Type 0} (g : GameData) (known : IsGame g) (plan : List (Vec ℕ Global)) (h : IsPlan g plan) (vs : List (List ℤ)) (f : List ℤ) (r : Result (Option (Vec (List ℤ) Global)) E) where
  pub second_remains : g.kind ≡ Second
      → IfOk r (λ o. IfSome o (λ v. All (IsPiece f) v.items)) → IfOk r (λ o. IfSome o (λ v. AllPairs IsApart v.items))
      → IfOk r (λ o. IfSome o (λ v. (u : List ℤ) → IsVector g u → at_or_below u f ≡ true → each_planned (action_works g vs u) plan ≡ true → under v.items u ≡ true))
      → IfOk r (λ o. IfSome o (λ v. AreRemains g vs f v.items))
  second_remains kind =
      ok_some_three (λ (v : Vec (List ℤ) Global). All (IsPiece f) v.items) (λ v. AllPairs IsApart v.items)
      (λ v. (u : List ℤ) → IsVector g u → at_or_below u f ≡ true → each_planned (action_works g vs u) plan ≡ true → under v.items u ≡ true) (λ v. AreRemains g vs f v.items) r
      (λ v low apart whole. record {
        below = low;
        apart = apart;
        whole = λ u is below k. whole u is below (second_plan g known plan h vs u kind ∙ k);
      })

  pub first_remains : g.kind ≡ First
      → IfOk r (λ o. IfSome o (λ v. All (IsPiece f) v.items)) → IfOk r (λ o. IfSome o (λ v. AllPairs IsApart v.items))
      → IfOk r (λ o. IfSome o (λ v. (u : List ℤ) → IsVector g u → at_or_below u f ≡ true → list_any (λ c. list_all (action_works g vs u) c.items) plan ≡ true → under v.items u ≡ true))
      → IfOk r (λ o. IfSome o (λ v. AreRemains g vs f v.items))
  first_remains kind =
      ok_some_three (λ (v : Vec (List ℤ) Global). All (IsPiece f) v.items) (λ v. AllPairs IsApart v.items)
      (λ v. (u : List ℤ) → IsVector g u → at_or_below u f ≡ true → list_any (λ (c : Vec ℕ Global). list_all (action_works g vs u) c.items) plan ≡ true → under v.items u ≡ true)
      (λ v. AreRemains g vs f v.items) r
      (λ v low apart whole. record {
        below = low;
        apart = apart;
        whole = λ u is below k. whole u is below (first_plan g known plan h vs u kind ∙ k);
      })
