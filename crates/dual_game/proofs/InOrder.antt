-- A game whose actions and classes are those of letters, numbered by their least ones, has its classes and options in order.
use Rattle.std.proofs.Common.{◌≡◌, ℕ, ◌<◌, ◌≤◌, ◌^◌, Bool, true, false, length, nat_lt, refl, sym, ◌∙◌, ap, subst, arith}
use borrow.Author.Tests.{ltb-true, ltb-false}
use Rattle.word_core.specs.declared.names.Kind.{Kind}
use Rattle.word_core.specs.declared.names.Kind.TheVariants.{First, Second}
use Rattle.word_core.specs.Automaton.{AutomatonData}
use Rattle.word_core.proofs.TreeLabels.{label_of-all}
use Rattle.game_form.specs.Game.{GameData, IsGame, class_at, class_of, action_of, option_at, of_first, of_second, own_width, other_width}
use Rattle.action_groups.specs.Grouped.{IsGrouped}
use Rattle.strategy_play.specs.Ordered.{order_of, IsInOrder}

module _ (a : AutomatonData) (g : GameData) (known : IsGame g) (is : IsGrouped a g) where
  class_within : (x : ℕ) → class_of g x < length g.classes
  class_within x = label_of-all (λ l. l < length g.classes) g.firsts known.firsts.tree known.firsts.labels x

  -- no valuation is below the least one of its class
  least : (x : ℕ) → (class_at g (class_of g x)).least ≤ x
  least x = by (nat_lt x (class_at g (class_of g x)).least) refl
    where
      by : (b : Bool) → nat_lt x (class_at g (class_of g x)).least ≡ b → (class_at g (class_of g x)).least ≤ x
      by true e =
          let less = (is.classes (class_of g x) (class_within x)).before x (ltb-true x (class_at g (class_of g x)).least e) in
          absurd (omega (arith, less))
      by false e = ltb-false x (class_at g (class_of g x)).least e

  -- classes ascend by their least valuations
  ascend : (i j : ℕ) → i ≤ j → j < length g.classes → (class_at g i).least ≤ (class_at g j).least
  ascend i j le lj = by (nat_lt (class_at g j).least (class_at g i).least) refl
    where
      by : (b : Bool) → nat_lt (class_at g j).least (class_at g i).least ≡ b → (class_at g i).least ≤ (class_at g j).least
      by true e =
          let li : i < length g.classes = omega arith in
          let less = (is.classes i li).before (class_at g j).least (ltb-true (class_at g j).least (class_at g i).least e) in
          let has = (is.classes j lj).has in
          absurd (omega (arith, less, has, le))
      by false e = ltb-false (class_at g j).least (class_at g i).least e

  by_kind : (k : Kind) → g.kind ≡ k → order_of k g
  by_kind First e = (λ own l. least own, ascend)
  by_kind Second e = (
    λ own other lo lx.
        let first = subst (λ k. other < 2 ^ of_first k (own_width g) (other_width g)) (sym e) lx in
        let second = subst (λ k. own < 2 ^ of_second k (own_width g) (other_width g)) (sym e) lo in
        let i = (is.options other first).least own second in
        (i.0, i.1, i.2 ∙ ap (λ k. action_of g (of_first k other own) (of_second k other own)) e, i.3),
    λ c i j lc le lj. rising c i j lc lj (nat_lt i j) refl le,
  )
    where
      rising : (c i j : ℕ) → c < length g.classes → j < length (class_at g c).options → (b : Bool) → nat_lt i j ≡ b → i ≤ j → (option_at (class_at g c) i).1 ≤ (option_at (class_at g c) j).1
      rising c i j lc lj true t le =
          let h = is.classes c lc in
          let here = subst (λ n. j < length (class_at g n).options) (sym h.has) lj in
          let first = (known.classes c lc).least in
          let less = ((is.options (class_at g c).least first).rising i j (0, 0) (ltb-true i j t) here).0 in
          let same = subst (λ n. (option_at (class_at g n) i).1 < (option_at (class_at g n) j).1) h.has less in
          omega (arith, same)
      rising c i j lc lj false t le =
          let same : i ≡ j = omega (arith, ltb-false i j t, le) in
          let at = ap (λ k. (option_at (class_at g c) k).1) same in
          omega (arith, at)

  pub in_order : IsInOrder g
  in_order = by_kind g.kind refl
