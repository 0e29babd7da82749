use Rattle.std.proofs.Common.{◌≡◌, ◌+◌, Bool, true, false, not, inl, inr, List, map, Vec, Global, refl, sym, subst, arith}
use Rattle.std.specs.Prelude.{IsSomeAnd}
use Rattle.std.proofs.lemmas.Bool.{cases_lt, not-true}
use Rattle.word_core.specs.Run.{IsRunFrom}
use Rattle.witness_check.specs.declared.products.Arc.{Arc}
use Rattle.witness_check.specs.Levels.{AreWithin, IsReached}
use Rattle.witness_check.proofs.RunLaws.{keeps_if, not_keeps, product_within}
use Rattle.witness_check.proofs.levels.keeps.Goals as goal

abbrev items_of : Vec Arc Global → List Arc
items_of v = v.items

pub returns-in_default : goal.returns-in_default
returns-in_default c =
    (λ t letters edges play run. absurd (subst (λ o. IsSomeAnd o (λ q. IsRunFrom c.args.a.now q letters edges)) (sym c.in_default.ensures.value) run), λ k. refl)

pub exceeds-requires-clause-within : goal.exceeds-requires-clause-within
exceeds-requires-clause-within c =
    let p = c.in_ok-arcs.ensures.product in
    subst (λ xs. AreWithin (map items_of xs)) (sym c.deref.ensures.value)
    (product_within c.args.a.now c.args.m.now c.in-Some.init p.0 (map items_of c.in_ok-arcs.arcs.items) p.1)

pub returns : goal.returns
returns c =
    let a = c.args.a.now in
    let m = c.args.m.now in
    let A = map items_of c.in_ok-arcs.arcs.items in
    let p = c.in_ok-arcs.ensures.product in
    let init = sym c.in-Some.ensures.value in
    let at = c.deref.ensures.value in (
      λ h. keeps_if a m c.in-Some.init p.0 A p.1 init c.args.k
          (λ d j q. elim (cases_lt c.args.k d) [
            | inl lt ↦ absurd (c.in_ok-is_over.ensures.kept (not-true c.in_ok-is_over.is_over h) j (subst (λ xs. IsReached (map items_of xs) (c.args.k + 1) j) (sym at) (d, omega arith, q)))
            | inr ge ↦ ge
          ]),
      λ keep. go c.in_ok-is_over.is_over (λ e.
          (let r = c.in_ok-is_over.ensures.over e in
          let q = subst (λ xs. IsReached (map items_of xs) (c.args.k + 1) r.0) at r.1 in
          not_keeps a m c.in-Some.init p.0 A p.1 c.in_ok-arcs.ensures.machine init c.args.k q.0 r.0 q.2 (omega (arith, q.1)) keep)),
    )
  where
    go : (b : Bool) → (b ≡ true → ⊥) → not b ≡ true
    go true n = absurd (n refl)
    go false n = refl
