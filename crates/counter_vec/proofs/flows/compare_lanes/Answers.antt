use Rattle.std.proofs.Common.{arith, ◌∙◌, sym, ℕ, length}
use Rattle.std.specs.Prelude.{ℤ}
use Rattle.std.proofs.Common.{length-take}
use Rattle.std.proofs.lemmas.List.{get_or-take}
use Rattle.counter_vec.proofs.Vectors.{lexicographic_at, lexicographic_past, min_is_one}
use Rattle.counter_vec.proofs.flows.compare_lanes.Goals as goal

pub returns-then-p-shared : goal.returns-then-p-shared
returns-then-p-shared c =
    let p : ℕ = c.first_differs-p.result in
    let h = c.first_differs-p.ensures.before in
    let d = c.first_differs-p.ensures.differs in
    c.cmp.ensures ∙ lexicographic_at c.args.a.now c.args.b.now c.first_differs-p.result (omega arith) (omega arith)
    (λ q lt. sym (get_or-take c.min-shared.result c.args.a.now q _ (omega arith)) ∙ h q lt ∙ get_or-take c.min-shared.result c.args.b.now q _ (omega arith))
    (λ e. d (omega (arith, length-take {A = ℤ})) (get_or-take c.min-shared.result c.args.a.now p _ (omega arith) ∙ e ∙ sym (get_or-take c.min-shared.result c.args.b.now p _ (omega arith))))

pub returns-else-p-shared : goal.returns-else-p-shared
returns-else-p-shared c =
    let h = c.first_differs-p.ensures.before in
    c.cmp-else-p-shared.ensures ∙ lexicographic_past c.args.a.now c.args.b.now c.min-shared.result (omega arith) (omega arith) (min_is_one (length c.args.a.now) (length c.args.b.now) c.min-shared.result c.min-shared.ensures)
    (λ q lt. sym (get_or-take c.min-shared.result c.args.a.now q _ lt) ∙ h q (omega arith) ∙ get_or-take c.min-shared.result c.args.b.now q _ lt)
