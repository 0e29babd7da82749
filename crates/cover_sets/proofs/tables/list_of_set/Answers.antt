use Rattle.std.proofs.Common.{◌≡◌, ◌+◌, ◌≤◌, drop, None, Some, length, arith, ap, sym, subst, ◌∙◌}
use Rattle.std.proofs.lemmas.List.Sorted.{length_permutation}
use Rattle.cover_sets.specs.Bits.{set_of}
use Rattle.cover_sets.specs.Covers.{ascending, set_row, with_members}
use Rattle.cover_sets.specs.Union.{AreConsistent, AreDifferent, covers_of}
use Rattle.cover_sets.proofs.FormulaRows.{consistent_none, member_none, member_wide_row, members_end, no_member, one_list, row_none_told, set_step, set_wide}
use Rattle.cover_sets.proofs.Unions.{err_told}
use Rattle.cover_sets.proofs.Unordered.{products_unordered}
use Rattle.cover_sets.proofs.tables.list_of_set.Goals as goal
use Rattle.cover_sets.proofs.tables.list_of_set.Goals.{then-contains+in_ok-row+in_ok-list-2, else-contains}

pub loop-n-init : goal.loop-n-init
loop-n-init c = (
  omega (arith, ap length c.in_ok-list.ensures),
  one_list c.args.opposites.now c.in_ok-list.list.items _ c.in_ok-list.ensures (consistent_none c.args.opposites.now),
  (no_member c.args.opposites.now (set_of c.args.set.now) c.args.rows.now c.in_ok-list.list.items (ap covers_of c.in_ok-list.ensures)).0,
  (no_member c.args.opposites.now (set_of c.args.set.now) c.args.rows.now c.in_ok-list.list.items (ap covers_of c.in_ok-list.ensures)).1,
)

pub loop-n-preserved : goal.loop-n-preserved
loop-n-preserved c =
    let pairs = c.args.opposites.now in
    let set = set_of c.args.set.now in
    let rows = c.args.rows.now in
    let old = c.loop-n.list in
    elim c.if-contains.branch [
      | then-contains+in_ok-row+in_ok-list-2 w ↦
          subst (λ v. (length v.items ≤ 1024) × AreConsistent pairs v.items × (with_members pairs set (c.loop-n.n + 1) (drop (c.loop-n.n + 1) rows) (Some (ascending (covers_of v.items))) ≡ set_row pairs rows set) × AreDifferent (covers_of v.items)) (sym w.list-is) (
            w.in_ok-list-2.ensures.narrow,
            w.in_ok-list-2.ensures.consistent,
            set_step pairs set c.loop-n.n rows (ascending (covers_of old.items)) (covers_of w.deref.result.now) _ _ _ (omega arith) (sym c.contains.ensures ∙ w.if-contains.true) c.loop-n.invariant.2 w.in_ok-row.ensures.value
                (products_unordered pairs old.items w.deref.result.now w.in_ok-row.row.now w.deref.ensures.value) w.in_ok-list-2.ensures.value,
            w.in_ok-list-2.ensures.different,
          )
      | else-contains w ↦
          subst (λ v. (length v.items ≤ 1024) × AreConsistent pairs v.items × (with_members pairs set (c.loop-n.n + 1) (drop (c.loop-n.n + 1) rows) (Some (ascending (covers_of v.items))) ≡ set_row pairs rows set) × AreDifferent (covers_of v.items)) (sym w.list-is)
          (c.loop-n.invariant.0, c.loop-n.invariant.1, member_none pairs set c.loop-n.n rows _ _ None (omega arith) (sym c.contains.ensures ∙ w.if-contains.false) c.loop-n.invariant.2, c.loop-n.invariant.3)
    ]

pub returns-in_err-row-clause-wide : goal.returns-in_err-row-clause-wide
returns-in_err-row-clause-wide c =
    row_none_told c.from_residual-in_err-row.result c.in_err-row.field-0.0 _ c.from_residual-in_err-row.ensures.1
    (member_wide_row c.args.opposites.now (set_of c.args.set.now) c.loop-n.n c.args.rows.now (Some (ascending (covers_of c.loop-n.list.items))) _ None (omega arith) (sym c.contains.ensures ∙ c.if-contains.true)
    c.loop-n.invariant.2 c.in_err-row.ensures.wide)

pub returns-in_err-list-2-clause-wide : goal.returns-in_err-list-2-clause-wide
returns-in_err-list-2-clause-wide c =
    err_told c.from_residual-in_err-list-2.result c.in_err-list-2.field-0.0 _ c.from_residual-in_err-list-2.ensures.1
    (λ e. set_wide c.args.opposites.now (set_of c.args.set.now) c.loop-n.n c.args.rows.now (ascending (covers_of c.loop-n.list.items)) (covers_of c.deref.result.now) _ _ (omega arith) (sym c.contains.ensures ∙ c.if-contains.true)
    c.loop-n.invariant.2 c.in_ok-row.ensures.value (products_unordered c.args.opposites.now c.loop-n.list.items c.deref.result.now c.in_ok-row.row.now c.deref.ensures.value) (c.in_err-list-2.ensures.wide e))

pub returns-clause-value : goal.returns-clause-value
returns-clause-value c =
    members_end c.args.opposites.now (set_of c.args.set.now) c.loop-n.n c.args.rows.now (Some (ascending (covers_of c.loop-n.list.items))) _ (omega arith) c.loop-n.invariant.2
    ∙ ap Some (sym c.in_ok-ordered.ensures.value)

pub returns-clause-narrow : goal.returns-clause-narrow
returns-clause-narrow c = omega (arith, c.loop-n.invariant.0, length_permutation _ _ c.in_ok-ordered.ensures.all)
