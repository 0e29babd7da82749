use Rattle.std.proofs.Common.{◌≡◌, ℕ, ◌<◌, true, inl, inr, List, Bool, length, replicate, map, Vec, Global, ap, arith, false}
use Rattle.std.proofs.lemmas.List.{length-replicate}
use Rattle.witness_check.specs.declared.products.Arc.{Arc}
use Rattle.witness_check.specs.Levels.{is_in, IsVisited}
use Rattle.witness_check.proofs.TableLaws.{none_listed, nothing_in, visited_listed, visited_in, visited_sound}
use Rattle.witness_check.proofs.PathLaws.{closed_first, first_closed}
use Rattle.witness_check.proofs.levels.first_level.Goals as goal

abbrev items_of : Vec Arc Global → List Arc
items_of v = v.items

only_first : (t t' : List Bool) (f f' : List ℕ) (n : ℕ) → t ≡ replicate n false → 0 < length t → IsVisited 0 t f t' f' → (i : ℕ) → is_in t' i ≡ true → i ≡ 0
only_first t t' f f' n e l v i h = elim (visited_sound 0 t f t' f' l v i h) [ inl o ↦ absurd (nothing_in t n i e o) | inr s ↦ s ]

pub returns-clause-level : goal.returns-clause-level
returns-clause-level c =
    let A = map items_of c.args.arcs.now in
    let t = c.in_ok-reached.reached.items in
    let f = c.new-found.result.items in
    let t' = c.visit.new.reached.items in
    let f' = c.visit.new.found.items in
    let e : t ≡ replicate (length c.args.arcs.now) false = c.in_ok-reached.ensures.items_if_clones_equal (λ y h. h) in
    let l : 0 < length t = omega (arith, ap length e, length-replicate (length c.args.arcs.now) false, c.requires.some) in
    λ i. (
      λ h. closed_first A t' (only_first t t' f f' (length c.args.arcs.now) e l c.in_ok-visit.ensures) i ((c.in_ok-close.ensures.closed i).0 h),
      λ r. (c.in_ok-close.ensures.closed i).1 (first_closed A t' (visited_in 0 t f t' f' l c.in_ok-visit.ensures) i r),
    )

pub close-requires-clause-listed : goal.close-requires-clause-listed
close-requires-clause-listed c =
    let t = c.in_ok-reached.reached.items in
    let f = c.new-found.result.items in
    let e : t ≡ replicate (length c.args.arcs.now) false = c.in_ok-reached.ensures.items_if_clones_equal (λ y h. h) in
    let l : 0 < length t = omega (arith, ap length e, length-replicate (length c.args.arcs.now) false, c.requires.some) in
    visited_listed 0 t f c.visit.new.reached.items c.visit.new.found.items l c.in_ok-visit.ensures (none_listed t f (length c.args.arcs.now) e c.new-found.ensures.items)
