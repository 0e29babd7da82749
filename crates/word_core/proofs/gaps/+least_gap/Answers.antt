use Rattle.std.proofs.Common.{ℕ, ◌≡◌, ◌<◌, ◌≤◌, ◌-◌, ◌^◌, List, Option, Some, None, true, sym, ap, subst, ◌∙◌, arith}
use Rattle.std.specs.Prelude.{bit_and, bit_or, IsSomeAnd}
use Rattle.std.specs.Int.Bits.{and_zero_r}
use Rattle.std.proofs.lemmas.Nat.{and_assoc}
use Rattle.word_core.specs.declared.machines.Line.{Line}
use Rattle.word_core.specs.Cube.{holds}
use Rattle.word_core.specs.Machine.{choice}
use Rattle.word_core.specs.Gap.{IsLeastGap, IsSingle, lesser_of}
use Rattle.word_core.proofs.CubeHalves.{low_inside, high_inside, care_rises}
use Rattle.word_core.proofs.GapHalves.{same_gap, early, joined}
use Rattle.word_core.proofs.gaps.+least_gap.Goals as goal

-- the lowest free signal isn't among those of the cube
apart : (s free care : ℕ) → bit_and s free ≡ s → bit_and free care ≡ 0 → bit_and s care ≡ 0
apart s free care p f = ap (λ v. bit_and v care) (sym p) ∙ and_assoc care s free ∙ ap (bit_and s) f ∙ and_zero_r s

falls : (a b : ℕ) → a < b → b < 2 ^ 64 → 2 ^ 64 - b < 2 ^ 64 - a
falls a b l m = omega arith

pub least_gap-found-requires : goal.least_gap-found-requires
least_gap-found-requires t c =
    let inner = c.args.inner in
    let s = c.lowest_bit-signal.result in
    let free = apart s c.free_signals-free.result inner.care c.lowest_bit-signal.ensures.part c.free_signals-free.ensures.free in
    let r = care_rises inner.care inner.want s c.requires free c.lowest_bit-signal.ensures.some in
    (omega (arith, r, c.decreases), low_inside inner.care inner.want s c.requires free)

pub returns-then-is_at_most : goal.returns-then-is_at_most
returns-then-is_at_most t c =
    let inner = c.args.inner in
    let s = c.lowest_bit-signal.result in
    let lines = c.meeting-lines.result.now in
    let free = apart s c.free_signals-free.result inner.care c.lowest_bit-signal.ensures.part c.free_signals-free.ensures.free in
    go lines c.args.lines.now inner.care inner.want s c.requires free c.lowest_bit-signal.ensures.single c.meeting-lines.ensures.same c.least_gap-found.result c.least_gap-found.ensures (c.is_at_most.ensures c.if-is_at_most.true)
  where
    go : (lines all : List Line) (care want s : ℕ) (inside : bit_and want care ≡ want) (free : bit_and s care ≡ 0) → IsSingle s → ((x : ℕ) → holds (record { care = care; want = want }) x ≡ true → choice lines x ≡ choice all x) → (r : Option ℕ) → IsLeastGap lines (record { care = bit_or care s; want = want }) r → IsSomeAnd r (λ g. g ≤ bit_or want s) → IsLeastGap all (record { care = care; want = want }) r
    go lines all care want s inside free single same None h l = absurd l
    go lines all care want s inside free single same (Some g) h l =
        same_gap lines all (record { care = care; want = want }) (Some g) same (early lines care want s inside free single g h l)

pub least_gap-requires : goal.least_gap-requires
least_gap-requires t c =
    let inner = c.args.inner in
    let s = c.lowest_bit-signal.result in
    let free = apart s c.free_signals-free.result inner.care c.lowest_bit-signal.ensures.part c.free_signals-free.ensures.free in
    let r = care_rises inner.care inner.want s c.requires free c.lowest_bit-signal.ensures.some in
    (omega (arith, r, c.decreases), high_inside inner.care inner.want s c.requires free)

pub returns : goal.returns
returns t c =
    let inner = c.args.inner in
    let s = c.lowest_bit-signal.result in
    let lines = c.meeting-lines.result.now in
    let free = apart s c.free_signals-free.result inner.care c.lowest_bit-signal.ensures.part c.free_signals-free.ensures.free in
    subst (IsLeastGap c.args.lines.now inner) (sym c.lesser.ensures)
    (same_gap lines c.args.lines.now inner (lesser_of c.least_gap-found.result c.least_gap.result) c.meeting-lines.ensures.same
    (joined lines inner.care inner.want s c.requires free c.lowest_bit-signal.ensures.single c.least_gap-found.result c.least_gap.result c.least_gap-found.ensures c.least_gap.ensures))
