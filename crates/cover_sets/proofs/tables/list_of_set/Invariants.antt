use Rattle.std.proofs.Common.{◌≡◌, ◌≤◌, length, drop, Some}
use Rattle.cover_sets.specs.Bits.{set_of}
use Rattle.cover_sets.specs.Covers.{ascending, set_row, with_members}
use Rattle.cover_sets.specs.Union.{AreConsistent, AreDifferent, covers_of}
use Rattle.cover_sets.proofs.tables.list_of_set.Given as goal

abbrev pub invariant-loop-n : goal.invariant-loop-n
invariant-loop-n l =
    (length l.list.items ≤ 1024)
    × AreConsistent l.opposites l.list.items
    × (with_members l.opposites (set_of l.set) l.n (drop l.n l.rows) (Some (ascending (covers_of l.list.items))) ≡ set_row l.opposites l.rows (set_of l.set))
    × AreDifferent (covers_of l.list.items)
