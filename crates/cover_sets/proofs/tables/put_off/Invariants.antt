use Rattle.std.proofs.Common.{◌≡◌, ◌+◌, length, take}
use Rattle.cover_sets.specs.Covers.{until_raw}
use Rattle.cover_sets.specs.Union.{covers_of}
use Rattle.cover_sets.proofs.tables.put_off.Given as goal

abbrev pub invariant-loop-f : goal.invariant-loop-f
invariant-loop-f l =
    (covers_of l.raw.items ≡ until_raw l.n (take l.f-index (covers_of l.fs)) (covers_of l.gs)) × (length l.raw.items ≡ length l.gs + l.f-index)
