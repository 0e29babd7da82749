-- The sets that the code keeps as words.
use Rattle.std.specs.Prelude.{ℕ, ◌+◌, bit_or}
use Rattle.std.specs.Int.{w64, rotate_left}
use Rattle.std.specs.Int.RustNames.{count_ones}
use Rattle.cover_sets.specs.Numbers.{joined, or_all}
use Rattle.cover_sets.specs.Covers.{CoverSets}
use Rattle.cover_sets.specs.declared.bit_covers.BitCover.{BitCover}
use Rattle.cover_sets.specs.declared.number_sets.NumberSet.{NumberSet}

abbrev pub set_of : NumberSet → ℕ
set_of s = joined s.words

abbrev pub sets_of : BitCover → CoverSets
sets_of c = record { literals = set_of c.literals; next = set_of c.next; postponed = set_of c.postponed }

-- how many numbers the three sets have
abbrev pub size_of : CoverSets → ℕ
size_of c = count_ones c.literals + count_ones c.next + count_ones c.postponed

-- the words of each set in one, turned apart
abbrev pub signature_of : BitCover → ℕ
signature_of c = bit_or (bit_or (or_all c.literals.words) (rotate_left w64 (or_all c.next.words) 21)) (rotate_left w64 (or_all c.postponed.words) 42)
