-- What a reduced list is, in terms of its members.
use Rattle.std.specs.Prelude.{◌≡◌, ℕ, ◌+◌, ◌<◌, ◌^◌, true, List, length, slice_index_or, All}
use Rattle.std.specs.List.{Contains}
use Rattle.std.specs.declared.cmp.Ordering.TheVariants.{Less}
use Rattle.cover_sets.specs.Covers.{CoverSets, consistent, cover_cmp, part_of, reduced}

-- sets of numbers below 512
pub record Narrow (c : CoverSets) : Type 0 where
  pub literals : c.literals < 2 ^ 512
  pub next : c.next < 2 ^ 512
  pub postponed : c.postponed < 2 ^ 512

-- the list has consistent covers of the raw list; none contains another cover of it that is consistent; each consistent
-- one contains one of them; and they ascend, each once
pub record IsReduced (pairs : List (ℕ × ℕ)) (raw list : List CoverSets) : Type 0 where
  pub from : (c : CoverSets) → Contains list c → Contains raw c × (consistent pairs c.literals ≡ true)
  pub minimal : (c d : CoverSets) → Contains list c → Contains raw d → consistent pairs d.literals ≡ true → part_of d c ≡ true → d ≡ c
  pub whole : (c : CoverSets) → Contains raw c → consistent pairs c.literals ≡ true → (d : CoverSets) × Contains list d × (part_of d c ≡ true)
  pub ascends : (k : ℕ) (d : CoverSets) → k + 1 < length list → cover_cmp (slice_index_or list k d) (slice_index_or list (k + 1) d) ≡ Less

-- of each raw list exactly one list is the reduced one, and it is the one that is computed
abbrev pub ReducedIsExact : Type 0
ReducedIsExact =
    (pairs : List (ℕ × ℕ)) (raw list : List CoverSets) → All Narrow raw
    → (IsReduced pairs raw list → list ≡ reduced pairs raw) × (list ≡ reduced pairs raw → IsReduced pairs raw list)
