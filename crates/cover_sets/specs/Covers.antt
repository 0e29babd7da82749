-- Covers as triples of sets of numbers of formulas, and the covers of formulas and of sets of them.
use Rattle.std.specs.Prelude.{ℕ, ◌+◌, ◌^◌, Bool, true, false, not, ◌&&◌, ◌||◌, if◌then◌else◌, nat_eq, nat_le, bit_or, List, [], ◌∷◌, ◌++◌, length, map, fold, Option, Some, None, option_and_then, slice_index_or}
use Rattle.std.specs.List.{filter, flat_map, list_all, list_any, range_with_len}
use Rattle.std.specs.Ordering.{match_ordering, ordering_then}
use Rattle.std.specs.declared.cmp.Ordering.{Ordering}
use Rattle.ltl_form.specs.declared.normals.Node.{Node}
use Rattle.ltl_form.specs.declared.normals.Node.TheVariants.{True, False, Lit, And, Or, Next, Until, Release}
use Rattle.cover_sets.specs.Numbers.{has, is_part, set_cmp}

pub record CoverSets : Type 0 where
  pub literals : ℕ
  pub next : ℕ
  pub postponed : ℕ

abbrev pub no_demand : CoverSets
no_demand = record { literals = 0; next = 0; postponed = 0 }

-- what both covers demand
abbrev pub both : CoverSets → CoverSets → CoverSets
both a b = record { literals = bit_or a.literals b.literals; next = bit_or a.next b.next; postponed = bit_or a.postponed b.postponed }

-- the second cover contains the first one in all three sets
abbrev pub part_of : CoverSets → CoverSets → Bool
part_of a b = is_part a.literals b.literals && (is_part a.next b.next && is_part a.postponed b.postponed)

-- by literals, then next, then postponed
abbrev pub cover_cmp : CoverSets → CoverSets → Ordering
cover_cmp a b = ordering_then (ordering_then (set_cmp a.literals b.literals) (set_cmp a.next b.next)) (set_cmp a.postponed b.postponed)

-- ---- consistent covers

abbrev pub node_at : List Node → ℕ → Node
node_at nodes n = slice_index_or nodes n True

-- a signal and its negation
abbrev pub contrary : Node → Node → Bool
contrary (Lit x true) (Lit y false) = nat_eq x y
contrary _ _ = false

-- the numbers of the negations of a formula
abbrev pub negations : List Node → Node → List ℕ
negations nodes node = filter (λ m. contrary node (node_at nodes m)) (range_with_len 0 (length nodes))

-- a number with each of these
abbrev pub pairs_with : ℕ → List ℕ → List (ℕ × ℕ)
pairs_with n numbers = map (λ m. (n, m)) numbers

-- the pairs of a literal and its negation, by number
abbrev pub opposites : List Node → List (ℕ × ℕ)
opposites nodes = flat_map (λ n. pairs_with n (negations nodes (node_at nodes n))) (range_with_len 0 (length nodes))

-- no pair is in the set
abbrev pub consistent : List (ℕ × ℕ) → ℕ → Bool
consistent pairs set = not (list_any (λ p. has set p.0 && has set p.1) pairs)

-- ---- reduced lists

-- each cover of the list that is part of this one is this one
abbrev pub is_minimal : List CoverSets → CoverSets → Bool
is_minimal list c = list_all (λ d. not (part_of d c) || part_of c d) list

-- an ascending list with one more cover
abbrev pub placed : CoverSets → List CoverSets → List CoverSets
placed c [] = c ∷ []
placed c (d ∷ ds) = match_ordering (cover_cmp c d) (c ∷ d ∷ ds) (d ∷ ds) (d ∷ placed c ds)

-- the covers in their order, each once
abbrev pub ascending : List CoverSets → List CoverSets
ascending [] = []
ascending (c ∷ cs) = placed c (ascending cs)

abbrev pub minimal_of : List CoverSets → List CoverSets
minimal_of list = ascending (filter (is_minimal list) list)

-- the consistent covers that contain no other one, in their order
unfoldable pub reduced : List (ℕ × ℕ) → List CoverSets → List CoverSets
reduced pairs raw = minimal_of (filter (λ c. consistent pairs c.literals) raw)

-- ---- the covers of formulas

-- each cover of one list with each of the other
abbrev pub products : List CoverSets → List CoverSets → List CoverSets
products xs ys = flat_map (λ x. map (both x) ys) xs

abbrev pub only : ℕ → ℕ → ℕ → CoverSets
only literals next postponed = record { literals = literals; next = next; postponed = postponed }

-- a list of covers, or none where it or one that it needs has more than 1,024
abbrev pub Row : Type 0
Row = Option (List CoverSets)

abbrev pub narrow : List CoverSets → Row
narrow list = if nat_le (length list) 1024 then Some list else None

abbrev pub row_at : List Row → ℕ → Row
row_at rows n = slice_index_or rows n None

abbrev pub with_two : (List CoverSets → List CoverSets → List CoverSets) → Row → Row → Row
with_two f x y = option_and_then (λ xs. option_and_then (λ ys. Some (f xs ys)) y) x

-- f U g = g or (f and X (f U g)), where the second branch puts the until off
abbrev pub until_raw : ℕ → List CoverSets → List CoverSets → List CoverSets
until_raw n fs gs = gs ++ products fs (only 0 (2 ^ n) (2 ^ n) ∷ [])

-- f R g = g and (f or X (f R g))
abbrev pub release_raw : ℕ → List CoverSets → List CoverSets → List CoverSets
release_raw n fs gs = products gs (fs ++ only 0 (2 ^ n) 0 ∷ [])

-- the raw covers of formula n over the rows of the formulas before it
abbrev pub raw_of : List Row → ℕ → Node → Row
raw_of rows n True = Some (no_demand ∷ [])
raw_of rows n False = Some []
raw_of rows n (Lit signal positive) = Some (only (2 ^ n) 0 0 ∷ [])
raw_of rows n (And f g) = with_two products (row_at rows f) (row_at rows g)
raw_of rows n (Or f g) = with_two ◌++◌ (row_at rows f) (row_at rows g)
raw_of rows n (Next f) = Some (only 0 (2 ^ f) 0 ∷ [])
raw_of rows n (Until f g) = with_two (until_raw n) (row_at rows f) (row_at rows g)
raw_of rows n (Release f g) = with_two (release_raw n) (row_at rows f) (row_at rows g)

-- a raw list, reduced
abbrev pub reduced_row : List (ℕ × ℕ) → Row → Row
reduced_row pairs raw = option_and_then (λ list. narrow (reduced pairs list)) raw

-- the reduced lists of formulas by number, after those of earlier ones
unfoldable pub rows_after : List (ℕ × ℕ) → List Row → List Node → List Row
rows_after pairs rows nodes = fold (λ rs node. rs ++ reduced_row pairs (raw_of rs (length rs) node) ∷ []) rows nodes

unfoldable pub rows_of : List Node → List Row
rows_of nodes = rows_after (opposites nodes) [] nodes

-- the reduced list of a set and of one more formula
abbrev pub times : List (ℕ × ℕ) → Row → Row → Row
times pairs list row = reduced_row pairs (with_two products list row)

-- the members of a set from n on, in ascending order
abbrev pub with_members : List (ℕ × ℕ) → ℕ → ℕ → List Row → Row → Row
with_members pairs set n [] list = list
with_members pairs set n (row ∷ rows) list = with_members pairs set (n + 1) rows (if has set n then times pairs list row else list)

-- the reduced list of a set, by the rows of its formulas
unfoldable pub set_row : List (ℕ × ℕ) → List Row → ℕ → Row
set_row pairs rows set = with_members pairs set 0 rows (Some (no_demand ∷ []))
