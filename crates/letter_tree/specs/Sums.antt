-- Least valuations that lead to places.
use Rattle.std.specs.Prelude.{◌≡◌, ◌≢◌, ℕ, ◌+◌, ◌%◌, ◌^◌, ◌<◌, ◌≤◌, ◌⊎◌, List, [], ◌∷◌, length, slice_get, Option, Some, None}
use Rattle.std.specs.List.{All, AllPairs, Contains}
use Rattle.word_core.specs.declared.branches.Branch.{Branch}
use Rattle.word_core.specs.declared.branches.Branch.TheVariants.{Leaf, Split}
use Rattle.word_core.specs.Tree.{label_at, label_of}
use Rattle.letter_tree.specs.Diagram.{top}

-- each sum at a node is below the bit of the signal that the node tests
abbrev pub AreSmall : ℕ → List Branch → List (Option ℕ) → Type 0
AreSmall width nodes sums = (place sum : ℕ) → slice_get sums place ≡ Some (Some sum) → sum < 2 ^ top width (slice_get nodes place)

-- the valuations that begin as a place's sum lead through the place
abbrev pub AreLeading : ℕ → List Branch → List (Option ℕ) → Type 0
AreLeading width nodes sums =
    (place sum : ℕ) → slice_get sums place ≡ Some (Some sum) → (bits : ℕ) → bits % 2 ^ top width (slice_get nodes place) ≡ sum → label_of nodes bits ≡ label_at nodes place bits

-- a place has a sum, and one that is at most this
abbrev pub IsSummed : List (Option ℕ) → ℕ → Type 0
IsSummed sums place = (sum : ℕ) × (slice_get sums place ≡ Some (Some sum))

abbrev pub HasSum : List (Option ℕ) → ℕ → ℕ → Type 0
HasSum sums place most = (sum : ℕ) × (slice_get sums place ≡ Some (Some sum)) × (sum ≤ most)

-- a sum was put in at a place, or one that is not greater was there
pub record IsLowered (old : List (Option ℕ)) (place sum : ℕ) (new : List (Option ℕ)) : Type 0 where
  pub count : length new ≡ length old
  pub from : (i v : ℕ) → slice_get new i ≡ Some (Some v) → ((i ≡ place) × (v ≡ sum)) ⊎ (slice_get old i ≡ Some (Some v))
  pub kept : (i most : ℕ) → HasSum old i most → HasSum new i most
  pub here : HasSum new place sum

-- both parts of each summed node from a place on have sums that are at most the node's with the part's bit
abbrev pub ArePassed : List Branch → ℕ → List (Option ℕ) → Type 0
ArePassed nodes from sums =
    (place s lo hi sum : ℕ) → from ≤ place → slice_get nodes place ≡ Some (Split s lo hi) → slice_get sums place ≡ Some (Some sum) → HasSum sums lo sum × HasSum sums hi (sum + 2 ^ s)

-- the sums while they are passed on, from the last node down to a place
pub record ArePassing (width : ℕ) (nodes : List Branch) (from : ℕ) (sums : List (Option ℕ)) : Type 0 where
  pub count : length sums ≡ length nodes
  pub begins : (last : ℕ) → last + 1 ≡ length nodes → HasSum sums last 0
  pub passed : ArePassed nodes from sums
  pub small : AreSmall width nodes sums
  pub leading : AreLeading width nodes sums

-- a leaf's label behind its sum, if it has one
abbrev pub label_pair : Branch → Option ℕ → List (ℕ × ℕ)
label_pair (Split signal low high) sum = []
label_pair (Leaf label) None = []
label_pair (Leaf label) (Some sum) = (sum, label) ∷ []

-- some pair has a label, behind a number that is at most this
abbrev pub HasLabelBy : List (ℕ × ℕ) → ℕ → ℕ → Type 0
HasLabelBy pairs label most = (p : ℕ × ℕ) × Contains pairs p × (p.1 ≡ label) × (p.0 ≤ most)

-- each leaf with a sum among the first nodes has its label in a pair, each pair is one of these, and no label comes twice
pub record ArePairsOf (nodes : List Branch) (sums : List (Option ℕ)) (upto : ℕ) (pairs : List (ℕ × ℕ)) : Type 0 where
  pub each : All (λ p. (place : ℕ) × (slice_get nodes place ≡ Some (Leaf p.1)) × (slice_get sums place ≡ Some (Some p.0)) × (place < upto)) pairs
  pub all : (place label sum : ℕ) → place < upto → slice_get nodes place ≡ Some (Leaf label) → slice_get sums place ≡ Some (Some sum) → Contains pairs (sum, label)
  pub once : AllPairs (λ p q. p.1 ≢ q.1) pairs
