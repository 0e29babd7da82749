-- The labels that occur in a tree.
use Rattle.std.specs.Prelude.{◌≡◌, ◌≢◌, ℕ, ◌<◌, ◌≤◌, ◌^◌, List, [], ◌∷◌, ◌++◌, length, slice_index, nat_eq, if◌then◌else◌}
use Rattle.std.specs.List.{All, AllPairs, Contains, list_any}
use Rattle.word_core.specs.declared.branches.Branch.{Branch}
use Rattle.word_core.specs.Tree.{label_of}
use Rattle.letter_tree.specs.Sums.{HasLabelBy}

-- the labels of pairs, each once, in the order of the pairs
abbrev pub labels_from : List ℕ → List (ℕ × ℕ) → List ℕ
labels_from seen [] = seen
labels_from seen (p ∷ pairs) = labels_from (if list_any (nat_eq p.1) seen then seen else seen ++ p.1 ∷ []) pairs

abbrev pub labels_in : List (ℕ × ℕ) → List ℕ
labels_in pairs = labels_from [] pairs

-- pairs of a valuation and its label, ascending by valuation, no label twice; each valuation's label stands behind one that is at most it
pub record AreLeasts (width : ℕ) (nodes : List Branch) (pairs : List (ℕ × ℕ)) : Type 0 where
  pub each : All (λ p. (p.0 < 2 ^ width) × (label_of nodes p.0 ≡ p.1)) pairs
  pub all : (bits : ℕ) → HasLabelBy pairs (label_of nodes bits) bits
  pub rising : AllPairs (λ p q. p.0 ≤ q.0) pairs
  pub once : AllPairs (λ p q. p.1 ≢ q.1) pairs

-- the labels that occur, each once, in the order of their least valuations
pub record AreLabels (width : ℕ) (nodes : List Branch) (labels : List ℕ) : Type 0 where
  pub once : AllPairs (λ l m. l ≢ m) labels
  pub each : All (λ l. (bits : ℕ) × (bits < 2 ^ width) × (label_of nodes bits ≡ l)) labels
  pub all : (bits : ℕ) → Contains labels (label_of nodes bits)
  pub order : (i j bits : ℕ) → i < j → j < length labels → label_of nodes bits ≡ slice_index labels j → (b : ℕ) × (b < bits) × (label_of nodes b ≡ slice_index labels i)
