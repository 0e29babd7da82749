-- Formulas in normal form, by number.
use Rattle.std.specs.Prelude.{◌≡◌, ℕ, ◌+◌, ◌<◌, ◌≤◌, List, length, All, slice_index_or}
use Rattle.ltl_form.specs.declared.normals.Node.{Node}
use Rattle.ltl_form.specs.declared.normals.Node.TheVariants.{True, False, Lit, And, Or, Next, Until, Release}

pub record NormalData : Type 0 where
  pub nodes : List Node
  pub root : ℕ

-- formula n has its operands below n and its signal below 64
abbrev pub IsNodeAt : ℕ → Node → Type 0
IsNodeAt n True = Unit {0}
IsNodeAt n False = Unit {0}
IsNodeAt n (Lit signal positive) = signal < 64
IsNodeAt n (And f g) = (f < n) × (g < n)
IsNodeAt n (Or f g) = (f < n) × (g < n)
IsNodeAt n (Next f) = f < n
IsNodeAt n (Until f g) = (f < n) × (g < n)
IsNodeAt n (Release f g) = (f < n) × (g < n)

-- there are 1 to 512 formulas, and the root is the last one
pub record IsNormal (nodes : List Node) (root : ℕ) : Type 0 where
  pub last : root + 1 ≡ length nodes
  pub few : length nodes ≤ 512
  pub below : (n : ℕ) (d : Node) → n < length nodes → IsNodeAt n (slice_index_or nodes n d)

-- a literal's signal is below n
abbrev pub IsLiteralBelow : ℕ → Node → Type 0
IsLiteralBelow n (Lit signal positive) = signal < n
IsLiteralBelow n _ = Unit {0}

abbrev pub LiteralsBelow : ℕ → List Node → Type 0
LiteralsBelow n nodes = All (IsLiteralBelow n) nodes
