-- Folded formulas by place.
use Rattle.std.specs.Prelude.{◌≡◌, ℕ, ◌<◌, ◌≤◌, List, [], ◌∷◌, ◌++◌, length, fold, slice_index_or}
use Rattle.ltl_form.specs.declared.forms.Form.{Form}
use Rattle.ltl_form.specs.declared.forms.Form.TheVariants.{True, False, Lit, And, Or, Next, Until, Release}
use Rattle.ltl_form.specs.declared.forms.Pair.{Pair}
use Rattle.ltl_form.specs.Tree.{Tree, truth, falsity, literal, conjoined, disjoined, following, until, release, Sides}

-- the operands lie before place n
abbrev pub IsFormAt : ℕ → Form → Type 0
IsFormAt n True = Unit {0}
IsFormAt n False = Unit {0}
IsFormAt n (Lit signal positive) = signal < 64
IsFormAt n (And f g) = (f < n) × (g < n)
IsFormAt n (Or f g) = (f < n) × (g < n)
IsFormAt n (Next f) = f < n
IsFormAt n (Until f g) = (f < n) × (g < n)
IsFormAt n (Release f g) = (f < n) × (g < n)

abbrev pub IsFormList : List Form → Type 0
IsFormList forms = (n : ℕ) (d : Form) → n < length forms → IsFormAt n (slice_index_or forms n d)

-- the tree of a form over those of the forms before it
abbrev pub tree_of : List Tree → Form → Tree
tree_of trees True = truth
tree_of trees False = falsity
tree_of trees (Lit signal positive) = literal signal positive
tree_of trees (And f g) = conjoined (slice_index_or trees f truth) (slice_index_or trees g truth)
tree_of trees (Or f g) = disjoined (slice_index_or trees f truth) (slice_index_or trees g truth)
tree_of trees (Next f) = following (slice_index_or trees f truth)
tree_of trees (Until f g) = until (slice_index_or trees f truth) (slice_index_or trees g truth)
tree_of trees (Release f g) = release (slice_index_or trees f truth) (slice_index_or trees g truth)

-- the trees of forms, after those of earlier ones
unfoldable pub trees_after : List Tree → List Form → List Tree
trees_after trees forms = fold (λ ts form. ts ++ tree_of ts form ∷ []) trees forms

abbrev pub tree_at : List Form → ℕ → Tree
tree_at forms at = slice_index_or (trees_after [] forms) at truth

abbrev pub sides_at : List Form → Pair → Sides
sides_at forms p = record { positive = tree_at forms p.positive; negative = tree_at forms p.negative }

-- no form is lost, and each keeps its place
pub record Keeps (old new : List Form) : Type 0 where
  pub longer : length old ≤ length new
  pub same : (at : ℕ) → at < length old → tree_at new at ≡ tree_at old at

-- a formula has a place
pub record Made (old new : List Form) (at : ℕ) (tree : Tree) : Type 0 where
  pub keeps : Keeps old new
  pub place : at < length new
  pub is : tree_at new at ≡ tree

abbrev pub IsPairBelow : ℕ → Pair → Type 0
IsPairBelow n p = (p.positive < n) × (p.negative < n)

-- a formula and its negation have places
pub record MadePair (old new : List Form) (p : Pair) (sides : Sides) : Type 0 where
  pub keeps : Keeps old new
  pub places : IsPairBelow (length new) p
  pub is : sides_at new p ≡ sides

-- two formulas with their negations have places
pub record MadeTwo (old new : List Form) (p q : Pair) (left right : Sides) : Type 0 where
  pub keeps : Keeps old new
  pub first : IsPairBelow (length new) p
  pub second : IsPairBelow (length new) q
  pub left_is : sides_at new p ≡ left
  pub right_is : sides_at new q ≡ right
