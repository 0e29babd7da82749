-- Rows of truth values, one for each position of a lasso.
use Rattle.std.specs.Prelude.{◌≡◌, ℕ, ◌<◌, Bool, false, List, length, slice_index_or}
use Rattle.std.specs.Prelude.{Vec}
use Rattle.std.specs.Global.{Global}
use Rattle.word_core.specs.Lasso.{LassoData, size}
use Rattle.ltl_form.specs.Tree.{Tree, truth}
use Rattle.ltl_form.specs.Meaning.{tree_holds}

-- what a row says at a position
abbrev pub at : List Bool → ℕ → Bool
at row p = slice_index_or row p false

-- a row tells at each position what f says there
pub record Tells (n : ℕ) (f : ℕ → Bool) (row : List Bool) : Type 0 where
  pub long : length row ≡ n
  pub says : (p : ℕ) → p < n → at row p ≡ f p

-- row n tells where tree n holds
abbrev pub AreRows : LassoData → List Tree → List (Vec Bool Global) → Type 0
AreRows w trees rows = (n : ℕ) (d : Vec Bool Global) → n < length rows → Tells (size w) (tree_holds w (slice_index_or trees n truth)) (slice_index_or rows n d).items
