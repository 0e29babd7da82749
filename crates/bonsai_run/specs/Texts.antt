-- The texts that an order names.
use Rattle.std.specs.Prelude.{◌≡◌, ℕ, ◌<◌, ◌≤◌, Bool, List, Option, Some, length}
use Rattle.shelf_io.specs.Texts.{Texts, text_of}
use Rattle.tlsf_basic.specs.declared.specifications.Spec.{Spec}
use Rattle.tlsf_basic.specs.Specification.{IsSpec, signal_count}
use Rattle.word_core.specs.Lasso.{LassoData}
use Rattle.word_core.specs.Machine.{MachineData, IsMachine}
use Rattle.machine_text.specs.Lassos.{IsLasso, lasso_text}
use Rattle.machine_text.specs.Machines.{Spells}

-- the text under a name, where the shelf tells its texts
abbrev pub IsUnder : Option Texts → List ℕ → List ℕ → Type 0
IsUnder texts name text = (told : Texts) → texts ≡ Some told → text_of told name ≡ Some text

-- there is a text of at most 1,048,576 bytes under a name, and it is this specification
pub record IsSpecOf (texts : Option Texts) (name : List ℕ) (as_written : Bool) (spec : Spec) : Type 0 where
  pub text : List ℕ
  pub under : IsUnder texts name text
  pub short : length text ≤ 1048576
  pub is : IsSpec text as_written spec

-- the text under a name, of at most 1,048,576 bytes, is that of a lasso over the specification's signals
pub record IsLassoOf (texts : Option Texts) (name : List ℕ) (spec : Spec) (w : LassoData) : Type 0 where
  pub text : List ℕ
  pub under : IsUnder texts name text
  pub short : length text ≤ 1048576
  pub is : IsLasso (signal_count spec.names) w
  pub spells : text ≡ lasso_text (signal_count spec.names) w

-- the text under a name, of at most 1,048,576 bytes, is that of a machine over the specification's names, perhaps behind a
-- verdict and a bound
pub record IsMachineIn (texts : Option Texts) (name : List ℕ) (spec : Spec) (m : MachineData) : Type 0 where
  pub text : List ℕ
  pub under : IsUnder texts name text
  pub short : length text ≤ 1048576
  pub is : IsMachine m
  pub spells : Spells spec.names text m

-- there is a longer text under a name
abbrev pub IsTooLong : Option Texts → List ℕ → Type 0
IsTooLong texts name = (told : Texts) → texts ≡ Some told → (text : List ℕ) × (text_of told name ≡ Some text) × (1048576 < length text)
