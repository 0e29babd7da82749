-- What is written, and what is told of a fault.
use Rattle.std.specs.Prelude.{◌≡◌, ℕ, ◌≤◌, List, Option, Result, OnOk, OnErr}
use Rattle.shelf_io.specs.Faults.{Rose}
use Rattle.shelf_io.specs.Written.{appended, AppendsPrefix}

-- a text is appended to what was written, or a part of it where the count of faults rose
pub record Writes {T F : Type 0} (old new : Option (List ℕ)) (before now : ℕ) (text : List ℕ) (result : Result T F) : Type 0 where
  pub all : OnOk result (new ≡ appended old text)
  pub part : OnErr result (AppendsPrefix old new text)
  pub cause : OnErr result (Rose before now)
  pub later : before ≤ now

-- a part of a text was appended, and the whole where the count of faults didn't rise
pub record Tells (old new : Option (List ℕ)) (before now : ℕ) (text : List ℕ) : Type 0 where
  pub part : AppendsPrefix old new text
  pub whole : (Rose before now → ⊥) → new ≡ appended old text
