-- A shelf in memory.
use Rattle.std.specs.Prelude.{◌==◌, ◌||◌, not, ℕ, Bool, List, Option, is_some, map, if◌then◌else◌, Vec, String, string_bytes}
use Rattle.std.specs.List.{list_any}
use Rattle.std.specs.declared.alloc.Global.{Global}
use Rattle.shelf_io.specs.Faults.{raised}
use Rattle.shelf_io.specs.Texts.{Texts, text_of}

-- the texts, the numbers of the calls that fail, how many calls there were, how many of them failed, and the name of the last one that did
pub record ShelfData : Type 0 where
  pub texts : Texts
  pub failing : List ℕ
  pub calls : ℕ
  pub faults : ℕ
  pub last_failed : Option (List ℕ)

-- owned texts as lists of bytes
abbrev pub texts_of : List (String Global × Vec ℕ Global) → Texts
texts_of = map (λ t. (string_bytes t.0, t.1.items))

-- the next call fails: its number is one of those, or there is no text of this name
abbrev pub next_fails : ShelfData → List ℕ → Bool
next_fails d name = list_any (λ n. n == raised d.calls) d.failing || not (is_some (text_of d.texts name))

-- the count of faults after a call
abbrev pub faults_after : Bool → ℕ → ℕ
faults_after fails n = if fails then raised n else n
