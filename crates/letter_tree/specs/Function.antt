-- The functions of trees.
use Rattle.std.specs.Prelude.{◌≡◌, ℕ, ◌<◌, ◌^◌}
use Rattle.word_core.specs.Tree.{label_of}
use Rattle.letter_tree.specs.Diagram.{TreeData}

-- two trees have one width, and the same label at each valuation of it
abbrev pub AreOneFunction : TreeData → TreeData → Type 0
AreOneFunction a b = (a.width ≡ b.width) × ((bits : ℕ) → bits < 2 ^ a.width → label_of a.nodes bits ≡ label_of b.nodes bits)
