use Rattle.std.proofs.Common.{◌∙◌}
use Rattle.letter_tree.specs.Memo.{noted}
use Rattle.letter_tree.proofs.memos.Memo.get.Goals as goal

pub returns : goal.returns
unfolding noted
returns c = rw (← c.self.view_is) (c.copied.ensures ∙ c.get.ensures.value)
