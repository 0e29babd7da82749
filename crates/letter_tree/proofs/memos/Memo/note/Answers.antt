use Rattle.letter_tree.proofs.Notes.{IsNoted-updates}
use Rattle.letter_tree.proofs.memos.Memo.note.Goals as goal

pub returns : goal.returns
returns c = rw (← c.self.view_is) (IsNoted-updates _ _ _ _ _ (c.in_ok-insert.ensures.updates).0)
