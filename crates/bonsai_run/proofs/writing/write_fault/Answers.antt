use Rattle.std.proofs.Common.{ap, ◌++◌, codes}
use Rattle.bonsai_run.specs.declared.faults.Fault.TheVariants.{Unwritten, Usage, Unread, Text, Line, Gap, NotFirst, Length, Formulas, Covers, States, Memory}
use Rattle.bonsai_run.specs.Faults.{numbered_text}
use Rattle.bonsai_run.proofs.Appends.{told_as, same_text}
use Rattle.bonsai_run.proofs.writing.write_fault.Goals as goal

pub returns-in-Unwritten : goal.returns-in-Unwritten
returns-in-Unwritten g c = told_as _ _ _ _ _ _ _ (Unwritten) _ c.in-Unwritten.is c.write_line.ensures

pub returns-in-Usage : goal.returns-in-Usage
returns-in-Usage g c = told_as _ _ _ _ _ _ _ (Usage) _ c.in-Usage.is c.write_line-in-Usage.ensures

pub returns-in-Formulas : goal.returns-in-Formulas
returns-in-Formulas g c = told_as _ _ _ _ _ _ _ (Formulas) _ c.in-Formulas.is c.write_line-in-Formulas.ensures

pub returns-in-Covers : goal.returns-in-Covers
returns-in-Covers g c = told_as _ _ _ _ _ _ _ (Covers) _ c.in-Covers.is c.write_line-in-Covers.ensures

pub returns-in-States : goal.returns-in-States
returns-in-States g c = told_as _ _ _ _ _ _ _ (States) _ c.in-States.is c.write_line-in-States.ensures

pub returns-in-Memory : goal.returns-in-Memory
returns-in-Memory g c = told_as _ _ _ _ _ _ _ (Memory) _ c.in-Memory.is c.write_line-in-Memory.ensures

pub returns-in-Line : goal.returns-in-Line
returns-in-Line g c = told_as _ _ _ _ _ _ _ (Line c.in-Line.line) _ c.in-Line.is c.write_numbered-in-Line.ensures

pub returns-in-Gap : goal.returns-in-Gap
returns-in-Gap g c = told_as _ _ _ _ _ _ _ (Gap c.in-Gap.state) _ c.in-Gap.is c.write_numbered-in-Gap.ensures

pub returns-in-NotFirst : goal.returns-in-NotFirst
returns-in-NotFirst g c = told_as _ _ _ _ _ _ _ (NotFirst c.in-NotFirst.state) _ c.in-NotFirst.is c.write_numbered-in-NotFirst.ensures

pub returns-in-Unread : goal.returns-in-Unread
returns-in-Unread g c = told_as _ _ _ _ _ _ _ (Unread c.in-Unread.source) _ c.in-Unread.is (same_text _ _ _ _ _ _ _ (ap (λ w. codes "bonsai: cannot read " ++ w ++ codes "\n") c.named.ensures) c.write_named.ensures)

pub returns-in-Length : goal.returns-in-Length
returns-in-Length g c = told_as _ _ _ _ _ _ _ (Length c.in-Length.source) _ c.in-Length.is (same_text _ _ _ _ _ _ _ (ap (λ w. codes "bonsai: limit: length " ++ w ++ codes "\n") c.named-in-Length.ensures) c.write_named-in-Length.ensures)

pub returns-in-Text : goal.returns-in-Text
returns-in-Text g c = told_as _ _ _ _ _ _ _ (Text c.in-Text.what c.in-Text.place) _ c.in-Text.is (same_text _ _ _ _ _ _ _ (ap (λ w. numbered_text c.args.name.now (codes ": byte ") c.in-Text.place w) c.fault_words.ensures) c.write_numbered.ensures)
