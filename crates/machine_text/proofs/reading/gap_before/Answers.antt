use Rattle.std.proofs.Common.{map, sym}
use Rattle.std.proofs.lemmas.List.{length-map}
use Rattle.machine_text.proofs.GroupLaws.{items, gap_here, gap_before}
use Rattle.machine_text.proofs.reading.gap_before.Goals as goal

pub returns-in-None : goal.returns-in-None
returns-in-None c =
    λ more. gap_here c.args.others _ (map items c.args.states.now) more (sym (length-map c.args.states.now items)) c.in-None.ensures

pub returns-in-Some : goal.returns-in-Some
returns-in-Some c = λ more. gap_before c.args.others c.in-Some.gap (map items c.args.states.now) more c.in-Some.ensures
