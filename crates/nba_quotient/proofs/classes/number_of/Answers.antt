use Rattle.nba_quotient.proofs.Numbers.{number_is, same_kind}
use Rattle.nba_quotient.proofs.classes.number_of.Goals as goal

pub returns : goal.returns
returns c = number_is _ same_kind c.args.kinds.now.keys c.insert_full.new.self.keys c.args.kind c.in_ok-number.number c.in_ok-number.ensures.keys c.in_ok-number.ensures.index
