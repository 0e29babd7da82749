use Rattle.std.proofs.lemmas.Bool.{and_parts}
use Rattle.bonsai_words.proofs.commands.sort.Goals as goal

pub returns-in-Ok : goal.returns-in-Ok
returns-in-Ok c = λ simple. (c.in-Ok.ensures.kinds simple, (c.in-Ok.ensures.matches (and_parts _ _ simple).0).0)
