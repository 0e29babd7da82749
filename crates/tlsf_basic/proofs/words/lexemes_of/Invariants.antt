use Rattle.std.proofs.Common.{◌≡◌, ◌++◌, drop}
use Rattle.tlsf_basic.specs.Words.{lexemes_of}
use Rattle.tlsf_basic.specs.declared.words.Zone.TheVariants.{Heading}
use Rattle.tlsf_basic.proofs.words.lexemes_of.Given as goal

abbrev pub invariant-loop-token : goal.invariant-loop-token
invariant-loop-token l =
    l.lexemes.items ++ lexemes_of l.text l.zone (drop l.token-index l.tokens) ≡ lexemes_of l.text Heading l.tokens
