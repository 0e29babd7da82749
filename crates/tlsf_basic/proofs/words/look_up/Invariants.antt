use Rattle.std.proofs.Common.{◌≡◌, drop, map}
use Rattle.tlsf_basic.specs.Words.{look_up}
use Rattle.tlsf_basic.proofs.words.look_up.Given as goal

abbrev pub invariant-loop-word : goal.invariant-loop-word
invariant-loop-word l =
    look_up (map (λ p. (p.0.now, p.1)) (drop l.word-index l.words)) l.bytes
    ≡ look_up (map (λ p. (p.0.now, p.1)) l.words) l.bytes
