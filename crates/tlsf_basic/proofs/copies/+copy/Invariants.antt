use Rattle.std.proofs.Common.{◌≡◌, take}
use Rattle.tlsf_basic.proofs.copies.+copy.Given as goal

abbrev pub invariant-copy_items-loop-formula : goal.invariant-copy_items-loop-formula
invariant-copy_items-loop-formula l = l.out ≡ take l.formula-index l.formula-items
