use Rattle.word_core.proofs.BitLaws.{shr_zero}
use Rattle.word_core.proofs.cubes.fits.Goals as goal

pub returns-else-width-eq64 : goal.returns-else-width-eq64
returns-else-width-eq64 c = shr_zero c.args.bits c.args.width
