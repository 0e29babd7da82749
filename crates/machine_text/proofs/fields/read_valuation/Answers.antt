use Rattle.machine_text.proofs.FieldLaws.{valuation_read}
use Rattle.machine_text.proofs.fields.read_valuation.Goals as goal

pub returns : goal.returns
returns c = valuation_read c.args.width c.args.text.now c.read_bits.result c.if-width-eq0.false c.read_bits.ensures
