use Rattle.std.proofs.Common.{subst}
use Rattle.bonsai_words.proofs.NumberLemmas.{BeginsWell, number_some, number_none}
use Rattle.bonsai_words.proofs.values.parse_number.Goals as goal

pub returns-in-Ok : goal.returns-in-Ok
returns-in-Ok c =
    let parsed = c.in-Ok.ensures.value.0 in
    let begins = subst BeginsWell c.as_bytes-bytes.ensures.value (c.if-bytes-eq43.false, c.if-bytes-gt1.either) in
    number_some c.args.text.now c.args.least c.args.most c.in-Ok.number begins parsed.0.0 parsed.1 c.if-least-number.true c.if-number-most.true

pub returns-in_default-3 : goal.returns-in_default-3
returns-in_default-3 c =
    let begins = subst BeginsWell c.as_bytes-bytes.ensures.value (c.if-bytes-eq43.false, c.if-bytes-gt1.either) in
    number_none c.args.text.now c.args.least c.args.most begins.0 c.ranges.most.fits c.in_default.ensures.value.0
