use Rattle.std.proofs.Common.{◌<◌, ◌≤◌, length, refl, subst, arith}
use Rattle.shelf_io.specs.Texts.{Fetched}
use Rattle.bonsai_run.proofs.Fetches.{whole, longer}
use Rattle.bonsai_run.proofs.texts.text_of.Goals as goal

pub returns-then-len-gt-MOST_BYTES-clause-long : goal.returns-then-len-gt-MOST_BYTES-clause-long
returns-then-len-gt-MOST_BYTES-clause-long g c =
    let text = c.in-Ok.text.items in
    let long : 1048577 ≤ length text = omega (arith, c.len.ensures, c.if-len-gt-MOST_BYTES.true) in
    (refl, λ told is. longer told _ 1048577 text (subst (λ n. Fetched told n 1048577 text) c.named-asked.ensures (c.in-Ok.ensures.bytes told is)) long)

pub returns-else-len-gt-MOST_BYTES-clause-under : goal.returns-else-len-gt-MOST_BYTES-clause-under
returns-else-len-gt-MOST_BYTES-clause-under g c =
    let text = c.in-Ok.text.items in
    let short : length text < 1048577 = omega (arith, c.len.ensures, c.if-len-gt-MOST_BYTES.false) in
    λ told is. whole told _ 1048577 text (subst (λ n. Fetched told n 1048577 text) c.named-asked.ensures (c.in-Ok.ensures.bytes told is)) short

pub returns-else-len-gt-MOST_BYTES-clause-short : goal.returns-else-len-gt-MOST_BYTES-clause-short
returns-else-len-gt-MOST_BYTES-clause-short g c = omega (arith, c.len.ensures, c.if-len-gt-MOST_BYTES.false)
