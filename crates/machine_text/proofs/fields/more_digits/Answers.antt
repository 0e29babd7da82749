use Rattle.std.proofs.Common.{◌≡◌, ◌+◌, ◌-◌, ◌*◌, ◌≤◌, ◌^◌, get_or, true, ap, sym, ◌∙◌, arith}
use Rattle.std.specs.Prelude.{length}
use Rattle.std.proofs.lemmas.List.{take_rest, drop_all}
use Rattle.machine_text.specs.Fields.{is_digit}
use Rattle.machine_text.proofs.DigitLaws.{digits_past, digits_here, digits_done}
use Rattle.machine_text.proofs.fields.more_digits.Goals as goal

pub returns-in_err-checked_mul : goal.returns-in_err-checked_mul
returns-in_err-checked_mul c =
    let d : is_digit (get_or c.args.text.now c.loop-place.place 0) ≡ true = sym c.is_digit.ensures ∙ c.if-not-is_digit.false in
    let big : 2 ^ 64 ≤ c.loop-place.value * 10 + (get_or c.args.text.now c.loop-place.place 0 - 48) = omega (arith, c.in_err-checked_mul.ensures) in
    rw c.from_residual.ensures (digits_past c.args.number c.loop-place.value c.loop-place.place c.args.text.now c.loop-place-test.true d c.loop-place.invariant.same big)

pub returns-in_err-value : goal.returns-in_err-value
returns-in_err-value c =
    let d : is_digit (get_or c.args.text.now c.loop-place.place 0) ≡ true = sym c.is_digit.ensures ∙ c.if-not-is_digit.false in
    let big : 2 ^ 64 ≤ c.loop-place.value * 10 + (get_or c.args.text.now c.loop-place.place 0 - 48) = omega (arith, c.in_err-value.ensures, c.in_ok-checked_mul.ensures, c.from.ensures) in
    rw c.from_residual-in_err-value.ensures (digits_past c.args.number c.loop-place.value c.loop-place.place c.args.text.now c.loop-place-test.true d c.loop-place.invariant.same big)

pub returns-then-not-is_digit : goal.returns-then-not-is_digit
returns-then-not-is_digit c =
    let e = digits_here c.args.number c.loop-place.value c.loop-place.place c.args.text.now c.loop-place-test.true (sym c.is_digit.ensures ∙ c.if-not-is_digit.true) c.loop-place.invariant.same in
    (c.loop-place.invariant.fits, ap (λ p. p.0) e, ap (λ p. p.1) e ∙ sym (take_rest c.args.text.now c.loop-place.place))

pub returns : goal.returns
returns c =
    let e = digits_done c.args.number c.loop-place.value c.loop-place.place c.args.text.now c.loop-place-test.false c.loop-place.invariant.same in
    (c.loop-place.invariant.fits, ap (λ p. p.0) e, ap (λ p. p.1) e ∙ sym (take_rest c.args.text.now (length c.args.text.now) ∙ drop_all (length c.args.text.now) c.args.text.now (omega arith)))
