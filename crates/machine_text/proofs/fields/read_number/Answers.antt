use Rattle.std.proofs.Common.{◌≡◌, ◌<◌, ◌≤◌, ◌^◌, sym, subst, ◌∙◌, arith}
use Rattle.std.specs.Prelude.{MatchOption}
use Rattle.machine_text.specs.Fields.{digits_from}
use Rattle.machine_text.proofs.DigitLaws.{none_empty, none_without_digit, none_behind_zero, number_read, zero_shown}
use Rattle.machine_text.proofs.fields.read_number.Goals as goal

pub returns-in_err-first : goal.returns-in_err-first
returns-in_err-first c = rw c.from_residual.ensures (none_empty c.args.text.now c.in_err-first.ensures)

pub returns-then-not-is_digit : goal.returns-then-not-is_digit
returns-then-not-is_digit c =
    none_without_digit c.in_ok-first.first c.args.text.now c.in_ok-first.rest.now c.in_ok-first.ensures (sym c.is_digit.ensures ∙ c.if-not-is_digit.true)

pub returns-then-first-ne48 : goal.returns-then-first-ne48
returns-then-first-ne48 c =
    let d = sym c.is_digit.ensures ∙ c.if-not-is_digit.false in
    number_read c.in_ok-first.first c.args.text.now c.in_ok-first.rest.now c.more_digits.result c.in_ok-first.ensures d c.if-first-ne48.true
    (subst (λ x. MatchOption c.more_digits.result (2 ^ 64 ≤ (digits_from x c.in_ok-first.rest.now).0) (λ p. (p.0 < 2 ^ 64) × ((digits_from x c.in_ok-first.rest.now).0 ≡ p.0) × ((digits_from x c.in_ok-first.rest.now).1 ≡ p.1.now))) c.from.ensures c.more_digits.ensures)

pub returns-then-begins_with_digit : goal.returns-then-begins_with_digit
returns-then-begins_with_digit c =
    none_behind_zero c.in_ok-first.first c.args.text.now c.in_ok-first.rest.now c.in_ok-first.ensures c.if-first-ne48.false (sym c.begins_with_digit.ensures ∙ c.if-begins_with_digit.true)

pub returns : goal.returns
returns c = (
  omega arith,
  sym c.begins_with_digit.ensures ∙ c.if-begins_with_digit.false,
  zero_shown c.in_ok-first.first c.args.text.now c.in_ok-first.rest.now c.in_ok-first.ensures c.if-first-ne48.false,
)
