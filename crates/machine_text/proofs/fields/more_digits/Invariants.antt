use Rattle.std.proofs.Common.{◌≡◌, ◌<◌, ◌^◌, drop}
use Rattle.machine_text.specs.Fields.{digits_from}
use Rattle.machine_text.proofs.fields.more_digits.Given as goal

abbrev pub invariant-loop-place : goal.invariant-loop-place
invariant-loop-place l = record {
  fits : l.value < 2 ^ 64;
  same : digits_from l.value (drop l.place l.text) ≡ digits_from l.number l.text;
}
