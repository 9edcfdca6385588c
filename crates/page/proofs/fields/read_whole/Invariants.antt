use Rattle.std.proofs.Common.{◌≡◌, ◌^◌, ◌<◌, drop}
use Rattle.std.specs.List.{list_all}
use Rattle.page.specs.Bytes.{is_digit}
use Rattle.page.specs.Decimals.{value_after}
use Rattle.page.proofs.fields.read_whole.Given as goal

abbrev pub invariant-loop-digit : goal.invariant-loop-digit
invariant-loop-digit l = (l.value < 10 ^ l.digit-index)
    × (value_after l.value (drop l.digit-index l.digits) ≡ value_after 0 l.digits)
    × (list_all is_digit (drop l.digit-index l.digits) ≡ list_all is_digit l.digits)
