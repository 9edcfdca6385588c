use Rattle.std.proofs.Common.{◌≡◌, true, get_or, arith}
use Rattle.std.proofs.lemmas.Bool.Decides.{nat_tests}
use Rattle.page.specs.Bytes.{is_digit}
use Rattle.page.specs.Decimals.{whole_of}
use Rattle.page.proofs.Steps.{value_step, value_end, digits_step, digits_end, ten_more, digit_is}
use Rattle.page.proofs.fields.read_whole.Goals as goal

pub returns-then-not-starts_well-clause-value : goal.returns-then-not-starts_well-clause-value
unfolding whole_of
returns-then-not-starts_well-clause-value c = grind (arith, nat_tests)

pub returns-then-not-is_ascii_digit-clause-value : goal.returns-then-not-is_ascii_digit-clause-value
unfolding whole_of
returns-then-not-is_ascii_digit-clause-value c = let s = digits_step c.args.digits.now c.loop-digit.digit-index (omega arith) in grind (arith, nat_tests)

pub loop-digit-preserved : goal.loop-digit-preserved
loop-digit-preserved c =
    let ds = c.args.digits.now in
    let i = c.loop-digit.digit-index in
    let v = value_step c.loop-digit.value ds i (omega arith) in
    let s = digits_step ds i (omega arith) in
    let t = ten_more i in
    let d : is_digit (get_or ds i 0) ≡ true = cc in
    let b = digit_is (get_or ds i 0) d in
    let f = c.from.ensures in
    (omega (arith, t, b), grind (arith, nat_tests), grind (arith, nat_tests))

pub returns-clause-value : goal.returns-clause-value
unfolding whole_of
returns-clause-value c =
    let ds = c.args.digits.now in
    let i = c.loop-digit.digit-index in
    let v = value_end c.loop-digit.value ds i (omega arith) in
    let s = digits_end ds i (omega arith) in
    grind (arith, nat_tests)
