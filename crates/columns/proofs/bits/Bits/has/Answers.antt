use Rattle.std.proofs.Common.{sym, ◌∙◌}
use Rattle.columns.proofs.Digits.{digit_test}
use Rattle.columns.proofs.Places.{bit_in, bit_out}
use Rattle.columns.proofs.bits.Bits.has.Goals as goal

pub returns-in-Some : goal.returns-in-Some
returns-in-Some g c =
    let p = c.in-Some.ensures in
    digit_test _ _ ∙ sym (rw p.1 (bit_in _ c.in-Some.place p.0))

pub returns-in-None : goal.returns-in-None
returns-in-None g c = sym (bit_out _ _ c.in-None.ensures)
