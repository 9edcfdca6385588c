use Rattle.std.proofs.Common.{ℕ, ◌^◌, ◌<◌, get_or, arith, rules}
use Rattle.columns.proofs.Places.{bits_shifted}
use Rattle.columns.proofs.bits.Bits.shifted.Goals as goal

pub returns : goal.returns
returns g c =
    let fits : (i : ℕ) → get_or c.args.self.words i 0 < 2 ^ 64 = λ i. search rules in
    bits_shifted _ _ fits (λ i h. c.loop-word.invariant.2 i (omega arith))
