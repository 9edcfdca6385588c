use Rattle.std.proofs.Common.{◌||◌, refl, rules}
use lib.Bits.{bit_or}
use Rattle.columns.proofs.Digits.{digit_or}
use Rattle.columns.proofs.Places.{bits_each}
use Rattle.columns.proofs.bits.Bits.or.Goals as goal

pub returns : goal.returns
returns g c = bits_each bit_or ◌||◌ digit_or refl _ _ _ (λ i h. let e = c.joined.ensures i h in search rules)
