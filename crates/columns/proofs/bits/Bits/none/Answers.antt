use lib.ListN.{get_or-replicate}
use Rattle.columns.proofs.Places.{bits_none}
use Rattle.columns.proofs.bits.Bits.none.Goals as goal

pub returns : goal.returns
returns g c = bits_none _ (λ i h. get_or-replicate g.row.N i 0 0 h)
