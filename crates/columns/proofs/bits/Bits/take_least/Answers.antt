use Rattle.std.proofs.Common.{◌≡◌, ◌^◌, ◌<◌, length, get_or, refl, rules}
use Rattle.columns.proofs.Places.{bits_none, bits_least, bits_without}
use Rattle.columns.proofs.bits.Bits.take_least.Goals as goal

pub returns-in_err-i : goal.returns-in_err-i
returns-in_err-i g c = rw c.from_residual.ensures (bits_none _ c.in_err-i.ensures, refl)

pub returns : goal.returns
returns g c =
    let w = c.in_ok-i.ensures in
    let b = c.args.self.now in
    let fits : get_or b.words c.in_ok-i.i 0 < 2 ^ 64 = search rules in
    let long : length b.words ≡ g.row.N = search rules in
    (bits_least b c.in_ok-i.i long w.0 w.1 fits w.2, bits_without b c.in_ok-i.i long w.0 w.1 fits w.2)
