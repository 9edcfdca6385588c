use Rattle.std.proofs.Common.{rules}
use Rattle.columns.proofs.Places.{bits_with}
use Rattle.columns.proofs.bits.Bits.with.Goals as goal

pub returns-in-Some : goal.returns-in-Some
returns-in-Some g c =
    let p = c.in-Some.ensures in
    λ k. rw p.1 (bits_with _ c.in-Some.place (search rules) p.0 k)

pub returns-in_default : goal.returns-in_default
returns-in_default g c = let out = c.in_default.ensures in λ k. rw out
