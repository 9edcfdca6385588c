-- What lies inside bounds lies on the scale.
use Rattle.std.specs.Prelude.{◌≡◌, ℕ, true, nat_le}
use Rattle.std.proofs.Common.{arith}
use Rattle.std.proofs.lemmas.Bool.{and_parts, le-leb, leb-true}
use Rattle.cells.specs.declared.bands.Bounds.{Bounds}
use Rattle.cells.specs.Bands.{inside}

-- what lies inside bounds is on the scale
pub scaled : (b : Bounds) (n : ℕ) → inside b n ≡ true → nat_le n 9999 ≡ true
scaled b n h =
    let below = leb-true _ _ (and_parts (nat_le b.lowest n) _ h).1 in
    let top = leb-true _ _ (and_parts (nat_le b.lowest b.highest) _ b.ok).1 in
    le-leb n 9999 (omega arith)
