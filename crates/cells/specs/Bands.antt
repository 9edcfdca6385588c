-- What readings and band cells mean.
use Rattle.std.specs.Prelude.{ℕ, Bool, ◌&&◌, Option, Result, nat_le}
use Rattle.std.specs.Option.{ok_or}
use Rattle.refusals.specs.declared.Refusal.{Refusal}
use Rattle.refusals.specs.declared.Refusal.TheVariants.{BadBounds}
use Rattle.cells.specs.declared.bands.BandCell.{BandCell}
use Rattle.cells.specs.declared.bands.Bounds.{Bounds}
use Rattle.cells.specs.declared.bands.Gauges.{Gauges}
use Rattle.cells.specs.declared.bands.Reading.{Reading}
use Rattle.cells.specs.Scale.{on_scale, are_bounds}
use Rattle.cells.specs.When.{when}

-- the reading of a sample whose numbers are on the scale
abbrev pub reading_of : Gauges → Option Reading
reading_of s = when (on_scale s.rpm s.oil) (λ ok. record { rpm = s.rpm; oil = s.oil; ok = ok })

-- the bounds from one value to another, or the refusal
abbrev pub bounds_of : ℕ → ℕ → Result Bounds Refusal
bounds_of lowest highest = ok_or (when (are_bounds lowest highest) (λ ok. record { lowest = lowest; highest = highest; ok = ok })) BadBounds

-- a number inside bounds, ends counted
abbrev pub inside : Bounds → ℕ → Bool
inside b n = nat_le b.lowest n && nat_le n b.highest

-- a band cell admits the readings inside both of its bounds
abbrev pub band_admits : BandCell → Reading → Bool
band_admits c y = inside c.rpm y.rpm && inside c.oil y.oil

-- and so of all samples those inside both
abbrev pub band_hears : BandCell → Gauges → Bool
band_hears c s = inside c.rpm s.rpm && inside c.oil s.oil
