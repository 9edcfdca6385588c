use Rattle.std.proofs.Common.{sym}
use Rattle.cells.specs.Scale.{on_scale}
use Rattle.cells.specs.Whens.{when_passes}
use Rattle.cells.proofs.bands.Reading.new.Goals as goal

pub returns-then-oil-le-HIGHEST : goal.returns-then-oil-le-HIGHEST
returns-then-oil-le-HIGHEST c = sym (when_passes (on_scale c.args.sample.rpm c.args.sample.oil) _ _)
