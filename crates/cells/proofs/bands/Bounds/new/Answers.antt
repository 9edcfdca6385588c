use Rattle.std.proofs.Common.{sym, ap}
use Rattle.std.specs.Option.{ok_or}
use Rattle.refusals.specs.declared.Refusal.TheVariants.{BadBounds}
use Rattle.cells.specs.Scale.{are_bounds}
use Rattle.cells.specs.Whens.{when_passes}
use Rattle.cells.proofs.bands.Bounds.new.Goals as goal

pub returns-then-highest-le-HIGHEST : goal.returns-then-highest-le-HIGHEST
returns-then-highest-le-HIGHEST c = ap (λ b. ok_or b BadBounds) (sym (when_passes (are_bounds c.args.lowest c.args.highest) _ _))
