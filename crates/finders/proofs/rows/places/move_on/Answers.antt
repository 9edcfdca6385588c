use Rattle.finders.proofs.Steps.{move_one}
use Rattle.finders.proofs.rows.places.move_on.Goals as goal

pub loop-i-preserved : goal.loop-i-preserved
loop-i-preserved g c =
    move_one (λ d. g.C.Cell.admits d c.args.symbol) _ _ _ _ _ _ c.index-cells-i.result _ c.loop-i.invariant c.loop-i-test.true c.requires.few c.index-cells-i.is c.goes_on.ensures
