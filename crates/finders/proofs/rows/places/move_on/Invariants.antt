use Rattle.finders.proofs.Steps.{Moved}
use Rattle.finders.proofs.rows.places.move_on.Given as goal

abbrev pub invariant-loop-i : goal.invariant-loop-i
invariant-loop-i g l = Moved (λ c. g.C.Cell.admits c l.symbol) l.firsts l.initial.runs l.cells l.runs l.stood l.i
