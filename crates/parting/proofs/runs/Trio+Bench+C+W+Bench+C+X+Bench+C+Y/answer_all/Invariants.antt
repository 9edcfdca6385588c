use Rattle.std.proofs.Common.{take}
use Rattle.parting.specs.Runs.{AllRan}
use Rattle.parting.proofs.runs.Trio+Bench+C+W+Bench+C+X+Bench+C+Y.answer_all.Given as goal

abbrev pub invariant-loop-i : goal.invariant-loop-i
invariant-loop-i g l = AllRan g.C.Cell g.W.Finder g.X.Finder g.Y.Finder l.initial.self (take l.i l.commands) (take l.i l.log) l.self
