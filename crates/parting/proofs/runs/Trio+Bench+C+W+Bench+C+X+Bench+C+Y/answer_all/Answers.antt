use Rattle.std.proofs.Common.{arith}
use Rattle.parting.proofs.Running.{all_ran_step}
use Rattle.parting.proofs.runs.Trio+Bench+C+W+Bench+C+X+Bench+C+Y.answer_all.Goals as goal

pub loop-i-preserved : goal.loop-i-preserved
loop-i-preserved g c =
    all_ran_step g.C.Cell g.W.Finder g.X.Finder g.Y.Finder c.args.self.now c.loop-i.self c.answer.new.self c.args.commands.now c.loop-i.log c.loop-i.i c.index-commands-i.result c.answer.result
    (omega arith) (omega arith) c.index-commands-i.is c.loop-i.invariant c.answer.ensures
