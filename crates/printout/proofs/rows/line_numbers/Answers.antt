use Rattle.std.proofs.Common.{rules, refl}
use Rattle.columns.proofs.Laws.{length-rising}
use Rattle.printout.proofs.Fields.{fields_done, fields_more}
use Rattle.printout.proofs.rows.line_numbers.Goals as goal

pub loop-line-init : goal.loop-line-init
loop-line-init c = (refl, refl, search (rules, length-rising c.args.numbers))

pub loop-line-preserved : goal.loop-line-preserved
loop-line-preserved c = (search (rules, fields_more), search rules, c.loop-line.invariant.2)

pub returns-clause-text : goal.returns-clause-text
returns-clause-text c = search (rules, fields_done)
