use Rattle.std.proofs.Common.{[], take}
use Rattle.bench.specs.Keeping.{takes}
use Rattle.parting.proofs.Shares.{parting}
use Rattle.parting.proofs.runs.run_parted.Goals as goal

pub returns-clause-parting : goal.returns-clause-parting
returns-clause-parting g c parted alike-x alike-y =
    let w = g.W.Finder.book c.args.whole in
    let x = g.X.Finder.book c.args.first in
    let y = g.Y.Finder.book c.args.second in
    let apart = c.new.ensures.lives.sees.finder.proper.apart in
    let ran = c.run.ensures.ran in
    rw (ran.whole.replied w [] c.new.ensures, ran.first.replied x [] c.new-2.ensures, ran.second.replied y [] c.new-3.ensures)
    (parting g.C.Cell.hears w x y parted apart (takes g.W.Finder.reads) (takes g.X.Finder.reads) (takes g.Y.Finder.reads) alike-x alike-y (take c.run.result c.args.commands.now))
