use Rattle.std.proofs.Common.{◌≡◌, ℕ, take}
use Rattle.finders.specs.Latest.{run}
use Rattle.finders.proofs.replays.take_all.Given as goal

abbrev pub invariant-loop-symbol : goal.invariant-loop-symbol
invariant-loop-symbol g l = (g.F.Finder.book l.finder ≡ g.F.Finder.book l.initial.finder)
    × ((p : ℕ) → g.F.Finder.stands l.finder p ≡ run g.F.Finder.admits (g.F.Finder.book l.initial.finder) (take l.symbol-index l.symbols) p)
