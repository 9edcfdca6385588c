-- The distances in use, one after another.
use Rattle.std.specs.Prelude.{ℕ, List, take}
use Rattle.lookback.specs.declared.distances.Distances.{Distances}

-- the distances that are listed, which stand in the first places
abbrev pub listed : Distances → List ℕ
listed d = take d.used d.at
