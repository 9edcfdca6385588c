-- The reports of the latest ticks.
use Rattle.std.specs.Prelude.{ℕ, ◌%◌, Bool, [], slice_index_or}
use Rattle.columns.specs.declared.numbers.Numbers.{Numbers}
use Rattle.columns.specs.Numbers.{member}
use Rattle.bench.specs.declared.recent.Recent.{Recent}

-- what a list of sets reads as past its end, which has no member
abbrev pub nobody : Numbers
nobody = record { 0 = record { words = [] } }

-- whether a number is noted for a tick, one of the latest 64
unfoldable pub noted : Recent → ℕ → ℕ → Bool
noted r i n = member (slice_index_or r.at (i % 64) nobody) n
