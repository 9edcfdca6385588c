-- One tick of a desk.
use Rattle.std.specs.Prelude.{◌≡◌, ℕ, ◌+◌, ◌<◌, ℤ}
use Rattle.columns.specs.declared.marks.Column.{Column}
use Rattle.columns.specs.declared.numbers.Numbers.{Numbers}
use Rattle.columns.specs.Numbers.{member}
use Rattle.bench.specs.declared.desks.Desk.{Desk}
use Rattle.bench.specs.Noted.{noted}
use Rattle.bench.specs.Firing.{any_fires}
use Rattle.bench.specs.Due.{due_points}

-- the desk later counts one tick more, has noted its reports, and is else as it was; what is answered
pub record Ticked (d : Desk) (column : Column) (r : ℕ × Numbers × ℤ) (later : Desk) : Type 0 where
  pub tick : r.0 ≡ d.count + 1
  pub reported : (n : ℕ) → member r.1 n ≡ any_fires column d.standings (d.count + 1) d.lines.items n
  pub points : r.2 ≡ due_points later.recent (d.count + 1) d.lines.items
  pub count : later.count ≡ d.count + 1
  pub newest : (n : ℕ) → noted later.recent (d.count + 1) n ≡ member r.1 n
  pub others : (i n : ℕ) → i < d.count + 1 → d.count + 1 < i + 64 → noted later.recent i n ≡ noted d.recent i n
  pub lines : later.lines ≡ d.lines
  pub lookback : later.lookback ≡ d.lookback
  pub standings : later.standings ≡ d.standings
