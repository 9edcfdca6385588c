-- Which lines are reported at a tick, by a column of marks and the standings.
use Rattle.std.specs.Prelude.{ℕ, ◌+◌, Bool, false, ◌&&◌, ◌||◌, List, [], ◌∷◌, Some, None, Option, ◌==◌, nat_le}
use Rattle.columns.specs.declared.marks.Column.{Column}
use Rattle.columns.specs.Marks.{mark}
use Rattle.columns.specs.Numbers.{is_number}
use Rattle.standings.specs.declared.tables.Standings.{Standings}
use Rattle.standings.specs.declared.turns.Standing.{Standing}
use Rattle.standings.specs.declared.turns.Standing.TheVariants.{Armed, Resting}
use Rattle.standings.specs.Turning.{standing_at}
use Rattle.bench.specs.declared.lines.Watched.{Watched}

-- whether a line is armed, and an occurrence of that span that ends at a tick started after its mark
abbrev pub starts_after : Option Standing → ℕ → ℕ → Bool
starts_after None span tick = false
starts_after (Some (Armed m)) span tick = nat_le (m + span) tick
starts_after (Some Resting) span tick = false

module _ (column : Column) (standings : Standings) (tick : ℕ) where
  -- whether a line is reported
  abbrev pub fires : Watched → Bool
  fires w = mark column w.last && starts_after (standing_at standings w.number) w.span tick

  -- whether a number is that of a line that is reported
  abbrev pub any_fires : List Watched → ℕ → Bool
  any_fires [] n = false
  any_fires (w ∷ ws) n = (fires w && (is_number w.number && n == w.number)) || any_fires ws n
