-- The marks of a column.
use Rattle.std.specs.Prelude.{ℕ, Bool, []}
use Rattle.columns.specs.declared.marks.Column.{Column}
use Rattle.columns.specs.Bits.{bit}

-- whether mark k stands: only the marks 0 to 511 can
unfoldable pub mark : Column → ℕ → Bool
mark c = bit c.0

-- what a list of columns reads as past its end, which has no mark
abbrev pub blank : Column
blank = record { 0 = record { words = [] } }
