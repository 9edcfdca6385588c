use Rattle.std.proofs.Common.{◌≡◌, ◌+◌, ◌-◌, ◌≤◌, length, drop}
use Rattle.page.specs.Bytes.{blanks}
use Rattle.page.specs.Letters.{letters_end}
use Rattle.page.proofs.fields.first_bad.Given as goal

abbrev pub invariant-loop-column : goal.invariant-loop-column
invariant-loop-column l = (l.column ≤ length l.field) × (l.column + blanks (drop l.column l.field) ≡ letters_end l.field)

abbrev pub decreases-loop-column : goal.decreases-loop-column
decreases-loop-column l = length l.field - l.column
