use Rattle.std.proofs.Common.{◌≡◌, ◌+◌, ◌*◌, ◌≤◌, ◌++◌, length}
use Rattle.columns.specs.Numbers.{to_come}
use Rattle.printout.specs.Rows.{number_fields}
use Rattle.printout.proofs.rows.line_numbers.Given as goal

abbrev pub invariant-loop-line : goal.invariant-loop-line
invariant-loop-line l =
    (l.row.bytes ++ number_fields (to_come l.line-iterator) ≡ l.initial.row.bytes ++ number_fields (to_come l.initial.line-iterator))
    × (length (l.row.bytes) + 4 * length (to_come l.line-iterator) ≡ length (l.initial.row.bytes) + 4 * length (to_come l.initial.line-iterator))
    × (length (to_come l.initial.line-iterator) ≤ 128)
