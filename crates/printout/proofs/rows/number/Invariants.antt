use Rattle.std.proofs.Common.{◌≡◌, ◌+◌, ◌++◌, length, replicate}
use Rattle.printout.proofs.rows.number.Given as goal

abbrev pub invariant-loop : goal.invariant-loop
invariant-loop g l = (l.row.bytes ≡ l.initial.row.bytes ++ replicate l.counter 32) × (length l.row.bytes ≡ length l.initial.row.bytes + l.counter)
