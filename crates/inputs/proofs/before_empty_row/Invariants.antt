use Rattle.std.proofs.Common.{◌≡◌, ◌+◌, true, drop}
use Rattle.inputs.specs.Parts.{page_length}
use Rattle.inputs.proofs.before_empty_row.Given as goal

abbrev pub invariant-loop-i : goal.invariant-loop-i
invariant-loop-i l = l.i + page_length l.at_start (drop l.i l.input) ≡ page_length true l.input
