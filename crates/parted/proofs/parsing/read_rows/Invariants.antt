use Rattle.std.proofs.Common.{length}
use Rattle.parted.proofs.parsing.read_rows.Given as goal

abbrev pub decreases-loop-rest : goal.decreases-loop-rest
decreases-loop-rest l = length l.rest
