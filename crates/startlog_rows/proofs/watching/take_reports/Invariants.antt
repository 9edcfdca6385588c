use Rattle.std.proofs.Common.{length}
use Rattle.tray.specs.Waiting.{reports}
use Rattle.startlog_rows.proofs.watching.take_reports.Given as goal

abbrev pub decreases-loop-report : goal.decreases-loop-report
decreases-loop-report l = length (reports l.tray)
