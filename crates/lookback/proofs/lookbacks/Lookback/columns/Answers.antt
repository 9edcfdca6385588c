use Rattle.lookback.proofs.OwnMarks.{own_marks}
use Rattle.lookback.proofs.lookbacks.Lookback.columns.Goals as goal

pub returns-clause-apart : goal.returns-clause-apart
returns-clause-apart c = own_marks
