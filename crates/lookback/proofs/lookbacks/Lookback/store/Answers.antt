use Rattle.lookback.proofs.Steps.{turned}
use Rattle.lookback.proofs.lookbacks.Lookback.store.Goals as goal

pub returns : goal.returns
returns c ended s = record {
  represents = λ lines keywords past e r en. record {
    linked = r.linked;
    fit = r.fit;
    seen = turned c.args.self.now lines keywords past r e c.args.column (s.prefixes lines keywords past e r en);
  };
}
