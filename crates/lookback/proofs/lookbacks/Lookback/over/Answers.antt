use Rattle.std.proofs.Common.{sym, ap, ◌∙◌, arith}
use Rattle.std.proofs.lemmas.List.{get_or-replicate}
use Rattle.columns.specs.Marks.{mark, blank}
use Rattle.lookback.specs.Prefixes.{prefix_ends}
use Rattle.lookback.specs.Represented.{slot}
use Rattle.lookback.proofs.Reaches.{none_ended, drop_none}
use Rattle.lookback.proofs.lookbacks.Lookback.over.Goals as goal

pub returns : goal.returns
returns c lines keywords linked fit = record {
  linked = linked;
  fit = fit;
  seen = λ ago h k small.
      ap (λ x. mark x k) (get_or-replicate 128 (slot 0 ago) c.none.result blank (omega arith))
      ∙ c.none.ensures k
      ∙ sym (ap (λ p. prefix_ends lines keywords p k) (drop_none ago) ∙ none_ended lines keywords k);
}
