use Rattle.std.proofs.Common.{◌&&◌, ◌||◌, ltb, ap, ◌∙◌}
use Rattle.columns.specs.Marks.{mark}
use Rattle.columns.specs.Passing.{one_up}
use Rattle.lookback.proofs.Steps.{newest}
use Rattle.lookback.proofs.lookbacks.Lookback.next_column.Goals as goal

pub returns : goal.returns
returns c = record {
  prefixes = λ lines keywords past e r en k h.
      let l = c.args.self.now in
      c.and.ensures k
      ∙ ap (λ b. b && mark c.args.ended k) (c.or.ensures k ∙ ap (λ b. b || mark l.links.firsts k) (c.shifted.ensures k))
      ∙ ap (λ b. ((ltb k 512 && one_up (mark c.look_back-seen.result) k) || mark l.links.firsts k) && b) (en.0 k)
      ∙ newest l lines keywords past r e en.1 (mark c.look_back-seen.result) c.look_back-seen.ensures (mark l.links.firsts) r.linked.firsts k h;
}
