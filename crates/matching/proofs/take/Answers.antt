use Rattle.std.proofs.Common.{rules}
use Rattle.matching.proofs.Matched.{ring_later, lines_occur}
use Rattle.matching.proofs.take.Goals as goal

pub returns : goal.returns
returns g c =
    let hears = g.C.Cell.hears in
    record {
      sees = λ b newest s r heard. record {
        finder = c.spot-ended.ensures.finder b newest s r.finder heard;
        ring = ring_later hears b newest s r.ring (c.spot-ended.ensures.spots b newest s r.finder heard) (search rules);
      };
      occur = λ b newest s r heard. lines_occur hears b newest s r.ring (c.spot-ended.ensures.spots b newest s r.finder heard) r.finder.proper (search rules);
    }
