use Rattle.std.proofs.Common.{◌≡◌, ℕ, ◌%◌, ◌&&◌, ◌||◌, drop}
use Rattle.std.specs.List.{list_any}
use Rattle.columns.specs.Marks.{mark}
use Rattle.lookback.specs.Linked.{mark_at}
use Rattle.lookback.specs.Represented.{looked_back, slot}
use Rattle.lookback.proofs.lookbacks.Lookback.look_back.Given as goal

-- what has been seen, and what the distances to come show, are all that there is
abbrev pub invariant-loop-distance : goal.invariant-loop-distance
invariant-loop-distance l =
    (k : ℕ) → (mark l.seen k || list_any (λ d. mark_at l.self.ring (slot l.from d) k && mark_at l.self.links.follow (d % 128) k) (drop l.distance-index l.distance-items)) ≡ looked_back l.self l.from k
