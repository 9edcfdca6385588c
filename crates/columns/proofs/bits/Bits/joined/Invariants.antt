use Rattle.std.proofs.Common.{◌≡◌, ℕ, ◌<◌, ◌≤◌, length, get_or}
use Rattle.columns.proofs.bits.Bits.joined.Given as goal

abbrev pub invariant-loop-i : goal.invariant-loop-i
invariant-loop-i g l =
    (length l.word-items ≡ g.row.N)
    × ((k : ℕ) → k < l.i → goal.J-post g l.join (get_or l.fn.self.words k 0) (get_or l.other.words k 0) (get_or l.word-items k 0))
    × ((k : ℕ) → l.i ≤ k → get_or l.word-items k 0 ≡ get_or l.fn.self.words k 0)
