use Rattle.std.proofs.Common.{◌≡◌, ℕ, ◌<◌, ◌≤◌, length, get_or}
use Rattle.columns.proofs.Digits.{moved}
use Rattle.columns.proofs.Places.{carried}
use Rattle.columns.proofs.bits.Bits.shifted.Given as goal

abbrev pub invariant-loop-word : goal.invariant-loop-word
invariant-loop-word g l =
    (length l.word-items ≡ g.row.N)
    × (l.carry ≡ carried l.fn.self.words l.word-index)
    × ((k : ℕ) → k < l.word-index → get_or l.word-items k 0 ≡ moved (get_or l.fn.self.words k 0) (carried l.fn.self.words k))
    × ((k : ℕ) → l.word-index ≤ k → get_or l.word-items k 0 ≡ get_or l.fn.self.words k 0)
