-- Where in the slots those that wait lie.
use Rattle.std.specs.Prelude.{ℕ, ◌+◌, ◌-◌, cond, length, nat_lt}
use Rattle.queue.specs.declared.Queue.{Queue}
use Rattle.queue.specs.Queued.{queued, room}

-- The head's slot, among `size` of them: a head past them reads as the first.
abbrev pub start : ℕ → ℕ → ℕ
start head size = cond (nat_lt head size) head 0

-- The slot that lies `by` places past the slot `at`, among `size` of them: the first follows the last.
abbrev pub past : ℕ → ℕ → ℕ → ℕ
past at by size = cond (nat_lt (at + by) size) (at + by) (at + by - size)

-- The slot behind those that wait.
abbrev pub back : {T : Type 0} → Queue T → ℕ
back q = past (start q.head (room q)) (length (queued q)) (room q)
