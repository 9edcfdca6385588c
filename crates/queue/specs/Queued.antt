-- What waits in a queue. It is defined for every head and every count, so each value of the type is a queue.
use Rattle.std.specs.Prelude.{ℕ, List, ◌++◌, length, take, drop}
use Rattle.queue.specs.declared.Queue.{Queue}

-- The slots in the order of their use: from the head's on, and the first slot follows the last.
-- A head past the slots reads as the first slot.
unfoldable pub turned : {T : Type 0} → ℕ → List T → List T
turned head slots = drop head slots ++ take head slots

-- The first `count` of the slots, in the order of their use.
-- A count past the slots reads as all of them.
abbrev pub waiting : {T : Type 0} → List T → ℕ → ℕ → List T
waiting slots head count = take count (turned head slots)

-- What waits in a queue, the oldest first.
abbrev pub queued : {T : Type 0} → Queue T → List T
queued q = waiting q.slots.now q.head q.count

-- How many places a queue has.
abbrev pub room : {T : Type 0} → Queue T → ℕ
room q = length q.slots.now
