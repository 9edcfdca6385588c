-- What `put` and `take` answer, and what waits after them.
use Rattle.std.specs.Prelude.{ℕ, cond, List, [], ◌∷◌, ◌++◌, length, Some, None, Ok, Err, Option, Result, nat_lt, slice_set}
use Rattle.queue.specs.declared.Full.{Full}
use Rattle.queue.specs.declared.Queue.{Queue}
use Rattle.queue.specs.Queued.{queued, room}
use Rattle.queue.specs.Places.{back}

-- The answer of `put` where `xs` wait in `n` places: refused if every place is filled.
abbrev pub put_answer : {T : Type 0} → List T → ℕ → Result (Unit {0}) Full
put_answer xs n = cond (nat_lt (length xs) n) (Ok tt) (Err (record {}))

-- What waits after `put`: `x` too, behind the others, or the same if it is refused.
abbrev pub put_after : {T : Type 0} → List T → ℕ → T → List T
put_after xs n x = cond (nat_lt (length xs) n) (xs ++ x ∷ []) xs

-- The slots after `put`: one is written, or none if it is refused.
abbrev pub put_slots : {T : Type 0} → Queue T → T → List T
put_slots q x = cond (nat_lt (length (queued q)) (room q)) (slice_set q.slots.now (back q) x) q.slots.now

-- The answer of `take` where `xs` wait: the oldest, if any.
abbrev pub first : {T : Type 0} → List T → Option T
first [] = None
first (x ∷ xs) = Some x

-- What waits after `take`: all but the oldest.
abbrev pub rest : {T : Type 0} → List T → List T
rest [] = []
rest (x ∷ xs) = xs
