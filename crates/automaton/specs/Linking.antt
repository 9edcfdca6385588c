-- The linker of a trie.
use Rattle.std.specs.Prelude.{◌≡◌, ℕ}
use Rattle.queue.specs.Queued.{queued, room}
use Rattle.automaton.specs.declared.linking.Linker.{Linker}
use Rattle.automaton.specs.Breadth.{Between, Within}
use Rattle.automaton.specs.Places.{Places}

-- it is within a state, before a letter of it
abbrev pub Inside : Places → Linker → ℕ → ℕ → Type 0
Inside w l x c = Within w l.next.now l.fail.now l.turns.now (queued l.queue) x c l.turn

-- it is between two states
abbrev pub Outside : Places → Linker → Type 0
Outside w l = Between w l.next.now l.fail.now l.turns.now (queued l.queue) l.turn

-- it still works in the memory that was lent, with a queue of as many places
pub record StaysLent (l m : Linker) : Type 0 where
  pub next : m.next.ghost_name ≡ l.next.ghost_name
  pub fail : m.fail.ghost_name ≡ l.fail.ghost_name
  pub turns : m.turns.ghost_name ≡ l.turns.ghost_name
  pub slots : m.queue.slots.ghost_name ≡ l.queue.slots.ghost_name
  pub room : room m.queue ≡ room l.queue
