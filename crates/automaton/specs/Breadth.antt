-- The pass in memory, with a queue of states.
use Rattle.std.specs.Prelude.{◌≡◌, ℕ, ◌+◌, ◌-◌, ◌*◌, ◌<◌, ◌≤◌, cond, List, [], ◌∷◌, length, ◌==◌, slice_index}
use Rattle.automaton.specs.Memory.{at, leads}
use Rattle.automaton.specs.Pass.{Pass}
use Rattle.automaton.specs.Places.{Places, Sound}

-- where a letter leads that the trie lacks after a state: where it leads from the fail link, and from the root to the root
abbrev pub fallen_back : List ℕ → List ℕ → ℕ → ℕ → ℕ
fallen_back next fail x c = cond (x == 0) 0 (leads next (at fail x) c)

-- how many numbers are not 0
unfoldable pub nonzeros : List ℕ → ℕ
nonzeros [] = 0
nonzeros (n ∷ ns) = cond (n == 0) 0 1 + nonzeros ns

-- the pass once k letters are settled and t turns are given: so many states have one
pub record Stored (w : Places) (next fail turns : List ℕ) (k t : ℕ) : Type 0 where
  pub next_long : length next ≡ 16384
  pub fail_long : length fail ≡ 1024
  pub turns_long : length turns ≡ 1024
  pub given : nonzeros turns ≡ t
  pub sound : Sound w
  pub pass : Pass w (leads next) (at fail) (at turns) k t

-- the turns of the states that wait follow one another
abbrev pub InTurn : List ℕ → List ℕ → ℕ → Type 0
InTurn turns queue turn = (i : ℕ) → i < length queue → at turns (slice_index queue i) ≡ turn + i

-- between two states: those of the queue have the last turns, and the letters of the others are settled
pub record Between (w : Places) (next fail turns queue : List ℕ) (t : ℕ) : Type 0 where
  pub last : length queue ≤ t
  pub order : InTurn turns queue (t - length queue + 1)
  pub stored : Stored w next fail turns (16 * (t - length queue)) t

-- within the state x, before its letter c: the state was the oldest of the queue
pub record Within (w : Places) (next fail turns queue : List ℕ) (x c t : ℕ) : Type 0 where
  pub turned : 0 < at turns x
  pub last : at turns x + length queue ≡ t
  pub order : InTurn turns queue (at turns x + 1)
  pub stored : Stored w next fail turns (16 * (at turns x - 1) + c) t
