-- The pass over the states, breadth first: it gives each state its fail link and fills in the letters that the trie lacks.
use Rattle.std.specs.Prelude.{◌≡◌, ℕ, ◌+◌, ◌*◌, ◌<◌, ◌≤◌, ◌&&◌, ◌==◌}
use Rattle.automaton.specs.Places.{Places, Sound}
use Rattle.automaton.specs.Trie.{Edge}
use Rattle.automaton.specs.Walk.{meets, Links}

-- In a state a run stands at those places whose states are met on the walk of fail links. So a letter may lead from x
-- to y if a run then stands at a place just where the letter is the place's and a run stood at the place before it.
abbrev pub Rule : Places → (ℕ → ℕ) → ℕ → ℕ → ℕ → Type 0
Rule w fail x c y = (p : ℕ) → p < w.count → meets fail y (w.state p) ≡ (w.letter p == c && meets fail x (w.before p))

-- a letter of a state that is settled: it leads, by the rule, to a state that has a turn, and along the trie where it can
pub record Settled (w : Places) (next : ℕ → ℕ → ℕ) (fail turn : ℕ → ℕ) (x c : ℕ) : Type 0 where
  pub seen : 0 < turn (next x c)
  pub rule : Rule w fail x c (next x c)
  pub arc : (p : ℕ) → p < w.count → w.before p ≡ x → w.letter p ≡ c → next x c ≡ w.state p

-- each state but the root stands for some place
abbrev pub Owned : Places → (ℕ → ℕ) → Type 0
Owned w turn = (x : ℕ) → 0 < x → 0 < turn x → ((p : ℕ) × (p < w.count) × (w.state p ≡ x))

-- The letters are settled one by one, 16 to a state, the states in the order of their turns: those that are settled
-- and those that are not, once k of them are.
abbrev pub Done : (ℕ → ℕ) → ℕ → ℕ → ℕ → Type 0
Done turn k x c = (c < 16) × (0 < turn x) × (16 * turn x + c < k + 16)

abbrev pub Undone : (ℕ → ℕ) → ℕ → ℕ → ℕ → Type 0
Undone turn k x c = (x < 1024) × (c < 16) × (0 < turn x → k + 16 ≤ 16 * turn x + c)

-- the pass once k letters are settled and t turns are given
pub record Pass (w : Places) (next : ℕ → ℕ → ℕ) (fail turn : ℕ → ℕ) (k t : ℕ) : Type 0 where
  pub links : Links fail turn
  pub inside : (x : ℕ) → 0 < turn x → x < 1024
  pub most : (x : ℕ) → turn x ≤ t
  pub once : (x y : ℕ) → 0 < turn x → turn x ≡ turn y → x ≡ y
  pub own : Owned w turn
  pub edge : (x c : ℕ) → Undone turn k x c → Edge w next x c
  pub fresh : (x c : ℕ) → Undone turn k x c → 0 < next x c → turn (next x c) ≡ 0
  pub settled : (x c : ℕ) → Done turn k x c → Settled w next fail turn x c

-- the whole automaton
pub record Automaton (w : Places) (next : ℕ → ℕ → ℕ) (fail turn : ℕ → ℕ) : Type 0 where
  pub sound : Sound w
  pub links : Links fail turn
  pub own : Owned w turn
  pub settled : (x c : ℕ) → c < 16 → 0 < turn x → Settled w next fail turn x c
