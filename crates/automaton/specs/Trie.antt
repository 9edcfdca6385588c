-- The trie of a book's keywords.
use Rattle.std.specs.Prelude.{◌≡◌, ℕ, ◌+◌, ◌<◌, ◌≤◌, List, length, ◌==◌}
use Rattle.book.specs.declared.rows.KeywordRow.{KeywordRow}
use Rattle.book.specs.Book.{Book, all_cells}
use Rattle.cells.specs.declared.letters.LetterCell.{LetterCell}
use Rattle.finders.specs.Runs.{begins}
use Rattle.automaton.specs.Memory.{leads}
use Rattle.automaton.specs.Places.{Places, Sound, places}

-- An edge: a letter leads from a state to the state of just the places that come by the letter after the state.
-- Where there are none it leads to 0.
pub record Edge (w : Places) (next : ℕ → ℕ → ℕ) (x c : ℕ) : Type 0 where
  pub arc : (p : ℕ) → p < w.count → w.before p ≡ x → w.letter p ≡ c → next x c ≡ w.state p
  pub from : (p : ℕ) → p < w.count → next x c ≡ w.state p → (w.before p ≡ x) × (w.letter p ≡ c)
  pub own : 0 < next x c → ((p : ℕ) × (p < w.count) × (w.state p ≡ next x c))

-- the trie of some places, with so many states besides the root
pub record Trie (w : Places) (next : ℕ → ℕ → ℕ) (made : ℕ) : Type 0 where
  pub sound : Sound w
  pub few : made ≤ w.count
  pub edge : (x c : ℕ) → x < 1024 → c < 16 → Edge w next x c
  pub most : (x c : ℕ) → x < 1024 → c < 16 → next x c ≤ made

-- the trie of the first `count` places of a book, in memory
pub record Planted (b : Book LetterCell) (next states : List ℕ) (count made : ℕ) : Type 0 where
  pub next_long : length next ≡ 16384
  pub states_long : length states ≡ 1024
  pub trie : Trie (places b states count) (leads next) made

-- a keyword's row lies in a book: its places are among the book's, which are 1,023 at most, and of them the first alone is
-- the first of a keyword
pub record Lies (b : Book LetterCell) (keyword : KeywordRow) : Type 0 where
  pub inside : keyword.first + keyword.length ≤ length (all_cells b)
  pub room : keyword.first + keyword.length ≤ 1023
  pub first : (i : ℕ) → i < keyword.length → begins b (keyword.first + i) ≡ (i == 0)
