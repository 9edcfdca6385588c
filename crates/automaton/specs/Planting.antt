-- The planter of a trie.
use Rattle.std.specs.Prelude.{◌≡◌, ℕ}
use Rattle.book.specs.Book.{Book}
use Rattle.cells.specs.declared.letters.LetterCell.{LetterCell}
use Rattle.automaton.specs.declared.trie.Planter.{Planter}
use Rattle.automaton.specs.Trie.{Planted}

-- it has planted the first `count` places of a book
abbrev pub HasPlanted : Book LetterCell → Planter → ℕ → Type 0
HasPlanted b p count = Planted b p.next.now p.states.now count p.made

-- it still writes in the memory that was lent
abbrev pub StaysLent : Planter → Planter → Type 0
StaysLent p q = (q.next.ghost_name ≡ p.next.ghost_name) × (q.states.ghost_name ≡ p.states.ghost_name)
