-- Labels: the longest suffix of the letters that begins some keyword.
use Rattle.std.specs.Prelude.{◌≡◌, ℕ, ◌-◌, ◌<◌, ◌≤◌, ◌⊎◌, List, [], map, length, take, drop, slice_index_or}
use Rattle.book.specs.Book.{Book, all_keywords}
use Rattle.cells.specs.declared.letters.Letter.{Letter}
use Rattle.cells.specs.declared.letters.LetterCell.{LetterCell}

-- A word is a list of bytes: letters as a word, and the word that cells spell.
abbrev pub word : List Letter → List ℕ
word letters = map (λ l. l.byte) letters

abbrev pub spelt : List LetterCell → List ℕ
spelt cells = map (λ c. c.letter.byte) cells

-- the words that the keywords of a book spell
abbrev pub keyword_words : Book LetterCell → List (List ℕ)
keyword_words b = map spelt (all_keywords b)

-- one word is a suffix of another: it is the end of it
abbrev pub Suffix : List ℕ → List ℕ → Type 0
Suffix u v = drop (length v - length u) v ≡ u

-- one word begins another: it is the front of it
abbrev pub Begins : List ℕ → List ℕ → Type 0
Begins u v = take (length u) v ≡ u

-- a word begins some keyword; the empty word does so even where there is none
abbrev pub BeginsSome : List (List ℕ) → List ℕ → Type 0
BeginsSome keywords u = (u ≡ []) ⊎ ((k : ℕ) × (k < length keywords) × Begins u (slice_index_or keywords k []))

-- the label after some letters: of their suffixes that begin some keyword, the longest
pub record Label (keywords : List (List ℕ)) (letters label : List ℕ) : Type 0 where
  pub suffix : Suffix label letters
  pub begins : BeginsSome keywords label
  pub longest : (u : List ℕ) → Suffix u letters → BeginsSome keywords u → length u ≤ length label
