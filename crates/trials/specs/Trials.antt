-- The trials: books, calls, and what is reported and due at each tick.
use Rattle.std.specs.Prelude.{◌≡◌, ℕ, List, [], ◌∷◌, ◌++◌, map, replicate, ℤ, pos, negsuc, Ok, Err, codes}
use Rattle.std.specs.List.{range_with_len, flat_map, AllByRecursion}
use Rattle.cells.specs.declared.letters.LetterCell.{LetterCell}
use Rattle.cells.specs.Alphabet.{is_letter}
use Rattle.cells.specs.Letters.{letter_cell_of, letter_hears}
use Rattle.book.specs.Book.{Line, Book}
use Rattle.history.specs.Answers.{run}
use Rattle.history.specs.Calls.{Call, feed, arm, rest, count}
use Rattle.history.specs.Points.{points}
use Rattle.history.specs.Reports.{numbers_reported}

-- the cells of letters
abbrev pub word : List ℕ → List LetterCell
word bytes = flat_map (λ byte. elim (letter_cell_of byte) [ Ok c ↦ c ∷ [] | Err r ↦ [] ]) bytes

-- a feed of each letter
abbrev pub fed : List ℕ → List (Call ℕ)
fed bytes = map feed bytes

-- what a display shows of a tick: the numbers reported at it, in entry order, and its points
abbrev pub Shown : Type 0
Shown = List ℕ × ℤ

-- ticks without a report and without points
abbrev pub quiet : ℕ → List Shown
quiet n = replicate n ([], pos 0)

-- a trial: a book, calls in their order, good and bad, and what each tick then shows
pub record Trial : Type 0 where
  pub lines : Book LetterCell
  pub calls : List (Call ℕ)
  pub shown : List Shown

-- what the ticks show by the definitions
abbrev pub shows : Trial → List Shown
shows t =
    let h = run is_letter t.lines [] t.calls in
    map (λ i. (numbers_reported letter_hears t.lines h i, points letter_hears t.lines h i)) (range_with_len 1 (count h))

-- AB, gap 2, C
abbrev pub line_5 : Line LetterCell
line_5 = record { number = 5; points = pos 30; lag = 0; keywords = word (codes "AB") ∷ word (codes "C") ∷ []; gaps = 2 ∷ [] }

-- B, gap 2, C
abbrev pub line_7 : Line LetterCell
line_7 = record { number = 7; points = negsuc 9; lag = 3; keywords = word (codes "B") ∷ word (codes "C") ∷ []; gaps = 2 ∷ [] }

-- C, gap 0, C
abbrev pub line_9 : Line LetterCell
line_9 = record { number = 9; points = pos 5; lag = 0; keywords = word (codes "C") ∷ word (codes "C") ∷ []; gaps = 0 ∷ [] }

-- A, gap 112, a last keyword
abbrev pub far : List ℕ → Line LetterCell
far last = record { number = 1; points = pos 1; lag = 0; keywords = word (codes "A") ∷ word last ∷ []; gaps = 112 ∷ [] }

-- 112 times D, and sixteen times P
abbrev pub ds : ℕ → List ℕ
ds n = replicate n 68

abbrev pub sixteen : List ℕ
sixteen = replicate 16 80

abbrev pub example : List (Call ℕ)
example = fed (codes "ABDDCABCC")

abbrev pub trials : List Trial
trials =
    -- line 5 on ABDDC
    record { lines = line_5 ∷ []; calls = fed (codes "ABDDC"); shown = quiet 4 ++ (5 ∷ [], pos 30) ∷ [] }
    -- on a gap too short, and on one too long
    ∷ record { lines = line_5 ∷ []; calls = fed (codes "ABDC"); shown = quiet 4 }
    ∷ record { lines = line_5 ∷ []; calls = fed (codes "ABDDDC"); shown = quiet 6 }
    -- occurrences that overlap
    ∷ record { lines = line_9 ∷ []; calls = fed (codes "CCC"); shown = quiet 1 ++ (9 ∷ [], pos 5) ∷ (9 ∷ [], pos 5) ∷ [] }
    -- the longest gap, and one tick more
    ∷ record { lines = far (codes "B") ∷ []; calls = fed (codes "A" ++ ds 112 ++ codes "B"); shown = quiet 113 ++ (1 ∷ [], pos 1) ∷ [] }
    ∷ record { lines = far (codes "B") ∷ []; calls = fed (codes "A" ++ ds 113 ++ codes "B"); shown = quiet 115 }
    -- the longest distance between the ends of two keywords
    ∷ record { lines = far sixteen ∷ []; calls = fed (codes "A" ++ ds 112 ++ sixteen); shown = quiet 128 ++ (1 ∷ [], pos 1) ∷ [] }
    -- a line armed again starts afresh
    ∷ record { lines = line_5 ∷ []; calls = fed (codes "ABD") ++ rest 5 ∷ arm 5 ∷ fed (codes "DCABDDC"); shown = quiet 9 ++ (5 ∷ [], pos 30) ∷ [] }
    ∷ record { lines = line_5 ∷ []; calls = fed (codes "DDD") ++ rest 5 ∷ arm 5 ∷ fed (codes "ABDDC"); shown = quiet 7 ++ (5 ∷ [], pos 30) ∷ [] }
    ∷ record { lines = line_5 ∷ []; calls = fed (codes "DDDA") ++ rest 5 ∷ arm 5 ∷ fed (codes "BDDC"); shown = quiet 8 }
    -- a refused sample is no tick
    ∷ record { lines = line_5 ∷ []; calls = fed (codes "ABQDDC"); shown = quiet 4 ++ (5 ∷ [], pos 30) ∷ [] }
    -- points of a line that was rested since its report
    ∷ record { lines = line_7 ∷ []; calls = fed (codes "ABDDCA") ++ rest 7 ∷ fed (codes "BC"); shown = quiet 4 ++ (7 ∷ [], pos 0) ∷ quiet 2 ++ ([], negsuc 9) ∷ [] }
    -- a book without lines
    ∷ record { lines = []; calls = fed (codes "ABDDC"); shown = quiet 5 }
    -- the worked example, whole and shared out between two parts
    ∷ record { lines = line_5 ∷ line_7 ∷ line_9 ∷ []; calls = example; shown = quiet 4 ++ (5 ∷ 7 ∷ [], pos 30) ∷ quiet 2 ++ ([], negsuc 9) ∷ (9 ∷ [], pos 5) ∷ [] }
    ∷ record { lines = line_5 ∷ line_9 ∷ []; calls = example; shown = quiet 4 ++ (5 ∷ [], pos 30) ∷ quiet 3 ++ (9 ∷ [], pos 5) ∷ [] }
    ∷ record { lines = line_7 ∷ []; calls = example; shown = quiet 4 ++ (7 ∷ [], pos 0) ∷ quiet 2 ++ ([], negsuc 9) ∷ quiet 1 }
    ∷ []

-- each trial shows what it is expected to show
abbrev pub TrialsHold : Type 0
TrialsHold = AllByRecursion (λ t. shows t ≡ t.shown) trials
