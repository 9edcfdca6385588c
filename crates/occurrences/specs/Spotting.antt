-- Keywords that end at the newest tick, by the samples.
use Rattle.std.specs.Prelude.{ℕ, zero, suc, Bool, false, List, [], ◌∷◌, reverse}
use Rattle.book.specs.Book.{Book, all_keywords}
use Rattle.finders.specs.Latest.{admit_all}

module _ {C S : Type 0} (hears : C → S → Bool) where
  -- whether the k-th of some keywords ends with the newest of some samples, the newest first
  abbrev pub spotted_among : List (List C) → List S → ℕ → Bool
  spotted_among [] newest k = false
  spotted_among (w ∷ ws) newest zero = admit_all hears (reverse w) newest
  spotted_among (w ∷ ws) newest (suc k) = spotted_among ws newest k

  -- for each tick, the newest first, which keywords of a book ended at it
  abbrev pub pasts : Book C → List S → List (ℕ → Bool)
  pasts b [] = []
  pasts b (s ∷ newest) = spotted_among (all_keywords b) (s ∷ newest) ∷ pasts b newest
