use Rattle.std.proofs.Common.{◌≡◌, ℕ, ◌<◌, map, length, take}
use Rattle.book.specs.Book.{among}
use Rattle.finders.specs.Places.{marked}
use Rattle.finders.proofs.rows.places.first_places.Given as goal

abbrev pub invariant-loop-keyword : goal.invariant-loop-keyword
invariant-loop-keyword g l = (length l.firsts ≡ 1023) × ((p : ℕ) → p < 1023 → marked l.firsts p ≡ among p (map (λ k. k.first) (take l.keyword-index l.keyword-items)))
