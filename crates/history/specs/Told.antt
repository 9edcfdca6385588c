-- What a tick tells, and what a feed answers.
use Rattle.std.specs.Prelude.{ℕ, ◌+◌, Bool, ◌∷◌, ℤ, Ok, Err, Result}
use Rattle.refusals.specs.declared.Refusal.{Refusal}
use Rattle.book.specs.Book.{Book, among}
use Rattle.history.specs.Answers.{verdict}
use Rattle.history.specs.Calls.{feed, History, count}
use Rattle.history.specs.Points.{points}
use Rattle.history.specs.Reports.{numbers_reported}

-- what is told of a tick: the tick, whether each number is that of a line reported at it, and its points
abbrev pub Told : Type 0
Told = ℕ × (ℕ → Bool) × ℤ

module _ {C S : Type 0} (hears : C → S → Bool) (takes : S → Bool) (b : Book C) where
  -- what a history tells of tick i
  abbrev pub told_of : History S → ℕ → Told
  told_of h i = (i, (λ n. among n (numbers_reported hears b h i)), points hears b h i)

  -- what a feed answers: what the new tick tells, or the refusal
  abbrev pub feed_answer : History S → S → Result Told Refusal
  feed_answer h s = elim (verdict takes b h (feed s)) [ Ok u ↦ Ok (told_of (feed s ∷ h) (count h + 1)) | Err e ↦ Err e ]
