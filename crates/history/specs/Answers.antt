-- Which calls are accepted, and the history after a call.
use Rattle.std.specs.Prelude.{Bool, true, false, not, List, [], ◌∷◌, is_ok, Result, nat_lt}
use Rattle.refusals.specs.declared.Refusal.{Refusal}
use Rattle.refusals.specs.declared.Refusal.TheVariants.{NoSymbol, TicksSpent, NoSuchLine, AlreadyArmed, AlreadyResting}
use Rattle.book.specs.Book.{Book, has_number}
use Rattle.book.specs.Entering.{judged}
use Rattle.history.specs.Calls.{Call, feed, arm, rest, clear, History, count}
use Rattle.history.specs.Standing.{is_armed}

module _ {C S : Type 0} (takes : S → Bool) (b : Book C) where
  -- the rules of each call in the order in which they are checked, each with the refusal where it is broken
  abbrev pub rules_of : History S → Call S → List (Bool × Refusal)
  rules_of h (feed s) = (takes s, NoSymbol) ∷ (nat_lt (count h) 4000000000, TicksSpent) ∷ []
  rules_of h (arm n) = (has_number n b, NoSuchLine) ∷ (not (is_armed h n), AlreadyArmed) ∷ []
  rules_of h (rest n) = (has_number n b, NoSuchLine) ∷ (is_armed h n, AlreadyResting) ∷ []
  rules_of h clear = []

  -- whether a call is accepted, or its refusal
  abbrev pub verdict : History S → Call S → Result (Unit {0}) Refusal
  verdict h c = judged (rules_of h c)

  -- the history after a call: a refused call adds nothing
  abbrev pub after : History S → Call S → History S
  after h c = elim (is_ok (verdict h c)) [ true ↦ c ∷ h | false ↦ h ]

  -- the history after calls, good and bad, in their order
  abbrev pub run : History S → List (Call S) → History S
  run h [] = h
  run h (c ∷ cs) = run (after h c) cs
