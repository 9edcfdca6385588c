-- The refusal table's numbers.
use Rattle.std.specs.Prelude.{ℕ}
use Rattle.refusals.specs.declared.Refusal.{Refusal}
use Rattle.refusals.specs.declared.Refusal.TheVariants.{NumberOutOfRange, NumberTaken, PointsOutOfRange, LagTooLong, KeywordCount, KeywordLength, GapTooLong, BookFull, RowLength, BadDecimal, BadKeyword, NoSymbol, BadBounds, TicksSpent, NoSuchLine, AlreadyArmed, AlreadyResting, TrayFull}

-- the number of each refusal
abbrev pub number_of : Refusal → ℕ
number_of NumberOutOfRange = 11
number_of NumberTaken = 12
number_of PointsOutOfRange = 13
number_of LagTooLong = 14
number_of KeywordCount = 15
number_of KeywordLength = 16
number_of GapTooLong = 17
number_of BookFull = 18
number_of RowLength = 21
number_of BadDecimal = 22
number_of BadKeyword = 23
number_of NoSymbol = 31
number_of BadBounds = 32
number_of TicksSpent = 33
number_of NoSuchLine = 34
number_of AlreadyArmed = 35
number_of AlreadyResting = 36
number_of TrayFull = 41
