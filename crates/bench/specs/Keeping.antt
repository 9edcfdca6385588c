-- What a call does to a bench, whatever the bench has been through.
use Rattle.std.specs.Prelude.{◌≡◌, ℕ, ◌<◌, Bool, ℤ, is_some, Some, Ok, Err, Option, Result}
use Rattle.refusals.specs.declared.Refusal.{Refusal}
use Rattle.cells.specs.declared.kinds.Cell as Cell
use Rattle.columns.specs.declared.numbers.Numbers.{Numbers}
use Rattle.columns.specs.Numbers.{member}
use Rattle.book.specs.Book.{Book}
use Rattle.finders.specs.declared.finding.Finder as Finder
use Rattle.history.specs.Answers.{verdict, after}
use Rattle.history.specs.Calls.{Call, feed, arm, rest, History}
use Rattle.history.specs.Told.{Told, feed_answer}
use Rattle.standings.specs.declared.turns.Turn.{Turn}
use Rattle.standings.specs.declared.turns.Turn.TheVariants.{Arm, Rest}
use Rattle.bench.specs.declared.benches.Bench.{Bench}
use Rattle.bench.specs.declared.states.LineState.{LineState}
use Rattle.bench.specs.Lived.{Represents}
use Rattle.matching.specs.Seen.{Heard}
use Rattle.bench.specs.Standings.{standing_answer}

-- whether a sort of finder takes a sample
abbrev pub takes : {S Y : Type 0} → (S → Option Y) → S → Bool
takes reads s = is_some (reads s)

-- what an answer of feed tells
abbrev pub told : Result (ℕ × Numbers × ℤ) Refusal → Result Told Refusal
told (Ok t) = Ok (t.0, member t.1, t.2)
told (Err e) = Err e

-- the call that a turn of a line is
abbrev pub turn_of : {S : Type 0} → Turn → ℕ → Call S
turn_of Arm n = arm n
turn_of Rest n = rest n

-- over a kind of cell and a sort of finder, by what their traits say of them
module _ {C F S X Y : Type 0} (kind : Cell.Ghosts C S X) (sort : Finder.Ghosts F C Y S X) where
  -- A feed: whichever book and history a bench has, the answer is the defined one, and the bench has later been through
  -- the history after the call.
  pub record Fed (bench : Bench C F S X Y kind sort) (s : S) (r : Result (ℕ × Numbers × ℤ) Refusal) (later : Bench C F S X Y kind sort) : Type 0 where
    pub answer : (b : Book C) (h : History S) → Represents kind sort bench b h → told r ≡ feed_answer kind.hears (takes sort.reads) b h s
    pub history : (b : Book C) (h : History S) → Represents kind sort bench b h → Represents kind sort later b (after (takes sort.reads) b h (feed s))

  -- Arm, rest or clear: likewise.
  pub record Did (bench : Bench C F S X Y kind sort) (c : Call S) (r : Result (Unit {0}) Refusal) (later : Bench C F S X Y kind sort) : Type 0 where
    pub answer : (b : Book C) (h : History S) → Represents kind sort bench b h → r ≡ verdict (takes sort.reads) b h c
    pub history : (b : Book C) (h : History S) → Represents kind sort bench b h → Represents kind sort later b (after (takes sort.reads) b h c)

  -- The standing question: likewise, and nothing is altered.
  pub record Stands (bench : Bench C F S X Y kind sort) (n : ℕ) (r : Option LineState) : Type 0 where
    pub answer : (b : Book C) (h : History S) → Represents kind sort bench b h → r ≡ standing_answer b h n

  -- a sample that feed does not refuse, and the symbol that it is read as
  pub record Ready (bench : Bench C F S X Y kind sort) (s : S) (y : Y) : Type 0 where
    pub read : sort.reads s ≡ Some y
    pub heard : Heard kind sort y s
    pub room : bench.desk.count < 4000000000
