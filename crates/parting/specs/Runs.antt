-- What commands do to benches, whatever these have been through.
use Rattle.std.specs.Prelude.{◌≡◌, List, map, Result}
use Rattle.refusals.specs.declared.Refusal.{Refusal}
use Rattle.cells.specs.declared.kinds.Cell as Cell
use Rattle.book.specs.Book.{Book}
use Rattle.finders.specs.declared.finding.Finder as Finder
use Rattle.history.specs.Calls.{History}
use Rattle.bench.specs.declared.benches.Bench.{Bench}
use Rattle.bench.specs.Keeping.{takes}
use Rattle.bench.specs.Lived.{Represents}
use Rattle.parting.specs.declared.commands.Command.{Command}
use Rattle.parting.specs.declared.commands.Answer.{Answer}
use Rattle.parting.specs.declared.commands.Trio.{Trio}
use Rattle.parting.specs.Logged.{Entry}
use Rattle.parting.specs.Replies.{said, reply, then, replies, then_all}

-- over a kind of cell and a sort of finder, by what their traits say of them
module _ {C F S X Y : Type 0} (kind : Cell.Ghosts C S X) (sort : Finder.Ghosts F C Y S X) where
  -- one command: the answer says the defined reply, and the bench has later been through the history after it
  pub record Answered (bench : Bench C F S X Y kind sort) (c : Command S) (r : Result Answer Refusal) (later : Bench C F S X Y kind sort) : Type 0 where
    pub replied : (b : Book C) (h : History S) → Represents kind sort bench b h → said r ≡ reply kind.hears (takes sort.reads) b h c
    pub history : (b : Book C) (h : History S) → Represents kind sort bench b h → Represents kind sort later b (then kind.hears (takes sort.reads) b h c)

  -- commands in turn: likewise
  pub record Ran (bench : Bench C F S X Y kind sort) (cs : List (Command S)) (rs : List (Result Answer Refusal)) (later : Bench C F S X Y kind sort) : Type 0 where
    pub replied : (b : Book C) (h : History S) → Represents kind sort bench b h → map said rs ≡ replies kind.hears (takes sort.reads) b h cs
    pub history : (b : Book C) (h : History S) → Represents kind sort bench b h → Represents kind sort later b (then_all kind.hears (takes sort.reads) b h cs)

-- over three sorts of finder
module _ {C S Z W X Y W' X' Y' : Type 0} (kind : Cell.Ghosts C S Z) (of_whole : Finder.Ghosts W C W' S Z) (of_first : Finder.Ghosts X C X' S Z) (of_second : Finder.Ghosts Y C Y' S Z) where
  -- a bench of each
  abbrev pub Three : Type 0
  Three = Trio (Bench C W S Z W' kind of_whole) (Bench C X S Z X' kind of_first) (Bench C Y S Z Y' kind of_second)

  -- one command to each of three benches
  pub record AllAnswered (benches : Three) (c : Command S) (answers : Entry) (later : Three) : Type 0 where
    pub whole : Answered kind of_whole benches.whole c answers.whole later.whole
    pub first : Answered kind of_first benches.first c answers.first later.first
    pub second : Answered kind of_second benches.second c answers.second later.second

  -- commands in turn to each of them
  pub record AllRan (benches : Three) (cs : List (Command S)) (log : List Entry) (later : Three) : Type 0 where
    pub whole : Ran kind of_whole benches.whole cs (map (λ t. t.whole) log) later.whole
    pub first : Ran kind of_first benches.first cs (map (λ t. t.first) log) later.first
    pub second : Ran kind of_second benches.second cs (map (λ t. t.second) log) later.second
