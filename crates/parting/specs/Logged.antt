-- What a log says that each bench replied.
use Rattle.std.specs.Prelude.{List, map, Result}
use Rattle.refusals.specs.declared.Refusal.{Refusal}
use Rattle.parting.specs.declared.commands.Answer.{Answer}
use Rattle.parting.specs.declared.commands.Trio.{Trio}
use Rattle.parting.specs.Replies.{Reply, said}

-- an entry of a log: what each of three benches answered to one command
abbrev pub Entry : Type 0
Entry = Trio (Result Answer Refusal) (Result Answer Refusal) (Result Answer Refusal)

-- the replies of the whole
abbrev pub of_whole : List Entry → List Reply
of_whole log = map said (map (λ t. t.whole) log)

-- of the first part
abbrev pub of_first : List Entry → List Reply
of_first log = map said (map (λ t. t.first) log)

-- of the second
abbrev pub of_second : List Entry → List Reply
of_second log = map said (map (λ t. t.second) log)
