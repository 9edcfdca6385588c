-- What a bench replies to commands, by its history.
use Rattle.std.specs.Prelude.{Bool, List, [], ◌∷◌, Ok, Err, Option, Result}
use Rattle.refusals.specs.declared.Refusal.{Refusal}
use Rattle.columns.specs.Numbers.{member}
use Rattle.book.specs.Book.{Book}
use Rattle.history.specs.Answers.{verdict, after}
use Rattle.history.specs.Calls.{feed, arm, rest, clear, History}
use Rattle.history.specs.Told.{Told, feed_answer}
use Rattle.bench.specs.declared.states.LineState.{LineState}
use Rattle.bench.specs.Standings.{standing_answer}
use Rattle.parting.specs.declared.commands.Command.{Command}
use Rattle.parting.specs.declared.commands.Command.TheVariants.{Feed, Arm, Rest, Clear, Standing}
use Rattle.parting.specs.declared.commands.Answer.{Answer}
use Rattle.parting.specs.declared.commands.Answer.TheVariants as answer

-- what an accepted command is told: a tick, nothing more than that it is done, or a standing
pub data Saying : Type 0 where
  ticked : Told → Saying
  done : Saying
  standing : Option LineState → Saying

-- a reply is a saying or a refusal
abbrev pub Reply : Type 0
Reply = Result Saying Refusal

-- what an answer says
abbrev pub saying : Answer → Saying
saying (answer.Tick t s p) = ticked (t, member s, p)
saying answer.Done = done
saying (answer.Standing o) = standing o

-- a reply, by what is said where there is no refusal
abbrev pub replied : {T : Type 0} → (T → Saying) → Result T Refusal → Reply
replied says (Ok t) = Ok (says t)
replied says (Err e) = Err e

-- what an answer says that may be a refusal
abbrev pub said : Result Answer Refusal → Reply
said r = replied saying r

-- what a feed replies
abbrev pub fed : Result Told Refusal → Reply
fed r = replied ticked r

-- what arm, rest and clear reply
abbrev pub turned : Result (Unit {0}) Refusal → Reply
turned r = replied (λ u. done) r

module _ {C S : Type 0} (hears : C → S → Bool) (takes : S → Bool) (b : Book C) where
  -- the reply to a command after a history
  abbrev pub reply : History S → Command S → Reply
  reply h (Feed s) = fed (feed_answer hears takes b h s)
  reply h (Arm n) = turned (verdict takes b h (arm n))
  reply h (Rest n) = turned (verdict takes b h (rest n))
  reply h Clear = turned (verdict takes b h clear)
  reply h (Standing n) = Ok (standing (standing_answer b h n))

  -- the history after it: a question adds nothing
  abbrev pub then : History S → Command S → History S
  then h (Feed s) = after takes b h (feed s)
  then h (Arm n) = after takes b h (arm n)
  then h (Rest n) = after takes b h (rest n)
  then h Clear = after takes b h clear
  then h (Standing n) = h

  -- the replies to commands, good and bad, in their order
  abbrev pub replies : History S → List (Command S) → List Reply
  replies h [] = []
  replies h (c ∷ cs) = reply h c ∷ replies (then h c) cs

  -- the history after them
  abbrev pub then_all : History S → List (Command S) → History S
  then_all h [] = h
  then_all h (c ∷ cs) = then_all (then h c) cs
