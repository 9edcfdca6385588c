-- Commands in turn, one more at a time.
use Rattle.std.proofs.Common.{◌≡◌, ℕ, ◌+◌, ◌<◌, Bool, List, [], ◌∷◌, ◌++◌, map, length, get_or, take, set, Result, sym, refl, ap, ◌∙◌, subst}
use Rattle.std.proofs.lemmas.List.{map_push, take_more, take_more_set}
use Rattle.refusals.specs.declared.Refusal.{Refusal}
use Rattle.cells.specs.declared.kinds.Cell as Cell
use Rattle.book.specs.Book.{Book}
use Rattle.finders.specs.declared.finding.Finder as Finder
use Rattle.history.specs.Calls.{History}
use Rattle.bench.specs.declared.benches.Bench.{Bench}
use Rattle.bench.specs.Keeping.{takes}
use Rattle.parting.specs.declared.commands.Command.{Command}
use Rattle.parting.specs.declared.commands.Answer.{Answer}
use Rattle.parting.specs.Replies.{said, reply, then, replies, then_all}
use Rattle.parting.specs.Logged.{Entry}
use Rattle.parting.specs.Runs.{Answered, Ran, Three, AllAnswered, AllRan}

module _ {C S : Type 0} (hears : C → S → Bool) (takes : S → Bool) (b : Book C) where
  then_push : (h : History S) (cs : List (Command S)) (c : Command S) → then_all hears takes b h (cs ++ c ∷ []) ≡ then hears takes b (then_all hears takes b h cs) c
  then_push h [] c = refl
  then_push h (x ∷ cs) c = then_push (then hears takes b h x) cs c

  replies_push : (h : History S) (cs : List (Command S)) (c : Command S) → replies hears takes b h (cs ++ c ∷ []) ≡ replies hears takes b h cs ++ reply hears takes b (then_all hears takes b h cs) c ∷ []
  replies_push h [] c = refl
  replies_push h (x ∷ cs) c = ap (λ rs. reply hears takes b h x ∷ rs) (replies_push (then hears takes b h x) cs c)

module _ {C F S X Y : Type 0} (kind : Cell.Ghosts C S X) (sort : Finder.Ghosts F C Y S X) where
  pub ran_more : (bench now later : Bench C F S X Y kind sort) (cs : List (Command S)) (rs : List (Result Answer Refusal)) (c : Command S) (r : Result Answer Refusal)
      → Ran kind sort bench cs rs now → Answered kind sort now c r later
      → Ran kind sort bench (cs ++ c ∷ []) (rs ++ r ∷ []) later
  ran_more bench now later cs rs c r ran one = record {
    replied = λ b h x.
        map_push said rs r
        ∙ (λ i. ran.replied b h x i ++ one.replied b (then_all kind.hears (takes sort.reads) b h cs) (ran.history b h x) i ∷ [])
        ∙ sym (replies_push kind.hears (takes sort.reads) b h cs c);
    history = λ b h x. rw then_push (one.history b (then_all kind.hears (takes sort.reads) b h cs) (ran.history b h x));
  }

  -- one step of a loop over commands and a log
  pub ran_step : {L : Type 0} (answer : L → Result Answer Refusal) (bench now later : Bench C F S X Y kind sort) (cs : List (Command S)) (log : List L) (i : ℕ) (c : Command S) (entry : L)
      → i < length cs → i < length log → c ≡ get_or cs i c
      → Ran kind sort bench (take i cs) (map answer (take i log)) now → Answered kind sort now c (answer entry) later
      → Ran kind sort bench (take (i + 1) cs) (map answer (take (i + 1) (set log i entry))) later
  ran_step answer bench now later cs log i c entry inside room is ran one =
      let commands : take (i + 1) cs ≡ take i cs ++ c ∷ [] = take_more cs i c inside ∙ ap (λ x. take i cs ++ x ∷ []) (sym is) in
      let entries : map answer (take (i + 1) (set log i entry)) ≡ map answer (take i log) ++ answer entry ∷ [] = ap (map answer) (take_more_set log i entry room) ∙ map_push answer (take i log) entry in
      subst (λ x. Ran kind sort bench x (map answer (take (i + 1) (set log i entry))) later) (sym commands)
      (subst (λ x. Ran kind sort bench (take i cs ++ c ∷ []) x later) (sym entries)
      (ran_more bench now later (take i cs) (map answer (take i log)) c (answer entry) ran one))

module _ {C S Z W X Y W' X' Y' : Type 0} (kind : Cell.Ghosts C S Z) (w : Finder.Ghosts W C W' S Z) (x : Finder.Ghosts X C X' S Z) (y : Finder.Ghosts Y C Y' S Z) where
  -- one step of a loop over three benches
  pub all_ran_step : (benches now later : Three kind w x y) (cs : List (Command S)) (log : List Entry) (i : ℕ) (c : Command S) (entry : Entry)
      → i < length cs → i < length log → c ≡ get_or cs i c
      → AllRan kind w x y benches (take i cs) (take i log) now → AllAnswered kind w x y now c entry later
      → AllRan kind w x y benches (take (i + 1) cs) (take (i + 1) (set log i entry)) later
  all_ran_step benches now later cs log i c entry inside room is ran one = record {
    whole = ran_step kind w (λ t. t.whole) benches.whole now.whole later.whole cs log i c entry inside room is ran.whole one.whole;
    first = ran_step kind x (λ t. t.first) benches.first now.first later.first cs log i c entry inside room is ran.first one.first;
    second = ran_step kind y (λ t. t.second) benches.second now.second later.second cs log i c entry inside room is ran.second one.second;
  }
