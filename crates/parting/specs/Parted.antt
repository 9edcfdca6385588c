-- A book that is parted, and how its parts share out what the whole replies.
use Rattle.std.specs.Prelude.{◌≡◌, ℕ, true, false, ◌&&◌, ◌||◌, List, [], ◌∷◌, ◌++◌, ◌+ℤ◌, is_some, is_ok, None, Ok, Err, Option}
use Rattle.std.specs.List.Sorted.{IsPermutation}
use Rattle.refusals.specs.declared.Refusal.{Refusal}
use Rattle.refusals.specs.declared.Refusal.TheVariants.{NoSuchLine}
use Rattle.book.specs.Book.{Book, has_number}
use Rattle.history.specs.Told.{Told}
use Rattle.parting.specs.declared.commands.Command.{Command}
use Rattle.parting.specs.declared.commands.Command.TheVariants.{Feed, Arm, Rest, Clear, Standing}
use Rattle.parting.specs.Replies.{ticked, done, standing, Reply}

-- A book is parted between two: put together, their lines are its lines, each complete and once, in any order.
abbrev pub Parted : {C : Type 0} → Book C → Book C → Book C → Type 0
Parted whole first second = IsPermutation (first ++ second) whole

-- two sorts of finder take the same samples
abbrev pub TakeAlike : {S Y Z : Type 0} → (S → Option Y) → (S → Option Z) → Type 0
TakeAlike {S} reads reads' = (s : S) → is_some (reads s) ≡ is_some (reads' s)

-- One tick, as the whole and as its parts tell it: the same tick; the whole reports exactly the lines that the parts
-- report between them, none twice; and its points are the first part's plus the second's.
pub record TickShared (whole first second : Told) : Type 0 where
  pub tick_of_first : first.0 ≡ whole.0
  pub tick_of_second : second.0 ≡ whole.0
  pub reports : (n : ℕ) → whole.1 n ≡ (first.1 n || second.1 n)
  pub none_twice : (n : ℕ) → (first.1 n && second.1 n) ≡ false
  pub points : whole.2 ≡ first.2 +ℤ second.2

-- A feed that the whole accepts is accepted by both parts, and the tick is shared out; one that it refuses gets the same
-- refusal from all three.
pub record FeedShared (whole first second : Reply) : Type 0 where
  pub accepted : (t : Told) → whole ≡ Ok (ticked t) → (u v : Told) × (first ≡ Ok (ticked u)) × (second ≡ Ok (ticked v)) × TickShared t u v
  pub refused : (e : Refusal) → whole ≡ Err e → (first ≡ Err e) × (second ≡ Err e)

module _ {C : Type 0} (one two : Book C) where
  -- A command for one line: the whole replies as the part that has the line, and the other part as any bench without it.
  pub record OwnPart (n : ℕ) (without whole first second : Reply) : Type 0 where
    pub in_first : has_number n one ≡ true → (whole ≡ first) × (second ≡ without)
    pub in_second : has_number n two ≡ true → (whole ≡ second) × (first ≡ without)
    pub in_neither : has_number n one ≡ false → has_number n two ≡ false → (whole ≡ without) × (first ≡ without) × (second ≡ without)

  -- how the replies to a command are shared out
  abbrev pub ByCommand : {S : Type 0} → Command S → Reply → Reply → Reply → Type 0
  ByCommand (Feed s) whole first second = FeedShared whole first second
  ByCommand (Arm n) whole first second = OwnPart n (Err NoSuchLine) whole first second
  ByCommand (Rest n) whole first second = OwnPart n (Err NoSuchLine) whole first second
  ByCommand Clear whole first second = (whole ≡ Ok done) × (first ≡ Ok done) × (second ≡ Ok done)
  ByCommand (Standing n) whole first second = OwnPart n (Ok (standing None)) whole first second

  -- and that the whole refuses exactly when both parts refuse
  pub record Shared {S : Type 0} (c : Command S) (whole first second : Reply) : Type 0 where
    pub by_command : ByCommand c whole first second
    pub refuses : is_ok whole ≡ (is_ok first || is_ok second)

  -- at every step of some commands
  abbrev pub AllShared : {S : Type 0} → List (Command S) → List Reply → List Reply → List Reply → Type 0
  AllShared [] ws fs ss = Unit {0}
  AllShared (c ∷ cs) [] fs ss = ⊥
  AllShared (c ∷ cs) (w ∷ ws) [] ss = ⊥
  AllShared (c ∷ cs) (w ∷ ws) (f ∷ fs) [] = ⊥
  AllShared (c ∷ cs) (w ∷ ws) (f ∷ fs) (s ∷ ss) = Shared c w f s × AllShared cs ws fs ss
