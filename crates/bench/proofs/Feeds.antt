-- One tick of a bench's life.
use Rattle.std.proofs.Common.{◌≡◌, ℕ, ◌+◌, ◌-◌, ◌<◌, ◌≤◌, Bool, true, cond, ◌∷◌, ℤ, is_ok, Ok, Err, sym, ap, ◌∙◌, subst, ⊎_elim, arith}
use mathlib.Core.Path.{fun_ext}
use Rattle.std.proofs.lemmas.Bool.{cases_eq, lt-ltb}
use Rattle.refusals.specs.declared.Refusal.TheVariants.{NoSymbol, TicksSpent}
use Rattle.cells.specs.declared.kinds.Cell as Cell
use Rattle.book.specs.Book.{Book, among}
use Rattle.columns.specs.declared.marks.Column.{Column}
use Rattle.columns.specs.declared.numbers.Numbers.{Numbers}
use Rattle.columns.specs.Numbers.{member}
use Rattle.finders.specs.declared.finding.Finder as Finder
use Rattle.history.specs.Answers.{verdict, after}
use Rattle.history.specs.Calls.{feed, History, samples, count}
use Rattle.history.specs.Points.{points}
use Rattle.history.specs.Reports.{numbers_reported}
use Rattle.history.specs.Told.{told_of, feed_answer}
use Rattle.lookback.specs.declared.lookbacks.Lookback.{Lookback}
use Rattle.standings.specs.Turning.{standing_at}
use Rattle.bench.specs.declared.desks.Desk.{Desk}
use Rattle.bench.specs.Due.{due_points}
use Rattle.bench.specs.Firing.{any_fires}
use Rattle.bench.specs.Life.{Lives}
use Rattle.bench.specs.Noted.{noted}
use Rattle.matching.specs.Seen.{Sees, Occur}
use Rattle.bench.specs.Ticked.{Ticked}
use Rattle.bench.proofs.Fires.{fired, due}
use Rattle.bench.proofs.Histories.{earlier, alike}
use Rattle.bench.proofs.Turns.{accepted}

-- a desk with another ring
abbrev pub ringed : Desk → Lookback → Desk
ringed d ring = record { lines = d.lines; lookback = ring; standings = d.standings; recent = d.recent; count = d.count }

module _ {C F S X Y : Type 0} (kind : Cell.Ghosts C S X) (sort : Finder.Ghosts F C Y S X) (f : F) (d : Desk) (b : Book C) (h : History S) (life : Lives kind sort f d b h)
    (s : S) (ring : Lookback) (column : Column) (r : ℕ × Numbers × ℤ) (later : Desk) (occ : Occur kind.hears column b (s ∷ samples h)) (ticked : Ticked (ringed d ring) column r later) where
  up : d.count + 1 ≡ count h + 1
  up = ap (λ x. x + 1) life.ticks

  reported_is : (n : ℕ) → member r.1 n ≡ among n (numbers_reported kind.hears b (feed s ∷ h) (count h + 1))
  reported_is n =
      ticked.reported n
      ∙ (λ i. any_fires column d.standings (up i) (life.lines i) n)
      ∙ fired kind.hears b life.sees.finder.proper h s column d.standings occ life.standings n

  recent_is : (i : ℕ) → i ≤ count h + 1 → count h + 1 < i + 64 → (n : ℕ) → noted later.recent i n ≡ among n (numbers_reported kind.hears b (feed s ∷ h) i)
  recent_is i low near n =
      ⊎_elim
      (λ now.
      ap (λ x. noted later.recent x n) (now ∙ sym up) ∙ ticked.newest n ∙ reported_is n
      ∙ ap (λ x. among n (numbers_reported kind.hears b (feed s ∷ h) x)) (sym now))
      (λ then.
      let before : i ≤ count h = omega arith in
      let same = life.ticks in
      ticked.others i n (omega (arith, same, before)) (omega (arith, same, near))
      ∙ life.recent i before (omega (arith, near)) n
      ∙ ap (among n) (sym (alike kind.hears b (feed s ∷ h) h i i (λ l. earlier kind.hears h s l i before))))
      (cases_eq i (count h + 1))

  points_are : r.2 ≡ points kind.hears b (feed s ∷ h) (count h + 1)
  points_are =
      ticked.points
      ∙ (λ i. due_points later.recent (up i) (life.lines i))
      ∙ due kind.hears b life.sees.finder.proper (feed s ∷ h) later.recent (count h + 1) (λ lag n small. recent_is (count h + 1 - lag) (omega arith) (omega arith) n)

  -- what is told of the new tick
  pub tells : (takes : S → Bool) → (r.0, member r.1, r.2) ≡ told_of kind.hears takes b (feed s ∷ h) (count h + 1)
  tells takes = λ i. ((ticked.tick ∙ up) i, (fun_ext reported_is) i, points_are i)

  -- the life with the feed
  pub lives_on : (f' : F) → Sees kind sort f' ring b (s ∷ samples h) → Lives kind sort f' later b (feed s ∷ h)
  lives_on f' sees = record {
    sees = subst (λ x. Sees kind sort f' x b (s ∷ samples h)) (sym ticked.lookback) sees;
    lines = ap (λ x. x.items) ticked.lines ∙ life.lines;
    ticks = ticked.count ∙ up;
    standings = λ n. ap (λ x. standing_at x n) ticked.standings ∙ life.standings n;
    recent = recent_is;
  }

module _ {C S : Type 0} (hears : C → S → Bool) (takes : S → Bool) (b : Book C) (h : History S) (s : S) (taken : takes s ≡ true) (room : count h < 4000000000) where
  accept : verdict takes b h (feed s) ≡ Ok tt
  accept = λ i. cond (taken i) (cond (lt-ltb (count h) 4000000000 room i) (Ok tt) (Err TicksSpent)) (Err NoSymbol)

  pub fed_answer : feed_answer hears takes b h s ≡ Ok (told_of hears takes b (feed s ∷ h) (count h + 1))
  fed_answer = ap (λ v. elim v [ Ok u ↦ Ok (told_of hears takes b (feed s ∷ h) (count h + 1)) | Err e ↦ Err e ]) accept

  pub fed_after : after takes b h (feed s) ≡ feed s ∷ h
  fed_after = accepted takes b h (feed s) (ap is_ok accept)
