-- The reports that wait in a tray.
use Rattle.std.specs.Prelude.{ℕ, cond, List, length, Ok, Err, Result, nat_lt}
use Rattle.refusals.specs.declared.Refusal.{Refusal}
use Rattle.refusals.specs.declared.Refusal.TheVariants.{TrayFull}
use Rattle.queue.specs.Queued.{queued, room}
use Rattle.tray.specs.declared.Report.{Report}
use Rattle.tray.specs.declared.Tray.{Tray}

-- the reports that wait, the oldest first
abbrev pub reports : Tray → List Report
reports t = queued t.queue

-- how many places the tray has
abbrev pub places : Tray → ℕ
places t = room t.queue

-- the answer of `put` where some reports wait in n places: the tray is full exactly when all places are filled
abbrev pub put_answer : List Report → ℕ → Result (Unit {0}) Refusal
put_answer waiting n = cond (nat_lt (length waiting) n) (Ok tt) (Err TrayFull)
