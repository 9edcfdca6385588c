use Rattle.std.proofs.Common.{◌-◌, length, Some, get_or, set, take, pos, sym, refl, ap, ◌∙◌}
use Rattle.std.proofs.lemmas.List.{length-set, take_more}
use Rattle.book.specs.declared.rows.LineRow.{LineRow}
use Rattle.book.specs.Rules.{within}
use Rattle.standings.specs.declared.turns.Standing.TheVariants.{Armed}
use Rattle.standings.specs.Turning.{placed, first_standing}
use Rattle.standings.proofs.Placed.{none_placed, armed_more, placeless_more, has_place, no_place}
use Rattle.standings.proofs.tables.turning.all_armed.Goals as goal
use Rattle.standings.proofs.tables.turning.all_armed.Goals.{in-Some, in_default}

none : LineRow
none = record { number = 0; points = pos 0; lag = 0; first = 0; keywords = 0 }

pub loop-line-init : goal.loop-line-init
loop-line-init c = record { whole = refl; standings = none_placed 128 }

pub loop-line-preserved : goal.loop-line-preserved
unfolding none
loop-line-preserved c =
    let lines = c.args.lines.now in
    let i = c.loop-line.line-index in
    let line = get_or lines i none in
    let at = c.loop-line.at in
    let inv = c.loop-line.invariant in
    let step = sym (take_more lines i none c.loop-line-test.true) in
    elim c.match-place.branch [
      | in-Some w ↦
          let p = has_place (within 1 128 line.number) w.in-Some.place (line.number - 1) (sym w.in-Some.is ∙ c.place.ensures) in
          let written = w.at-is ∙ ap (λ j. set at j (Some (Armed 0))) p.1 in
          record {
            whole = ap length written ∙ length-set at (line.number - 1) (Some (Armed 0)) ∙ inv.whole;
            standings = λ n. ap (λ x. placed x n) written ∙ armed_more at (take i lines) line inv.standings n inv.whole p.0 ∙ ap (λ ls. first_standing ls n) step;
          }
      | in_default w ↦
          let outside = no_place (within 1 128 line.number) (line.number - 1) (sym w.in_default.is ∙ c.place.ensures) in
          record {
            whole = ap length w.at-is ∙ inv.whole;
            standings = λ n. ap (λ x. placed x n) w.at-is ∙ placeless_more at (take i lines) line inv.standings n outside ∙ ap (λ ls. first_standing ls n) step;
          }
    ]
