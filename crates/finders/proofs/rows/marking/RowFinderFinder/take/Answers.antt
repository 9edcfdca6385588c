use Rattle.std.proofs.Common.{◌-◌, ◌<◌, ◌≤◌, Bool, ◌&&◌, ◌||◌, ltb, length, sym, ap, ◌∙◌, ⊎_elim, arith}
use Rattle.std.proofs.lemmas.Bool.{cases_lt, and_left}
use Rattle.book.specs.Book.{all_cells}
use Rattle.book.specs.Stored.{sealed_book}
use Rattle.finders.specs.Places.{marked}
use Rattle.finders.specs.Runs.{passes}
use Rattle.finders.proofs.Marks.{passes_past}
use Rattle.finders.proofs.rows.marking.RowFinderFinder.take.Goals as goal

pub returns-clause-stands : goal.returns-clause-stands
returns-clause-stands g c p =
    let f = c.args.self.now in
    let cs = c.cells-cells.result.now in
    let b = sealed_book f.book in
    let admits : g.row.C.Denot → Bool = λ d. g.C.Cell.admits d c.args.symbol in
    let few = c.cells-cells.ensures.few in
    let all = c.cells-cells.ensures.cells in
    ⊎_elim
    (λ (h : p < length cs).
    c.move_on.ensures.runs p h
    ∙ ap (λ xs. passes admits xs p && (marked f.firsts p || (ltb 0 p && marked f.runs (p - 1)))) all
    ∙ ap (λ t. passes admits (all_cells b) p && (t || (ltb 0 p && marked f.runs (p - 1)))) (f.begun p (omega arith)))
    (λ (h : length cs ≤ p).
    c.move_on.ensures.rest p h ∙ f.still p (omega (arith, ap length all))
    ∙ sym (and_left (passes admits (all_cells b) p) _ (passes_past admits (all_cells b) p (omega (arith, ap length all)))))
    (cases_lt p (length cs))
