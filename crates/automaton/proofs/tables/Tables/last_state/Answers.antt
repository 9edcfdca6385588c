use Rattle.std.proofs.Common.{◌≡◌, ◌+◌, ◌-◌, ◌<◌, length, get_or, sym, ap, ◌∙◌, arith}
use mathlib.Core.Logic.{∥∥₁_elim}
use denote.Struct.Props.{props}
use Rattle.book.specs.Book.{all_cells}
use Rattle.automaton.specs.Standing.{book_of, stands_in}
use Rattle.automaton.proofs.Keywords.{told}
use Rattle.automaton.proofs.Stands.{state_turned, stands_inside, ends_told, ends_beyond}
use Rattle.automaton.proofs.tables.Tables.last_state.Goals as goal

pub returns-in_err-row : goal.returns-in_err-row
returns-in_err-row c =
    rw c.from_residual.ensures
    (λ state. sym (ends_beyond (book_of c.args.self.now) _ _ (stands_in c.args.self.now state) c.keywords.ensures.rows c.in_err-row.ensures.lookup.3))

pub returns : goal.returns
returns c =
    let t = c.args.self.now in
    let rows = c.keywords.ensures in
    let row = c.in_ok-row.row.now in
    let found = c.in_ok-row.ensures.lookup in
    let f = rows.fit c.args.keyword row found.3.0 in
    let same : c.last_place.result ≡ (get_or c.keywords.result.now c.args.keyword row).first + (get_or c.keywords.result.now c.args.keyword row).length - 1 =
    c.last_place.ensures ∙ ap (λ r. r.first + r.length - 1) found.1 in
    let k = told (book_of t) _ c.args.keyword row rows.rows rows.fit found.3.0 in
    let inside : c.last_place.result < length (all_cells (book_of t)) = omega (arith, same, f.some, k.lies.inside) in (
      ∥∥₁_elim t.linked (hlevel props) (λ L. state_turned _ _ _ _ _ L _ inside),
      ∥∥₁_elim t.linked (hlevel props) (λ L y. sym (ends_told (book_of t) _ c.args.keyword row (stands_in t y) rows.rows found.3.0 ∙ ap (stands_in t y) (sym same) ∙ stands_inside (book_of t) _ _ _ _ L y _ inside)),
    )
