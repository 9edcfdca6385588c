use Rattle.std.proofs.Common.{◌≡◌, ℕ, List, length, None, sym, refl, ap, ◌∙◌, drop, rules, arith}
use Rattle.std.proofs.lemmas.Result.{err_from_is_err_and}
use Rattle.page.specs.Decimals.{decimal_in, points_in}
use Rattle.page.specs.Flaws.{length_flaw, decimal_flaw, keyword_flaws, first_of}
use Rattle.page.proofs.Fieldwork.{field_read, field_missed, unsized_flaw, sized_flaw, first_is, second_is, third_is}
use Rattle.page.proofs.drafts.Draft.open.Goals as goal

pub returns-in_err-row : goal.returns-in_err-row
returns-in_err-row c =
    let p = err_from_is_err_and c.from_residual.result c.from_residual.ensures.1 in
    rw (p.1, p.2) (unsized_flaw c.args.bytes.now _ c.in_err-row.ensures)

pub returns-in_err-number : goal.returns-in_err-number
returns-in_err-number c =
    let p = err_from_is_err_and c.from_residual-in_err-number.result c.from_residual-in_err-number.ensures.1 in
    let row = c.args.bytes.now in
    let same = c.in_ok-row.ensures.0 in
    let n = field_missed decimal_in 1 3 row _ c.field.result.bytes.now _ _ c.field.ensures.bytes same c.field.ensures.column c.in_err-number.ensures in
    rw (p.1, p.2) (sized_flaw row c.in_ok-row.ensures.1 ∙ first_is _ _ _ n)

pub returns-in_err-points : goal.returns-in_err-points
returns-in_err-points c =
    let p = err_from_is_err_and c.from_residual-in_err-points.result c.from_residual-in_err-points.ensures.1 in
    let row = c.args.bytes.now in
    let same = c.in_ok-row.ensures.0 in
    let n = field_read decimal_in 1 3 row _ c.field.result.bytes.now _ _ c.field.ensures.bytes same c.in_ok-number.ensures in
    let q = field_missed points_in 4 5 row _ c.field-2.result.bytes.now _ _ c.field-2.ensures.bytes same c.field-2.ensures.column c.in_err-points.ensures in
    rw (p.1, p.2) (sized_flaw row c.in_ok-row.ensures.1 ∙ second_is _ _ _ _ (ap (decimal_flaw 1) n) q)

pub returns-in_err-lag : goal.returns-in_err-lag
returns-in_err-lag c =
    let p = err_from_is_err_and c.from_residual-in_err-lag.result c.from_residual-in_err-lag.ensures.1 in
    let row = c.args.bytes.now in
    let same = c.in_ok-row.ensures.0 in
    let n = field_read decimal_in 1 3 row _ c.field.result.bytes.now _ _ c.field.ensures.bytes same c.in_ok-number.ensures in
    let q = field_read points_in 4 5 row _ c.field-2.result.bytes.now _ _ c.field-2.ensures.bytes same c.in_ok-points.ensures in
    let l = field_missed decimal_in 9 3 row _ c.field-3.result.bytes.now _ _ c.field-3.ensures.bytes same c.field-3.ensures.column c.in_err-lag.ensures in
    rw (p.1, p.2) (sized_flaw row c.in_ok-row.ensures.1 ∙ third_is _ _ _ _ _ (ap (decimal_flaw 1) n) (ap (decimal_flaw 4) q) l)

pub invariant_of-result : goal.invariant_of-result
invariant_of-result c =
    let row = c.in_ok-row.row.bytes.now in
    let n = field_read decimal_in 1 3 row _ c.field.result.bytes.now _ _ c.field.ensures.bytes refl c.in_ok-number.ensures in
    let q = field_read points_in 4 5 row _ c.field-2.result.bytes.now _ _ c.field-2.ensures.bytes refl c.in_ok-points.ensures in
    let l = field_read decimal_in 9 3 row _ c.field-3.result.bytes.now _ _ c.field-3.ensures.bytes refl c.in_ok-lag.ensures in
    let sized : length_flaw row ≡ None = ap length_flaw c.in_ok-row.ensures.0 ∙ c.in_ok-row.ensures.1 in
    let f = sized_flaw row sized ∙ third_is _ _ _ _ _ (ap (decimal_flaw 1) n) (ap (decimal_flaw 4) q) (ap (decimal_flaw 9) l) in
    let none = c.new-2.ensures in
    let no_gaps = c.new-3.ensures in
    let no_cells = c.new-4.ensures in
    record {
      few = rw (none, no_gaps, no_cells) (omega arith, refl, omega arith);
      number_read = n;
      points_read = search (rules, q);
      lag_read = l;
      lengths_read = rw none refl;
      gaps_read = rw (none, no_gaps) refl;
      cells_read = rw (none, no_cells) refl;
      flawless = f ∙ ap (λ (k : List ℕ). first_of (drop (length k) (keyword_flaws row))) (sym none);
    }
