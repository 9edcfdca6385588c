use Rattle.std.proofs.Common.{sym, ◌∙◌}
use Rattle.std.proofs.lemmas.Result.{err_from_is_err_and}
use Rattle.page.proofs.Fieldwork.{gap_first, no_first_gap, gap_cases}
use Rattle.page.proofs.rows.Row.gap.Goals as goal

pub returns-in_err-check_blank : goal.returns-in_err-check_blank
returns-in_err-check_blank c =
    let p = err_from_is_err_and c.from_residual.result c.from_residual.ensures.1 in
    let field = c.field-field.ensures in
    rw (p.1, p.2) (gap_first c.args.self.now.bytes.now c.args.keyword _ _ c.if-keyword-eq0.true field.bytes field.column ∙ sym c.in_err-check_blank.ensures)

pub returns-in_ok-check_blank : goal.returns-in_ok-check_blank
returns-in_ok-check_blank c =
    let row = c.args.self.now.bytes.now in
    let k = c.args.keyword in
    let field = c.field-field.ensures in
    let b = sym c.in_ok-check_blank.ensures in
    (no_first_gap row k _ _ field.bytes b, gap_first row k _ _ c.if-keyword-eq0.true field.bytes field.column ∙ b)

pub returns-else-keyword-eq0 : goal.returns-else-keyword-eq0
returns-else-keyword-eq0 c =
    let field = c.field-field.ensures in
    gap_cases c.args.self.now.bytes.now c.args.keyword _ _ _ c.if-keyword-eq0.false field.bytes field.column c.decimal.ensures
