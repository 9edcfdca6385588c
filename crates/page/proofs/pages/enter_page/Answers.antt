use Rattle.std.proofs.Common.{◌≡◌, ◌+◌, length, Err, sym, ap, ◌∙◌, arith}
use Rattle.std.proofs.lemmas.Bool.{eqb-true}
use Rattle.book.specs.Entering.{enter_answer, entered, cells_after}
use Rattle.book.specs.Stored.{open_book}
use Rattle.page.specs.Columns.{keywords_in}
use Rattle.page.specs.Drafts.{draft_request}
use Rattle.page.specs.Flaws.{row_flaw}
use Rattle.page.specs.Page.{Outcome, enter_rows}
use Rattle.page.specs.Rows.{rows_of}
use Rattle.page.proofs.Cuts.{split_off}
use Rattle.page.proofs.Turns.{rows_done, row_goes, row_own, row_told, read_line, refused_stays, stopped}
use Rattle.page.proofs.Readback.{reads_back}
use Rattle.page.proofs.Whole.{enters_lines}
use Rattle.page.proofs.pages.enter_page.Goals as goal

pub rows-preserved : goal.rows-preserved
rows-preserved c =
    let rest = c.rows.rest.now in
    let row = c.split_row.result.0.now in
    let behind = c.split_row.result.1.now in
    let b = open_book c.rows.book in
    let cells = c.rows.book.cells.now in
    let d = c.blocks-2.draft in
    let inv = c.rows.invariant in
    let split = split_off rest row behind c.if-is_empty.ensures c.split_row.ensures.row c.split_row.ensures.rest in
    let same : d.row.bytes.now ≡ row = c.blocks-2.invariant ∙ c.in-Ok.ensures.0 in
    let whole : length d.lengths.items ≡ keywords_in (length d.row.bytes.now) = eqb-true _ _ (sym c.if-is_whole.ensures) in
    let flaw = row_told b (length cells) row d same whole ∙ sym c.in_default-enter_draft.ensures.answer in
    let line = read_line row d same whole in (
      ap (λ x. enter_rows (c.rows.number + 1) (rows_of behind) x c.enter_draft.new.book.cells.now) (c.in_default-enter_draft.ensures.book ∙ ap (entered b (length cells)) (sym line))
          ∙ ap (enter_rows (c.rows.number + 1) (rows_of behind) _) (c.in_default-enter_draft.ensures.memory ∙ ap (cells_after b cells) (sym line))
          ∙ sym (row_goes c.rows.number row (rows_of behind) b cells flaw)
          ∙ ap (λ rows. enter_rows c.rows.number rows b cells) (sym split.0)
          ∙ inv.0,
      omega arith,
      c.in_default-enter_draft.ensures.lender ∙ inv.2,
    )

pub rows-smaller : goal.rows-smaller
rows-smaller c =
    let split = split_off c.rows.rest.now _ c.split_row.result.1.now c.if-is_empty.ensures c.split_row.ensures.row c.split_row.ensures.rest in
    omega arith

pub returns-then-is_empty : goal.returns-then-is_empty
returns-then-is_empty c =
    let b = c.rows.book in
    let e = sym c.rows.invariant.0 ∙ rows_done c.rows.number c.rows.rest.now (open_book b) b.cells.now (eqb-true (length c.rows.rest.now) 0 (sym c.if-is_empty.ensures)) in
    record {
      answer = sym (ap (λ (o : Outcome). o.answer) e);
      book = sym (ap (λ (o : Outcome). o.book) e);
      memory = sym (ap (λ (o : Outcome). o.cells) e);
      lender = c.rows.invariant.2;
      read_back = reads_back;
      lines = enters_lines;
    }

pub returns-in-Err : goal.returns-in-Err
returns-in-Err c =
    let rest = c.rows.rest.now in
    let row = c.split_row.result.0.now in
    let b = c.rows.book in
    let split = split_off rest row c.split_row.result.1.now c.if-is_empty.ensures c.split_row.ensures.row c.split_row.ensures.rest in
    let e = stopped c.rows.number row _ _ (open_book b) b.cells.now _ c.in-Err.flaw c.rows.invariant.0 split.0
    (row_own (open_book b) (length b.cells.now) row c.in-Err.flaw c.in-Err.ensures) in
    record {
      answer = ap Err c.at.ensures ∙ sym (ap (λ (o : Outcome). o.answer) e);
      book = sym (ap (λ (o : Outcome). o.book) e);
      memory = sym (ap (λ (o : Outcome). o.cells) e);
      lender = c.rows.invariant.2;
      read_back = reads_back;
      lines = enters_lines;
    }

pub returns-in-Err-read_keyword : goal.returns-in-Err-read_keyword
returns-in-Err-read_keyword c =
    let rest = c.rows.rest.now in
    let row = c.split_row.result.0.now in
    let b = c.rows.book in
    let split = split_off rest row c.split_row.result.1.now c.if-is_empty.ensures c.split_row.ensures.row c.split_row.ensures.rest in
    let f = c.in-Err-read_keyword.flaw in
    let same : c.blocks-2.draft.row.bytes.now ≡ row = c.blocks-2.invariant ∙ c.in-Ok.ensures.0 in
    let e = stopped c.rows.number row _ _ (open_book b) b.cells.now _ f c.rows.invariant.0 split.0
    (row_own (open_book b) (length b.cells.now) row f (ap row_flaw (sym same) ∙ c.in-Err-read_keyword.ensures)) in
    record {
      answer = ap Err c.at-in-Err-read_keyword.ensures ∙ sym (ap (λ (o : Outcome). o.answer) e);
      book = sym (ap (λ (o : Outcome). o.book) e);
      memory = sym (ap (λ (o : Outcome). o.cells) e);
      lender = c.rows.invariant.2;
      read_back = reads_back;
      lines = enters_lines;
    }

pub returns-in-Err-enter_draft : goal.returns-in-Err-enter_draft
returns-in-Err-enter_draft c =
    let rest = c.rows.rest.now in
    let row = c.split_row.result.0.now in
    let b = open_book c.rows.book in
    let cells = c.rows.book.cells.now in
    let d = c.blocks-2.draft in
    let f = c.in-Err-enter_draft.flaw in
    let told = c.in-Err-enter_draft.ensures in
    let split = split_off rest row c.split_row.result.1.now c.if-is_empty.ensures c.split_row.ensures.row c.split_row.ensures.rest in
    let same : d.row.bytes.now ≡ row = c.blocks-2.invariant ∙ c.in-Ok.ensures.0 in
    let whole : length d.lengths.items ≡ keywords_in (length d.row.bytes.now) = eqb-true _ _ (sym c.if-is_whole.ensures) in
    let flaw = row_told b (length cells) row d same whole ∙ sym told.answer in
    let e = stopped c.rows.number row _ _ b cells _ f c.rows.invariant.0 split.0 flaw in
    record {
      answer = ap Err c.at-in-Err-enter_draft.ensures ∙ sym (ap (λ (o : Outcome). o.answer) e);
      book = told.book ∙ refused_stays (draft_request d).gaps (enter_answer b (length cells) (draft_request d)) f _ _ (sym told.answer) ∙ sym (ap (λ (o : Outcome). o.book) e);
      memory = told.memory ∙ refused_stays (draft_request d).gaps (enter_answer b (length cells) (draft_request d)) f _ _ (sym told.answer) ∙ sym (ap (λ (o : Outcome). o.cells) e);
      lender = told.lender ∙ c.rows.invariant.2;
      read_back = reads_back;
      lines = enters_lines;
    }
