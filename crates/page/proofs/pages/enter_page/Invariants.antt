use Rattle.std.proofs.Common.{◌≡◌, ◌+◌, ◌-◌, ◌≤◌, length}
use Rattle.book.specs.Stored.{open_book}
use Rattle.page.specs.Columns.{keywords_in}
use Rattle.page.specs.Page.{enter_rows, page_outcome}
use Rattle.page.specs.Rows.{rows_of}
use Rattle.page.proofs.pages.enter_page.Given as goal

-- it is the same row that is read
abbrev pub invariant-blocks-2 : goal.invariant-blocks-2
invariant-blocks-2 l = l.draft.row.bytes.now ≡ l.initial.draft.row.bytes.now

abbrev pub decreases-blocks-2 : goal.decreases-blocks-2
decreases-blocks-2 l = keywords_in (length l.draft.row.bytes.now) - length l.draft.lengths.items

-- the rows that are left give what all rows give
abbrev pub invariant-rows : goal.invariant-rows
invariant-rows l = (enter_rows l.number (rows_of l.rest) (open_book l.book) l.book.cells.now
    ≡ page_outcome (open_book l.initial.book) l.initial.book.cells.now l.page)
    × (l.number + length l.rest ≤ length l.page + 1)
    × (l.book.cells.ghost_name ≡ l.initial.book.cells.ghost_name)

abbrev pub decreases-rows : goal.decreases-rows
decreases-rows l = length l.rest
