-- One row of a page after another.
use Rattle.std.proofs.Common.{◌≡◌, ℕ, ◌+◌, cond, List, [], ◌∷◌, length, drop, ℤ, pos, is_ok, Some, None, Ok, Err, Result, unwrap_or, sym, refl, ap, ◌∙◌, arith}
use Rattle.std.proofs.lemmas.List.FromFn.{length-map-range_with_len}
use Rattle.std.proofs.lemmas.List.{at_drop_all}
use Rattle.std.specs.Option.{option_or}
use Rattle.refusals.specs.declared.Refusal.{Refusal}
use Rattle.cells.specs.declared.letters.LetterCell.{LetterCell}
use Rattle.book.specs.Book.{Book}
use Rattle.book.specs.Entering.{Request, enter_answer, entered, cells_after}
use Rattle.page.specs.declared.drafts.Draft.{Draft}
use Rattle.page.specs.declared.faults.Flaw.{Flaw}
use Rattle.page.specs.Columns.{keywords_in}
use Rattle.page.specs.Drafts.{draft_request}
use Rattle.page.specs.Flaws.{keyword_flaw, keyword_flaws, first_of, row_flaw}
use Rattle.page.specs.Page.{Outcome, fault_at, after_row, enter_rows}
use Rattle.page.specs.Row.{row_request, lengths_up_to, gaps_up_to, cells_up_to}
use Rattle.page.specs.Rows.{rows_of}
use Rattle.page.specs.Told.{book_flaw, entry_flaw}

-- where no bytes are left nothing is left to enter
pub rows_done : (n : ℕ) (rest : List ℕ) (b : Book LetterCell) (cells : List LetterCell) → length rest ≡ 0
    → enter_rows n (rows_of rest) b cells ≡ record { answer = Ok tt; book = b; cells = cells }
unfolding enter_rows rows_of
rows_done n [] b cells h = refl
rows_done n (x ∷ xs) b cells h = absurd (omega arith)

-- a flaw stops the page
pub row_stops : (n : ℕ) (row : List ℕ) (rows : List (List ℕ)) (b : Book LetterCell) (cells : List LetterCell) (f : Flaw)
    → entry_flaw b (length cells) row ≡ Some f → enter_rows n (row ∷ rows) b cells ≡ record { answer = Err (fault_at n f); book = b; cells = cells }
unfolding enter_rows
row_stops n row rows b cells f e =
    ap (λ o. after_row o n b cells (enter_rows (n + 1) rows (entered b (length cells) (row_request row)) (cells_after b cells (row_request row)))) e

-- without one it goes on
pub row_goes : (n : ℕ) (row : List ℕ) (rows : List (List ℕ)) (b : Book LetterCell) (cells : List LetterCell)
    → entry_flaw b (length cells) row ≡ None
    → enter_rows n (row ∷ rows) b cells ≡ enter_rows (n + 1) rows (entered b (length cells) (row_request row)) (cells_after b cells (row_request row))
unfolding enter_rows
row_goes n row rows b cells e =
    ap (λ o. after_row o n b cells (enter_rows (n + 1) rows (entered b (length cells) (row_request row)) (cells_after b cells (row_request row)))) e

-- the row's own flaw comes first
pub row_own : (b : Book LetterCell) (memory : ℕ) (row : List ℕ) (f : Flaw) → row_flaw row ≡ Some f → entry_flaw b memory row ≡ Some f
unfolding entry_flaw
row_own b memory row f e = ap (λ o. option_or o (book_flaw (row_request row).gaps (enter_answer b memory (row_request row)))) e

-- a row that has been read whole has no flaw
pub read_whole : (d : Draft) → length d.lengths.items ≡ keywords_in (length d.row.bytes.now) → row_flaw d.row.bytes.now ≡ None
read_whole d e =
    let row = d.row.bytes.now in
    let l = length-map-range_with_len (keyword_flaw row) 0 (keywords_in (length row)) in
    d.flawless ∙ at_drop_all first_of (keyword_flaws row) (length d.lengths.items) (omega arith)

alike : (n m t u : ℕ) (p q : ℤ) (ls ms gs hs : List ℕ) (cs ds : List LetterCell) → n ≡ m → p ≡ q → t ≡ u → ls ≡ ms → gs ≡ hs → cs ≡ ds
    → ◌≡◌ {A = Request LetterCell}
    (record { number = n; points = p; lag = t; lengths = ls; gaps = gs; cells = cs })
    (record { number = m; points = q; lag = u; lengths = ms; gaps = hs; cells = ds })
alike n m t u p q ls ms gs hs cs ds a b c d e f = cc

-- and the draft holds its line
pub read_line : (row : List ℕ) (d : Draft) → d.row.bytes.now ≡ row → length d.lengths.items ≡ keywords_in (length d.row.bytes.now) → row_request row ≡ draft_request d
unfolding row_request
read_line row d same e =
    let own = d.row.bytes.now in
    ap row_request (sym same)
    ∙ sym (alike _ _ _ _ _ _ _ _ _ _ _ _
    (sym (ap (λ o. unwrap_or o 0) d.number_read))
    (sym (ap (λ o. unwrap_or o (pos 0)) d.points_read))
    (sym (ap (λ o. unwrap_or o 0) d.lag_read))
    (d.lengths_read ∙ ap (lengths_up_to own) e)
    (ap (drop 1) (d.gaps_read ∙ ap (gaps_up_to own) e))
    (d.cells_read ∙ ap (cells_up_to own) e))

-- so what is wrong is what the book says of it
pub row_told : (b : Book LetterCell) (memory : ℕ) (row : List ℕ) (d : Draft) → d.row.bytes.now ≡ row → length d.lengths.items ≡ keywords_in (length d.row.bytes.now)
    → entry_flaw b memory row ≡ book_flaw (draft_request d).gaps (enter_answer b memory (draft_request d))
unfolding entry_flaw
row_told b memory row d same e =
    ap (λ o. option_or o (book_flaw (row_request row).gaps (enter_answer b memory (row_request row)))) (ap row_flaw (sym same) ∙ read_whole d e)
    ∙ ap (λ (q : Request LetterCell). book_flaw q.gaps (enter_answer b memory q)) (read_line row d same e)

-- a refusal by the book changes nothing
pub refused_stays : {X : Type 0} (gaps : List ℕ) (a : Result (Unit {0}) Refusal) (f : Flaw) (x y : X) → book_flaw gaps a ≡ Some f → cond (is_ok a) x y ≡ y
refused_stays gaps (Ok u) f x y e = let z : ◌≡◌ {A = ℕ} 0 1 = cc in absurd (omega arith)
refused_stays gaps (Err r) f x y e = refl

-- what the rows that are left give, where the first of them stops the page
pub stopped : (n : ℕ) (row : List ℕ) (left rest : List (List ℕ)) (b : Book LetterCell) (cells : List LetterCell) (all : Outcome) (f : Flaw)
    → enter_rows n left b cells ≡ all → left ≡ row ∷ rest → entry_flaw b (length cells) row ≡ Some f
    → all ≡ record { answer = Err (fault_at n f); book = b; cells = cells }
stopped n row left rest b cells all f inv e flaw =
    sym inv ∙ ap (λ rows. enter_rows n rows b cells) e ∙ row_stops n row rest b cells f flaw
