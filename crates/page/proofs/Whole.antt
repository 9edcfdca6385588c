-- Lines written as a page are entered as lines.
use Rattle.std.proofs.Common.{◌≡◌, ℕ, zero, suc, ◌+◌, ◌-◌, ◌^◌, ◌<◌, true, leb, List, [], ◌∷◌, ◌++◌, length, replicate, ℤ, pos, negsuc, decimal, refl, ap, ◌∙◌, arith}
use lib.Signed.{mag}
use Rattle.std.proofs.lemmas.Bool.{and_parts, and_from, cond-false, not-true, leb-true}
use Rattle.std.proofs.lemmas.Bool.Decides.{nat_tests}
use Rattle.std.specs.Option.{option_or}
use Rattle.std.specs.Fmt.{signed_decimal}
use Rattle.std.specs.List.{list_all, AllByRecursion}
use Rattle.cells.specs.declared.letters.LetterCell.{LetterCell}
use Rattle.cells.specs.Alphabet.{is_letter}
use Rattle.book.specs.Book.{Line, Book}
use Rattle.book.specs.Entering.{Request, enter_answer, entered, cells_after}
use Rattle.book.specs.Proper.{ProperLine}
use Rattle.book.specs.Rules.{gap_ok}
use Rattle.book.proofs.Passes.{pass_append, pass_weaker, pass_map}
use Rattle.page.specs.Bytes.{is_digit}
use Rattle.page.specs.Page.{after_row, enter_rows}
use Rattle.page.specs.Row.{row_request}
use Rattle.page.specs.Rows.{rows_of, byte_before}
use Rattle.page.specs.Told.{book_flaw, entry_flaw}
use Rattle.page.specs.Writing.{right, left, letters_in, block_of, blocks_of, gap_texts, row_of, page_of, line_request, enter_lines, EntersLines}
use Rattle.page.proofs.Cuts.{stays}
use Rattle.page.proofs.Figures.{decimal_digits}
use Rattle.page.proofs.Readback.{small_points, clean_row, request_back}

-- a row that has no byte 10, and the rows behind it
closed_row : (row rest : List ℕ) → list_all stays row ≡ true → rows_of (row ++ (10 ∷ rest)) ≡ row ∷ rows_of rest
unfolding rows_of
closed_row [] rest h = refl
closed_row (b ∷ bs) rest h =
    let p = and_parts (stays b) _ h in
    cond-false _ _ _ (not-true _ p.0) ∙ ap (byte_before b) (closed_row bs rest p.1)

-- what is written has none
blanks_stay : (k : ℕ) → list_all stays (replicate k 32) ≡ true
blanks_stay zero = refl
blanks_stay (suc k) = blanks_stay k

digits_stay : (n : ℕ) → n < 2 ^ 64 → list_all stays (decimal n) ≡ true
digits_stay n h = pass_weaker is_digit stays (λ b k. grind (arith, nat_tests)) (decimal n) (decimal_digits n h)

signed_stays : (z : ℤ) → mag z < 2 ^ 63 → list_all stays (signed_decimal z) ≡ true
signed_stays (pos n) h = digits_stay n (omega arith)
signed_stays (negsuc n) h = digits_stay (suc n) (omega arith)

right_stays : (width : ℕ) (text : List ℕ) → list_all stays text ≡ true → list_all stays (right width text) ≡ true
right_stays width text h = pass_append stays (replicate (width - length text) 32) text (blanks_stay (width - length text)) h

letters_stay : (w : List LetterCell) → list_all stays (letters_in w) ≡ true
letters_stay [] = refl
letters_stay (c ∷ w) = let ok : is_letter c.letter.byte ≡ true = c.letter.ok in and_from _ _ (grind (arith, nat_tests)) (letters_stay w)

block_stays : (g : List ℕ) (w : List LetterCell) → list_all stays g ≡ true → list_all stays (block_of g w) ≡ true
unfolding block_of
block_stays g w h =
    pass_append stays (right 4 g) (32 ∷ left 16 (letters_in w)) (right_stays 4 g h)
    (pass_append stays (letters_in w) (replicate (16 - length (letters_in w)) 32) (letters_stay w) (blanks_stay (16 - length (letters_in w))))

blocks_stay : (gs : List (List ℕ)) (ws : List (List LetterCell)) → list_all (list_all stays) gs ≡ true → list_all stays (blocks_of gs ws) ≡ true
blocks_stay [] [] h = refl
blocks_stay (g ∷ gs) [] h = refl
blocks_stay [] (w ∷ ws) h = pass_append stays (block_of [] w) (blocks_of [] ws) (block_stays [] w refl) (blocks_stay [] ws refl)
blocks_stay (g ∷ gs) (w ∷ ws) h =
    let p = and_parts (list_all stays g) _ h in
    pass_append stays (block_of g w) (blocks_of gs ws) (block_stays g w p.0) (blocks_stay gs ws p.1)

texts_stay : (gaps : List ℕ) → list_all gap_ok gaps ≡ true → list_all (list_all stays) (gap_texts gaps) ≡ true
texts_stay gaps h =
    pass_map (list_all stays) decimal gaps
    ∙ pass_weaker gap_ok (λ g. list_all stays (decimal g)) (λ g k. let b = leb-true g 112 (and_parts (leb 0 g) (leb g 112) k).1 in digits_stay g (omega (arith, b))) gaps h

row_stays : (l : Line LetterCell) → ProperLine l → list_all stays (row_of l) ≡ true
unfolding row_of
row_stays l ok =
    let n = leb-true l.number 128 (and_parts (leb 1 l.number) (leb l.number 128) ok.number).1 in
    let p = small_points l.points ok.points in
    let t = leb-true l.lag 63 ok.lag in
    pass_append stays (right 3 (decimal l.number)) _ (right_stays 3 (decimal l.number) (digits_stay l.number (omega (arith, n))))
    (pass_append stays (right 5 (signed_decimal l.points)) _ (right_stays 5 (signed_decimal l.points) (signed_stays l.points (omega (arith, p))))
    (pass_append stays (right 3 (decimal l.lag)) _ (right_stays 3 (decimal l.lag) (digits_stay l.lag (omega (arith, t))))
    (blocks_stay (gap_texts l.gaps) l.keywords (texts_stay l.gaps ok.gaps))))

-- only the book can refuse a line within its limits
line_told : (l : Line LetterCell) → ProperLine l → (b : Book LetterCell) (memory : ℕ)
    → entry_flaw b memory (row_of l) ≡ book_flaw l.gaps (enter_answer b memory (line_request l))
unfolding entry_flaw
line_told l ok b memory =
    ap (λ o. option_or o (book_flaw (row_request (row_of l)).gaps (enter_answer b memory (row_request (row_of l))))) (clean_row l ok)
    ∙ ap (λ (q : Request LetterCell). book_flaw q.gaps (enter_answer b memory q)) (request_back l ok)

lines_entered : (n : ℕ) (ls : List (Line LetterCell)) → AllByRecursion ProperLine ls → (b : Book LetterCell) (cells : List LetterCell)
    → enter_rows n (rows_of (page_of ls)) b cells ≡ enter_lines n ls b cells
unfolding enter_rows enter_lines rows_of
lines_entered n [] h b cells = refl
lines_entered n (l ∷ ls) h b cells =
    let rows = rows_of (page_of ls) in
    ap (λ rs. enter_rows n rs b cells) (closed_row (row_of l) (page_of ls) (row_stays l h.0))
    ∙ ap (λ o. after_row o n b cells (enter_rows (n + 1) rows (entered b (length cells) (row_request (row_of l))) (cells_after b cells (row_request (row_of l))))) (line_told l h.0 b (length cells))
    ∙ ap (λ (q : Request LetterCell). after_row (book_flaw l.gaps (enter_answer b (length cells) (line_request l))) n b cells (enter_rows (n + 1) rows (entered b (length cells) q) (cells_after b cells q))) (request_back l h.0)
    ∙ ap (after_row (book_flaw l.gaps (enter_answer b (length cells) (line_request l))) n b cells) (lines_entered (n + 1) ls h.1 (entered b (length cells) (line_request l)) (cells_after b cells (line_request l)))

pub enters_lines : EntersLines
enters_lines ls h b cells = lines_entered 1 ls h b cells
