-- A line written as a row is read back.
use Rattle.std.proofs.Common.{◌≡◌, ℕ, zero, suc, ◌+◌, ◌-◌, ◌*◌, ◌/◌, ◌<◌, ◌≤◌, true, cond, ◌&&◌, leb, List, [], ◌∷◌, ◌++◌, map, length, get_or, take, drop, replicate, ℤ, pos, negsuc, Some, None, decimal, Option, unwrap_or, sym, refl, ap, ◌∙◌, arith}
use native.Mathlib.Nat.{mul-div_cancel_left}
use lib.Signed.{mag}
use Rattle.std.proofs.lemmas.List.FromFn.{fill_by_all}
use Rattle.std.proofs.lemmas.Fmt.{length-decimal-le, length_signed_le}
use Rattle.std.proofs.lemmas.List.{length-append, length-map, length-replicate, take_at, drop_at, drop-drop, get_or-map, get_or-replicate}
use Rattle.std.proofs.lemmas.Bool.{and_parts, and_from, leb-true, le-leb, eq-eqb}
use Rattle.std.specs.List.{range_with_len, flat_map, list_all}
use Rattle.std.specs.Option.{option_map}
use Rattle.std.specs.Fmt.{signed_decimal}
use Rattle.refusals.specs.declared.Refusal.TheVariants.{RowLength, BadKeyword}
use Rattle.cells.specs.declared.letters.LetterCell.{LetterCell}
use Rattle.book.specs.Book.{Line}
use Rattle.book.specs.Cutting.{cut}
use Rattle.book.specs.Entering.{Request, line_of}
use Rattle.book.specs.Proper.{ProperLine}
use Rattle.book.specs.Rules.{points_ok, gap_ok}
use Rattle.book.proofs.Passes.{pass_map, pass_weaker, pass_at}
use Rattle.page.specs.declared.faults.Flaw.{Flaw}
use Rattle.page.specs.Decimals.{decimal_in, points_in, whole_of}
use Rattle.page.specs.Letters.{letters_of}
use Rattle.page.specs.Columns.{from_column, number_field, points_field, lag_field, gap_field, between_field, letter_field, keywords_in, is_row_length}
use Rattle.page.specs.Flaws.{at_column, decimal_flaw, blank_flaw, letter_flaw, gap_flaw, keyword_flaw, first_of, row_flaw}
use Rattle.page.specs.Row.{gap_of, cells_of, row_request}
use Rattle.page.specs.Writing.{right, left, letters_in, blocks_of, gap_texts, row_of, ReadsBack, line_request}
use Rattle.page.proofs.Figures.{decimal_back, points_back, length-right}
use Rattle.page.proofs.Spelt.{letters_left, good_letters}
use Rattle.page.proofs.Blocks.{short, proper, proper_few, proper_some, length_blocks, gap_at, blank_at, letters_at}
use Rattle.page.proofs.Fieldwork.{gap_first, gap_later, flawed_letters, sized_flaw, third_is}

pub small_points : (p : ℤ) → points_ok p ≡ true → mag p ≤ 999
small_points (pos n) h = leb-true n 999 (and_parts true (leb n 999) h).1
small_points (negsuc n) h = let b = leb-true n 998 (and_parts (leb n 998) true h).0 in omega arith

-- gaps within their limit fit their fields
narrow_gaps : (gaps : List ℕ) → list_all gap_ok gaps ≡ true → list_all short (gap_texts gaps) ≡ true
narrow_gaps gaps h =
    pass_map short decimal gaps
    ∙ pass_weaker gap_ok (λ g. short (decimal g)) (λ g k. let b = leb-true g 112 (and_parts (leb 0 g) (leb g 112) k).1 in le-leb _ 4 (length-decimal-le 4 g (omega arith) (omega arith) (omega arith))) gaps h

-- no flaw among nothing but none
none_of : {X : Type 0} (n : ℕ) → first_of (replicate {A = Option X} n None) ≡ None
none_of zero = refl
none_of (suc n) = none_of n

-- parts joined and cut again
cut-joined : {X : Type 0} (ws : List (List X)) → cut (map length ws) (flat_map (λ w. w) ws) ≡ ws
cut-joined [] = refl
cut-joined (w ∷ ws) =
    ap (λ x. x ∷ cut (map length ws) (drop (length w) (w ++ flat_map (λ v. v) ws))) (take_at w (flat_map (λ v. v) ws) (length w) refl)
    ∙ ap (λ x. w ∷ cut (map length ws) x) (drop_at w (flat_map (λ v. v) ws) (length w) refl)
    ∙ ap (λ x. w ∷ x) (cut-joined ws)

same_line : (n m : ℕ) (p q : ℤ) (t u : ℕ) (vs ws : List (List LetterCell)) (gs hs : List ℕ) → n ≡ m → p ≡ q → t ≡ u → vs ≡ ws → gs ≡ hs
    → ◌≡◌ {A = Line LetterCell}
    (record { number = n; points = p; lag = t; keywords = vs; gaps = gs })
    (record { number = m; points = q; lag = u; keywords = ws; gaps = hs })
same_line n m p q t u vs ws gs hs a b c d e = cc

same_request : (n m : ℕ) (p q : ℤ) (t u : ℕ) (ls ms gs hs : List ℕ) (cs ds : List LetterCell) → n ≡ m → p ≡ q → t ≡ u → ls ≡ ms → gs ≡ hs → cs ≡ ds
    → ◌≡◌ {A = Request LetterCell}
    (record { number = n; points = p; lag = t; lengths = ls; gaps = gs; cells = cs })
    (record { number = m; points = q; lag = u; lengths = ms; gaps = hs; cells = ds })
same_request n m p q t u ls ms gs hs cs ds a b c d e f = cc

joined-map : {X : Type 0} (f : ℕ → List X) (ns : List ℕ) → flat_map (λ w. w) (map f ns) ≡ flat_map f ns
joined-map f [] = refl
joined-map f (n ∷ ns) = ap (λ x. f n ++ x) (joined-map f ns)

module _ (l : Line LetterCell) (ok : ProperLine l) where
  long_number : length (right 3 (decimal l.number)) ≡ 3
  long_number =
      let b = leb-true l.number 128 (and_parts (leb 1 l.number) (leb l.number 128) ok.number).1 in
      length-right 3 (decimal l.number) (length-decimal-le 3 l.number (omega arith) (omega arith) (omega arith))

  long_points : length (right 5 (signed_decimal l.points)) ≡ 5
  long_points =
      let b = small_points l.points ok.points in
      length-right 5 (signed_decimal l.points) (length_signed_le 4 l.points (omega arith) (omega arith))

  long_lag : length (right 3 (decimal l.lag)) ≡ 3
  long_lag =
      let b = leb-true l.lag 63 ok.lag in
      length-right 3 (decimal l.lag) (length-decimal-le 3 l.lag (omega arith) (omega arith) (omega arith))

  -- the fields before the keywords
  number_there : number_field (row_of l) ≡ right 3 (decimal l.number)
  unfolding row_of from_column
  number_there = take_at (right 3 (decimal l.number)) _ 3 long_number

  from_points : drop 3 (row_of l) ≡ right 5 (signed_decimal l.points) ++ (right 3 (decimal l.lag) ++ blocks_of (gap_texts l.gaps) l.keywords)
  unfolding row_of
  from_points = drop_at (right 3 (decimal l.number)) _ 3 long_number

  points_there : points_field (row_of l) ≡ right 5 (signed_decimal l.points)
  unfolding from_column
  points_there = ap (take 5) from_points ∙ take_at (right 5 (signed_decimal l.points)) _ 5 long_points

  from_lag : drop 8 (row_of l) ≡ right 3 (decimal l.lag) ++ blocks_of (gap_texts l.gaps) l.keywords
  from_lag = sym (drop-drop 5 3 (row_of l)) ∙ ap (drop 5) from_points ∙ drop_at (right 5 (signed_decimal l.points)) _ 5 long_points

  lag_there : lag_field (row_of l) ≡ right 3 (decimal l.lag)
  unfolding from_column
  lag_there = ap (take 3) from_lag ∙ take_at (right 3 (decimal l.lag)) _ 3 long_lag

  from_keywords : drop 11 (row_of l) ≡ blocks_of (gap_texts l.gaps) l.keywords
  from_keywords = sym (drop-drop 3 8 (row_of l)) ∙ ap (drop 3) from_lag ∙ drop_at (right 3 (decimal l.lag)) _ 3 long_lag

  same_count : length (gap_texts l.gaps) ≡ length l.keywords
  same_count = let b = ok.between in let m = length-map l.gaps decimal in omega (arith, b, m)

  narrow : list_all short (gap_texts l.gaps) ≡ true
  narrow = narrow_gaps l.gaps ok.gaps

  -- the length
  long_row : length (row_of l) ≡ 11 + 21 * length l.keywords
  unfolding row_of
  long_row =
      let b = length_blocks (gap_texts l.gaps) l.keywords same_count narrow ok.lengths in
      let n = long_number in
      let p = long_points in
      let t = long_lag in
      let rest = blocks_of (gap_texts l.gaps) l.keywords in
      let x = length-append (right 3 (decimal l.number)) (right 5 (signed_decimal l.points) ++ (right 3 (decimal l.lag) ++ rest)) in
      let y = length-append (right 5 (signed_decimal l.points)) (right 3 (decimal l.lag) ++ rest) in
      let z = length-append (right 3 (decimal l.lag)) rest in
      omega (arith, b, n, p, t, x, y, z)

  keyword_count : keywords_in (length (row_of l)) ≡ length l.keywords
  keyword_count =
      let n : length (row_of l) - 11 ≡ 21 * length l.keywords = let e = long_row in omega arith in
      ap (λ k. k / 21) n ∙ mul-div_cancel_left (length l.keywords) {n = 21} (omega arith)

  sized : is_row_length (length (row_of l)) ≡ true
  sized =
      let e = keyword_count in
      and_from _ _ (ap (λ k. leb 1 k && leb k 16) e ∙ ok.count) (eq-eqb _ _ (long_row ∙ ap (λ k. 11 + 21 * k) (sym e)))

  -- the keywords' fields
  gap_there : (k : ℕ) → k < length l.keywords → gap_field (row_of l) k ≡ right 4 (get_or (gap_texts l.gaps) k [])
  gap_there k u = gap_at (row_of l) (gap_texts l.gaps) l.keywords from_keywords same_count narrow ok.lengths k u

  blank_there : (k : ℕ) → k < length l.keywords → between_field (row_of l) k ≡ 32 ∷ []
  blank_there k u = blank_at (row_of l) (gap_texts l.gaps) l.keywords from_keywords same_count narrow ok.lengths k u

  letters_there : (k : ℕ) → k < length l.keywords → letter_field (row_of l) k ≡ left 16 (letters_in (get_or l.keywords k []))
  letters_there k u = letters_at (row_of l) (gap_texts l.gaps) l.keywords from_keywords same_count narrow ok.lengths k u

  gap_read : (j : ℕ) → suc j < length l.keywords → decimal_in (gap_field (row_of l) (suc j)) ≡ Some (get_or l.gaps j 0)
  gap_read j u =
      let b = ok.between in
      let g = get_or l.gaps j 0 in
      let h : j < length l.gaps = omega (arith, b) in
      let few = leb-true g 112 (and_parts (leb 0 g) (leb g 112) (pass_at gap_ok l.gaps j 0 h ok.gaps)).1 in
      ap decimal_in (gap_there (suc j) u ∙ ap (right 4) (get_or-map decimal l.gaps j 0 [] h)) ∙ decimal_back 4 g (omega (arith, few))

  gap_clean : (k : ℕ) → k < length l.keywords → gap_flaw (row_of l) k ≡ None
  gap_clean zero u = gap_first (row_of l) 0 12 (gap_field (row_of l) 0) refl refl refl ∙ ap (blank_flaw 12) (gap_there zero u)
  gap_clean (suc j) u = gap_later (row_of l) (suc j) (λ e. omega arith) ∙ ap (decimal_flaw (12 + 21 * suc j)) (gap_read j u)

  gap_value : (k : ℕ) → k < length l.keywords → get_or (0 ∷ l.gaps) k 0 ≡ gap_of (row_of l) k
  unfolding decimal_in whole_of
  gap_value zero u = sym (ap (λ f. unwrap_or (decimal_in f) 0) (gap_there zero u))
  gap_value (suc j) u = sym (ap (λ o. unwrap_or o 0) (gap_read j u))

  cells_there : (k : ℕ) → k < length l.keywords → get_or l.keywords k [] ≡ cells_of (row_of l) k
  cells_there k u = sym (ap letters_of (letters_there k u) ∙ letters_left (get_or l.keywords k []))

  keyword_clean : (k : ℕ) → k < length l.keywords → keyword_flaw (row_of l) k ≡ None
  keyword_clean k u =
      let w = get_or l.keywords k [] in
      let p = pass_at proper l.keywords k [] u ok.lengths in
      flawed_letters (row_of l) k (16 + 21 * k) (17 + 21 * k) (between_field (row_of l) k) (letter_field (row_of l) k) None (gap_clean k u) refl refl
      (sym (ap (blank_flaw (16 + 21 * k)) (blank_there k u))) refl refl
      (ap (letter_flaw (17 + 21 * k)) (letters_there k u)
      ∙ ap (option_map (λ i. at_column BadKeyword (17 + 21 * k + i))) (good_letters w (proper_some w p) (proper_few w p)))

  -- the readings before the keywords
  number_read : decimal_in (number_field (row_of l)) ≡ Some l.number
  number_read =
      let b = leb-true l.number 128 (and_parts (leb 1 l.number) (leb l.number 128) ok.number).1 in
      ap decimal_in number_there ∙ decimal_back 3 l.number (omega (arith, b))

  points_read : points_in (points_field (row_of l)) ≡ Some l.points
  points_read =
      let b = small_points l.points ok.points in
      ap points_in points_there ∙ points_back 5 l.points (omega (arith, b))

  lag_read : decimal_in (lag_field (row_of l)) ≡ Some l.lag
  lag_read =
      let b = leb-true l.lag 63 ok.lag in
      ap decimal_in lag_there ∙ decimal_back 3 l.lag (omega (arith, b))

  within : (k : ℕ) → k < keywords_in (length (row_of l)) → k < length l.keywords
  within k u = let e = keyword_count in omega (arith, e)

  pub clean_row : row_flaw (row_of l) ≡ None
  clean_row =
      let n = keywords_in (length (row_of l)) in
      sized_flaw (row_of l) (ap (λ b. cond b None (Some (at_column RowLength (length (row_of l) + 1)))) sized)
      ∙ third_is _ _ _ _ _ (ap (decimal_flaw 1) number_read) (ap (decimal_flaw 4) points_read) (ap (decimal_flaw 9) lag_read)
      ∙ ap first_of (sym (fill_by_all (keyword_flaw (row_of l)) (replicate {A = Option Flaw} n None) n None (length-replicate {A = Option Flaw} n None) (λ k u. get_or-replicate {A = Option Flaw} n k None None u ∙ sym (keyword_clean k (within k u)))))
      ∙ none_of n

  lengths_read : map (λ k. length (cells_of (row_of l) k)) (range_with_len 0 (keywords_in (length (row_of l)))) ≡ map length l.keywords
  lengths_read =
      let n = keywords_in (length (row_of l)) in
      let e = keyword_count in
      let m = length-map l.keywords length in
      sym (fill_by_all (λ k. length (cells_of (row_of l) k)) (map length l.keywords) n 0 (omega (arith, e, m)) (λ k u. get_or-map length l.keywords k [] 0 (within k u) ∙ ap length (cells_there k (within k u))))

  cells_read : flat_map (cells_of (row_of l)) (range_with_len 0 (keywords_in (length (row_of l)))) ≡ flat_map (λ w. w) l.keywords
  cells_read =
      let n = keywords_in (length (row_of l)) in
      sym (joined-map (cells_of (row_of l)) (range_with_len 0 n))
      ∙ ap (flat_map (λ w. w)) (sym (fill_by_all (cells_of (row_of l)) l.keywords n [] (sym keyword_count) (λ k u. cells_there k (within k u))))

  gaps_read : drop 1 (map (gap_of (row_of l)) (range_with_len 0 (keywords_in (length (row_of l))))) ≡ l.gaps
  gaps_read =
      let n = keywords_in (length (row_of l)) in
      let e = keyword_count in
      let b = ok.between in
      ap (drop 1) (sym (fill_by_all (gap_of (row_of l)) (0 ∷ l.gaps) n 0 (omega (arith, e, b)) (λ k u. gap_value k (within k u))))

  pub line_back : line_of (row_request (row_of l)) ≡ l
  unfolding row_request
  line_back =
      let a = ap (λ o. unwrap_or o 0) number_read in
      let b = ap (λ o. unwrap_or o (pos 0)) points_read in
      let c = ap (λ o. unwrap_or o 0) lag_read in
      let d : cut (map (λ k. length (cells_of (row_of l) k)) (range_with_len 0 (keywords_in (length (row_of l))))) (flat_map (cells_of (row_of l)) (range_with_len 0 (keywords_in (length (row_of l))))) ≡ l.keywords =
      ap (λ ns. cut ns (flat_map (cells_of (row_of l)) (range_with_len 0 (keywords_in (length (row_of l)))))) lengths_read
      ∙ ap (cut (map length l.keywords)) cells_read
      ∙ cut-joined l.keywords in
      let e = gaps_read in
      same_line _ _ _ _ _ _ _ _ _ _ a b c d e

  -- and as it is handed to the book
  pub request_back : row_request (row_of l) ≡ line_request l
  unfolding row_request
  request_back =
      same_request _ _ _ _ _ _ _ _ _ _ _ _
      (ap (λ o. unwrap_or o 0) number_read)
      (ap (λ o. unwrap_or o (pos 0)) points_read)
      (ap (λ o. unwrap_or o 0) lag_read)
      lengths_read
      gaps_read
      cells_read

pub reads_back : ReadsBack
reads_back l ok = (clean_row l ok, line_back l ok)
