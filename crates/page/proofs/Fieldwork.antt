-- What is wrong with a field, case by case.
use Rattle.std.proofs.Common.{◌≡◌, ℕ, ◌+◌, ◌*◌, ◌<◌, List, [], ◌∷◌, ◌++◌, length, drop, Some, None, Ok, Err, Option, Result, unwrap_or, sym, refl, ap, ◌∙◌, arith, MatchResult}
use Rattle.std.proofs.lemmas.List.FromFn.{length-map-range_with_len, get_or-map-range_with_len, map-range_with_len_more}
use Rattle.std.proofs.lemmas.List.{drop_all, at_drop_more, map-id, flat_map_more}
use Rattle.std.specs.List.{range_with_len, flat_map}
use Rattle.std.proofs.lemmas.Bool.{cond-true, cond-false, eq-eqb, ne_eqb}
use Rattle.std.proofs.lemmas.Bool.Decides.{nat_tests}
use Rattle.std.specs.Option.{ok_or, option_or}
use Rattle.std.specs.Result.{IsOk, OnOk}
use Rattle.refusals.specs.declared.Refusal.TheVariants.{BadDecimal}
use Rattle.page.specs.declared.faults.Flaw.{Flaw}
use Rattle.page.specs.Bytes.{blanks}
use Rattle.page.specs.Decimals.{decimal_in, points_in, whole_of}
use Rattle.page.specs.Columns.{from_column, number_field, points_field, lag_field, gap_field, between_field, letter_field, keywords_in}
use Rattle.page.specs.Flaws.{at_column, length_flaw, blank_flaw, decimal_flaw, letter_flaw, gap_flaw, keyword_flaw, keyword_flaws, first_of, row_flaw}
use Rattle.page.specs.declared.drafts.Draft.{Draft}
use Rattle.page.specs.Row.{gap_of, cells_of, lengths_up_to, gaps_up_to, cells_up_to}

-- the gap before the first keyword is blank
pub gap_first : (row : List ℕ) (k column : ℕ) (field : List ℕ) → k ≡ 0 → field ≡ gap_field row k → column ≡ 12 + 21 * k
    → gap_flaw row k ≡ blank_flaw column field
unfolding gap_flaw
gap_first row k column field z e c =
    let n : 12 ≡ column = omega arith in
    cond-true _ _ _ (eq-eqb k 0 z)
    ∙ ap (λ m. blank_flaw 12 (gap_field row m)) (sym z)
    ∙ ap (blank_flaw 12) (sym e)
    ∙ ap (λ m. blank_flaw m field) n

-- the others are decimals
pub gap_later : (row : List ℕ) (k : ℕ) → (k ≡ 0 → ⊥) → gap_flaw row k ≡ decimal_flaw (12 + 21 * k) (decimal_in (gap_field row k))
unfolding gap_flaw
gap_later row k e = cond-false _ _ _ (ne_eqb k 0 e)

-- blanks alone are no decimal
pub blank_decimal : (f : List ℕ) (column : ℕ) → blank_flaw column f ≡ None → decimal_in f ≡ None
unfolding decimal_in whole_of
blank_decimal f column e =
    let b : blanks f ≡ length f = grind (arith, nat_tests) in
    ap whole_of (drop_all (blanks f) f (omega arith))

pub no_first_gap : (row : List ℕ) (k column : ℕ) (field : List ℕ) → field ≡ gap_field row k → blank_flaw column field ≡ None → 0 ≡ gap_of row k
no_first_gap row k column field e b = ap (λ o. unwrap_or o 0) (sym (blank_decimal field column b) ∙ ap decimal_in e)

-- a decimal that was read, or its flaw
pub decimal_cases : (o : Option ℕ) (column : ℕ) → MatchResult (ok_or o (at_column BadDecimal column)) (λ g. (g ≡ unwrap_or o 0) × (decimal_flaw column o ≡ None)) (λ f. decimal_flaw column o ≡ Some f)
decimal_cases None column = refl
decimal_cases (Some x) column = (refl, refl)

pub gap_cases : (row : List ℕ) (k column : ℕ) (field : List ℕ) (r : Result ℕ Flaw) → (k ≡ 0 → ⊥) → field ≡ gap_field row k → column ≡ 12 + 21 * k
    → r ≡ ok_or (decimal_in field) (at_column BadDecimal column)
    → MatchResult r (λ g. (g ≡ gap_of row k) × (gap_flaw row k ≡ None)) (λ f. gap_flaw row k ≡ Some f)
gap_cases row k column field r n e c h =
    let g = gap_later row k n in
    let q : r ≡ ok_or (decimal_in (gap_field row k)) (at_column BadDecimal (12 + 21 * k)) =
    h ∙ ap (λ f. ok_or (decimal_in f) (at_column BadDecimal column)) e ∙ ap (λ m. ok_or (decimal_in (gap_field row k)) (at_column BadDecimal m)) c in
    simp (q, g) (decimal_cases (decimal_in (gap_field row k)) (12 + 21 * k))

read_ok : {X : Type 0} (o : Option X) (f : Flaw) (x : X) → Ok x ≡ ok_or o f → o ≡ Some x
read_ok None f x h = cc
read_ok (Some y) f x h = cc

read_err : {X : Type 0} (o : Option X) (f g : Flaw) → Err g ≡ ok_or o f → (o ≡ None) × (f ≡ g)
read_err None f g h = (refl, cc)
read_err (Some y) f g h = cc

-- a field that was read, and one that was not
pub field_read : {X : Type 0} (read : List ℕ → Option X) (column width : ℕ) (row bytes field : List ℕ) (f : Flaw) (x : X)
    → field ≡ from_column column width bytes → bytes ≡ row → Ok x ≡ ok_or (read field) f → read (from_column column width row) ≡ Some x
field_read read column width row bytes field f x e b h = ap read (sym (e ∙ ap (from_column column width) b)) ∙ read_ok (read field) f x h

pub field_missed : {X : Type 0} (read : List ℕ → Option X) (column width : ℕ) (row bytes field : List ℕ) (n : ℕ) (f : Flaw)
    → field ≡ from_column column width bytes → bytes ≡ row → n ≡ column → Err f ≡ ok_or (read field) (at_column BadDecimal n)
    → decimal_flaw column (read (from_column column width row)) ≡ Some f
field_missed read column width row bytes field n f e b c h =
    let r = read_err (read field) (at_column BadDecimal n) f h in
    ap (λ bs. decimal_flaw column (read bs)) (sym (e ∙ ap (from_column column width) b))
    ∙ ap (decimal_flaw column) r.0
    ∙ ap (λ m. Some (at_column BadDecimal m)) (sym c)
    ∙ ap Some r.1

-- one of several is the first
pub first_is : {X : Type 0} (a r : Option X) (x : X) → a ≡ Some x → option_or a r ≡ Some x
first_is a r x e = ap (λ o. option_or o r) e

pub second_is : {X : Type 0} (a b r : Option X) (x : X) → a ≡ None → b ≡ Some x → option_or a (option_or b r) ≡ Some x
second_is a b r x e f = ap (λ o. option_or o (option_or b r)) e ∙ ap (λ o. option_or o r) f

pub third_is : {X : Type 0} (a b c r o : Option X) → a ≡ None → b ≡ None → c ≡ o → option_or a (option_or b (option_or c r)) ≡ option_or o r
third_is a b c r o e f g = ap (λ u. option_or u (option_or b (option_or c r))) e ∙ ap (λ u. option_or u (option_or c r)) f ∙ ap (λ u. option_or u r) g

-- a row of a wrong length has no other flaw
pub unsized_flaw : (row : List ℕ) (f : Flaw) → length_flaw row ≡ Some f → row_flaw row ≡ Some f
unfolding row_flaw
unsized_flaw row f e = first_is _ _ f e

pub sized_flaw : (row : List ℕ) → length_flaw row ≡ None → row_flaw row
    ≡ option_or (decimal_flaw 1 (decimal_in (number_field row)))
    (option_or (decimal_flaw 4 (points_in (points_field row)))
    (option_or (decimal_flaw 9 (decimal_in (lag_field row))) (first_of (keyword_flaws row))))
unfolding row_flaw
sized_flaw row e =
    ap (λ o. option_or o (option_or (decimal_flaw 1 (decimal_in (number_field row)))
    (option_or (decimal_flaw 4 (points_in (points_field row)))
    (option_or (decimal_flaw 9 (decimal_in (lag_field row))) (first_of (keyword_flaws row)))))) e

-- one keyword more
pub counting_more : (n : ℕ) → range_with_len 0 (n + 1) ≡ range_with_len 0 n ++ n ∷ []
counting_more n =
    sym (map-id (range_with_len 0 (n + 1))) ∙ map-range_with_len_more (λ k. k) 0 n n (omega arith) ∙ ap (λ l. l ++ n ∷ []) (map-id (range_with_len 0 n))

pub lengths_more : (row : List ℕ) (k : ℕ) → lengths_up_to row (k + 1) ≡ lengths_up_to row k ++ length (cells_of row k) ∷ []
lengths_more row k = map-range_with_len_more (λ n. length (cells_of row n)) 0 k k (omega arith)

pub gaps_more : (row : List ℕ) (k : ℕ) → gaps_up_to row (k + 1) ≡ gaps_up_to row k ++ gap_of row k ∷ []
gaps_more row k = map-range_with_len_more (gap_of row) 0 k k (omega arith)

pub cells_more : (row : List ℕ) (k : ℕ) → cells_up_to row (k + 1) ≡ cells_up_to row k ++ cells_of row k
cells_more row k = ap (flat_map (cells_of row)) (counting_more k) ∙ sym (flat_map_more (cells_of row) [] (range_with_len 0 k) k)

pub flaws_more : (row : List ℕ) (k : ℕ) → k < keywords_in (length row) → first_of (drop k (keyword_flaws row)) ≡ option_or (keyword_flaw row k) (first_of (drop (k + 1) (keyword_flaws row)))
flaws_more row k h =
    let m = keywords_in (length row) in
    let l : k < length (keyword_flaws row) = omega (arith, length-map-range_with_len (keyword_flaw row) 0 m) in
    at_drop_more first_of (keyword_flaws row) k None l
    ∙ ap (λ o. option_or o (first_of (drop (k + 1) (keyword_flaws row)))) (get_or-map-range_with_len (keyword_flaw row) 0 m k k None h (omega arith))

-- a keyword's flaw is the first that its fields have
blank_at : (row : List ℕ) (k column : ℕ) (field : List ℕ) (o : Option Flaw) → field ≡ between_field row k → column ≡ 16 + 21 * k → o ≡ blank_flaw column field
    → blank_flaw (16 + 21 * k) (between_field row k) ≡ o
blank_at row k column field o e c h = ap (λ j. blank_flaw j (between_field row k)) (sym c) ∙ ap (blank_flaw column) (sym e) ∙ sym h

pub flawed_gap : (row : List ℕ) (k : ℕ) (f : Flaw) → gap_flaw row k ≡ Some f → keyword_flaw row k ≡ Some f
unfolding keyword_flaw
flawed_gap row k f e = first_is _ _ f e

pub flawed_blank : (row : List ℕ) (k column : ℕ) (field : List ℕ) (f : Flaw) → gap_flaw row k ≡ None
    → field ≡ between_field row k → column ≡ 16 + 21 * k → Some f ≡ blank_flaw column field → keyword_flaw row k ≡ Some f
unfolding keyword_flaw
flawed_blank row k column field f g e c h = second_is _ _ _ f g (blank_at row k column field _ e c h)

pub flawed_letters : (row : List ℕ) (k column start : ℕ) (field letters : List ℕ) (o : Option Flaw) → gap_flaw row k ≡ None
    → field ≡ between_field row k → column ≡ 16 + 21 * k → None ≡ blank_flaw column field
    → letters ≡ letter_field row k → start ≡ 17 + 21 * k → letter_flaw start letters ≡ o → keyword_flaw row k ≡ o
unfolding keyword_flaw
flawed_letters row k column start field letters o g e c h m n l =
    ap (λ u. option_or u (option_or (blank_flaw (16 + 21 * k) (between_field row k)) (letter_flaw (17 + 21 * k) (letter_field row k)))) g
    ∙ ap (λ u. option_or u (letter_flaw (17 + 21 * k) (letter_field row k))) (blank_at row k column field None e c h)
    ∙ ap (λ j. letter_flaw j (letter_field row k)) (sym n)
    ∙ ap (letter_flaw start) (sym m)
    ∙ l

-- the row's flaw is that of the next keyword, or of those behind it
pub next_flaw : (d : Draft) (k : ℕ) (o : Option Flaw) → k ≡ length d.lengths.items → k < keywords_in (length d.row.bytes.now) → keyword_flaw d.row.bytes.now k ≡ o
    → row_flaw d.row.bytes.now ≡ option_or o (first_of (drop (k + 1) (keyword_flaws d.row.bytes.now)))
next_flaw d k o n h e =
    let row = d.row.bytes.now in
    d.flawless
    ∙ ap (λ j. first_of (drop j (keyword_flaws row))) (sym n)
    ∙ flaws_more row k h
    ∙ ap (λ u. option_or u (first_of (drop (k + 1) (keyword_flaws row)))) e

-- what the first keywords give, with what the next gives behind it
pub grown : {X : Type 0} (up_to : ℕ → List X) (old more new : List X) (k n : ℕ) → new ≡ old ++ more → old ≡ up_to k → up_to (k + 1) ≡ up_to k ++ more → n ≡ k + 1 → new ≡ up_to n
grown up_to old more new k n e f g h = e ∙ ap (λ l. l ++ more) f ∙ sym g ∙ ap up_to (sym h)

-- what a call promises of a good answer, where it gave one
pub at_good : {X E P : Type 0} (r : Result X E) → IsOk r → OnOk r P → P
at_good (Ok x) h p = p
at_good (Err e) h p = cc
