-- Where the fields of a written row stand.
use Rattle.std.proofs.Common.{◌≡◌, ℕ, zero, suc, ◌+◌, ◌-◌, ◌*◌, ◌<◌, ◌≤◌, Bool, true, leb, List, [], ◌∷◌, ◌++◌, length, get_or, take, drop, sym, refl, ap, ◌∙◌, arith}
use Rattle.std.proofs.lemmas.List.{append_assoc, length-append, take_at, drop_at, drop-drop, drop_more}
use Rattle.std.proofs.lemmas.Bool.{and_parts, leb-true}
use Rattle.std.specs.List.{list_all}
use Rattle.cells.specs.declared.letters.LetterCell.{LetterCell}
use Rattle.book.specs.Rules.{length_ok}
use Rattle.book.proofs.Passes.{pass_at}
use Rattle.page.specs.Columns.{from_column, gap_field, between_field, letter_field}
use Rattle.page.specs.Writing.{right, left, letters_in, block_of, blocks_of}
use Rattle.page.proofs.Figures.{length-right}
use Rattle.page.proofs.Spelt.{length-left}

-- a gap's text that fits its field
abbrev pub short : List ℕ → Bool
short g = leb (length g) 4

-- a keyword that fits its field
abbrev pub proper : List LetterCell → Bool
proper w = length_ok (length w)

pub proper_few : (w : List LetterCell) → proper w ≡ true → length w ≤ 16
proper_few w h = leb-true (length w) 16 (and_parts _ _ h).1

pub proper_some : (w : List LetterCell) → proper w ≡ true → 1 ≤ length w
proper_some w h = leb-true 1 (length w) (and_parts _ _ h).0

length_block : (g : List ℕ) (w : List LetterCell) → short g ≡ true → proper w ≡ true → length (block_of g w) ≡ 21
unfolding block_of
length_block g w h k =
    let a = length-right 4 g (leb-true _ _ h) in
    let b = length-left w (proper_few w k) in
    let s = length-append (right 4 g) (32 ∷ left 16 (letters_in w)) in
    omega (arith, a, b, s)

pub length_blocks : (gs : List (List ℕ)) (ws : List (List LetterCell)) → length gs ≡ length ws → list_all short gs ≡ true → list_all proper ws ≡ true
    → length (blocks_of gs ws) ≡ 21 * length ws
length_blocks [] [] e h k = refl
length_blocks [] (w ∷ ws) e h k = absurd (omega arith)
length_blocks (g ∷ gs) [] e h k = absurd (omega arith)
length_blocks (g ∷ gs) (w ∷ ws) e h k =
    let p = and_parts (short g) _ h in
    let q = and_parts (proper w) _ k in
    let a = length_block g w p.0 q.0 in
    let b = length_blocks gs ws (omega arith) p.1 q.1 in
    let s = length-append (block_of g w) (blocks_of gs ws) in
    omega (arith, a, b, s)

drop_block : (b rest : List ℕ) (k : ℕ) → length b ≡ 21 → drop (21 * suc k) (b ++ rest) ≡ drop (21 * k) rest
drop_block b rest k h =
    let n : 21 * suc k ≡ 21 + 21 * k = omega arith in
    ap (λ i. drop i (b ++ rest)) n ∙ sym (drop-drop (21 * k) 21 (b ++ rest)) ∙ ap (drop (21 * k)) (drop_at b rest 21 h)

drop_blocks : (k : ℕ) (gs : List (List ℕ)) (ws : List (List LetterCell)) → length gs ≡ length ws → list_all short gs ≡ true → list_all proper ws ≡ true
    → k ≤ length ws → drop (21 * k) (blocks_of gs ws) ≡ blocks_of (drop k gs) (drop k ws)
drop_blocks zero gs ws e h k l = refl
drop_blocks (suc n) gs [] e h k l = absurd (omega arith)
drop_blocks (suc n) [] (w ∷ ws) e h k l = absurd (omega arith)
drop_blocks (suc n) (g ∷ gs) (w ∷ ws) e h k l =
    let p = and_parts (short g) _ h in
    let q = and_parts (proper w) _ k in
    drop_block (block_of g w) (blocks_of gs ws) n (length_block g w p.0 q.0)
    ∙ drop_blocks n gs ws (omega arith) p.1 q.1 (omega arith)

-- the parts of a block
block_parts : (g : List ℕ) (w : List LetterCell) (rest : List ℕ) → block_of g w ++ rest ≡ right 4 g ++ (32 ∷ (left 16 (letters_in w) ++ rest))
unfolding block_of
block_parts g w rest = append_assoc (right 4 g) (32 ∷ left 16 (letters_in w)) rest

module _ (row : List ℕ) (gs : List (List ℕ)) (ws : List (List LetterCell))
    (behind : drop 11 row ≡ blocks_of gs ws) (same : length gs ≡ length ws) (narrow : list_all short gs ≡ true) (fit : list_all proper ws ≡ true)
    (k : ℕ) (under : k < length ws) where
  -- the row from a keyword's columns on
  from_keyword : drop (11 + 21 * k) row ≡ right 4 (get_or gs k []) ++ (32 ∷ (left 16 (letters_in (get_or ws k [])) ++ blocks_of (drop (k + 1) gs) (drop (k + 1) ws)))
  from_keyword =
      sym (drop-drop (21 * k) 11 row)
      ∙ ap (drop (21 * k)) behind
      ∙ drop_blocks k gs ws same narrow fit (omega arith)
      ∙ ap (λ x. blocks_of x (drop k ws)) (drop_more gs k [] (omega arith))
      ∙ ap (blocks_of (get_or gs k [] ∷ drop (k + 1) gs)) (drop_more ws k [] under)
      ∙ block_parts (get_or gs k []) (get_or ws k []) (blocks_of (drop (k + 1) gs) (drop (k + 1) ws))

  long_gap : length (right 4 (get_or gs k [])) ≡ 4
  long_gap = length-right 4 (get_or gs k []) (leb-true _ _ (pass_at short gs k [] (omega arith) narrow))

  pub proper_at : proper (get_or ws k []) ≡ true
  proper_at = pass_at proper ws k [] under fit

  pub gap_at : gap_field row k ≡ right 4 (get_or gs k [])
  unfolding from_column
  gap_at =
      let n : (12 + 21 * k) - 1 ≡ 11 + 21 * k = omega arith in
      ap (λ i. take 4 (drop i row)) n ∙ ap (take 4) from_keyword ∙ take_at (right 4 (get_or gs k [])) _ 4 long_gap

  -- the row from the blank on
  from_blank : drop (15 + 21 * k) row ≡ 32 ∷ (left 16 (letters_in (get_or ws k [])) ++ blocks_of (drop (k + 1) gs) (drop (k + 1) ws))
  from_blank =
      let n : 15 + 21 * k ≡ (11 + 21 * k) + 4 = omega arith in
      ap (λ i. drop i row) n ∙ sym (drop-drop 4 (11 + 21 * k) row) ∙ ap (drop 4) from_keyword ∙ drop_at (right 4 (get_or gs k [])) _ 4 long_gap

  pub blank_at : between_field row k ≡ 32 ∷ []
  unfolding from_column
  blank_at =
      let n : (16 + 21 * k) - 1 ≡ 15 + 21 * k = omega arith in
      ap (λ i. take 1 (drop i row)) n ∙ ap (take 1) from_blank

  pub letters_at : letter_field row k ≡ left 16 (letters_in (get_or ws k []))
  unfolding from_column
  letters_at =
      let n : (17 + 21 * k) - 1 ≡ (15 + 21 * k) + 1 = omega arith in
      ap (λ i. take 16 (drop i row)) n
      ∙ ap (take 16) (sym (drop-drop 1 (15 + 21 * k) row) ∙ ap (drop 1) from_blank)
      ∙ take_at (left 16 (letters_in (get_or ws k []))) _ 16 (length-left (get_or ws k []) (proper_few (get_or ws k []) proper_at))
