-- Letters written and read back.
use Rattle.std.proofs.Common.{◌≡◌, ℕ, zero, suc, ◌-◌, ◌≤◌, List, [], ◌∷◌, ◌++◌, length, drop, replicate, None, Ok, sym, refl, ap, ◌∙◌, arith}
use Rattle.std.proofs.lemmas.List.{drop_at, length-replicate, length-map, length-append, append-nil}
use Rattle.std.proofs.lemmas.Bool.Decides.{nat_tests}
use Rattle.std.specs.Option.{ok_or, option_map}
use Rattle.refusals.specs.declared.Refusal.TheVariants.{NoSymbol}
use Rattle.cells.specs.declared.letters.LetterCell.{LetterCell}
use Rattle.cells.specs.Alphabet.{is_letter}
use Rattle.cells.specs.Letters.{letter_cell_of}
use Rattle.cells.specs.Whens.{when_passes}
use Rattle.page.specs.Bytes.{blanks}
use Rattle.page.specs.Letters.{letters_of, bad_letter, cell_before}
use Rattle.page.specs.Writing.{left, letters_in}
use Rattle.page.proofs.Figures.{blanks_before}

-- the cell of a letter's byte
cell_again : (c : LetterCell) → letter_cell_of c.letter.byte ≡ Ok c
cell_again c = ap (λ o. ok_or (option_map (λ l. record { letter = l }) o) NoSymbol) (when_passes (is_letter c.letter.byte) _ c.letter.ok)

-- blanks have no letters
no_letters : (k : ℕ) → letters_of (replicate k 32) ≡ []
unfolding letters_of
no_letters zero = refl
no_letters (suc k) = refl

pub letters_again : (w : List LetterCell) (k : ℕ) → letters_of (letters_in w ++ replicate k 32) ≡ w
unfolding letters_of
letters_again [] k = no_letters k
letters_again (c ∷ w) k =
    ap (λ r. cell_before r (letters_of (letters_in w ++ replicate k 32))) (cell_again c) ∙ ap (λ cs. c ∷ cs) (letters_again w k)

pub letters_left : (w : List LetterCell) → letters_of (left 16 (letters_in w)) ≡ w
letters_left w = letters_again w (16 - length (letters_in w))

all_blanks : (k : ℕ) → blanks (replicate k 32) ≡ k
all_blanks k = ap blanks (sym (append-nil (replicate k 32))) ∙ blanks_before k [] refl

pub length-left : (w : List LetterCell) → length w ≤ 16 → length (left 16 (letters_in w)) ≡ 16
length-left w h = simp (length-append, length-replicate, length-map) (omega arith)

-- a keyword of 1 to 16 letters breaks no rule
pub good_letters : (w : List LetterCell) → 1 ≤ length w → length w ≤ 16 → bad_letter (left 16 (letters_in w)) ≡ None
unfolding bad_letter
good_letters w some few =
    let f = left 16 (letters_in w) in
    let n : length (letters_of f) ≡ length w = ap length (letters_left w) in
    let k = 16 - length (letters_in w) in
    let d : drop (length (letters_of f)) f ≡ replicate k 32 = ap (λ i. drop i f) n ∙ drop_at (letters_in w) (replicate k 32) (length w) (length-map w _) in
    let b : blanks (drop (length (letters_of f)) f) ≡ k = ap blanks d ∙ all_blanks k in
    let l = length-left w few in
    let m : k ≡ 16 - length w = simp length-map in
    grind (arith, nat_tests)
