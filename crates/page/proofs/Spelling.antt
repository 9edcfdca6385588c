-- Letters that stand first in a field, cell by cell.
use Rattle.std.proofs.Common.{◌≡◌, ℕ, ◌+◌, ◌<◌, ◌≤◌, List, [], ◌∷◌, ◌++◌, length, get_or, drop, Ok, Err, sym, ap, ◌∙◌}
use Rattle.std.proofs.lemmas.List.{at_drop_more, at_drop_all, append_assoc, append-nil}
use Rattle.refusals.specs.declared.Refusal.{Refusal}
use Rattle.cells.specs.declared.letters.LetterCell.{LetterCell}
use Rattle.cells.specs.Letters.{letter_cell_of}
use Rattle.page.specs.Letters.{letters_of, cell_before}

pub letters_step : (f : List ℕ) (i : ℕ) → i < length f → letters_of (drop i f) ≡ cell_before (letter_cell_of (get_or f i 0)) (letters_of (drop (i + 1) f))
unfolding letters_of
letters_step f i h = at_drop_more letters_of f i 0 h

pub letters_none : (f : List ℕ) (i : ℕ) → length f ≤ i → letters_of (drop i f) ≡ []
unfolding letters_of
letters_none f i h = at_drop_all letters_of f i h

-- one letter more
pub letter_more : (cells letters : List LetterCell) (f : List ℕ) (i : ℕ) (c : LetterCell) → i < length f → Ok c ≡ letter_cell_of (get_or f i 0)
    → cells ++ letters_of (drop i f) ≡ letters → (cells ++ c ∷ []) ++ letters_of (drop (i + 1) f) ≡ letters
letter_more cells letters f i c h e m =
    let s = letters_step f i h in
    append_assoc cells (c ∷ []) (letters_of (drop (i + 1) f)) ∙ ap (λ l. cells ++ l) (ap (λ r. cell_before r (letters_of (drop (i + 1) f))) e ∙ sym s) ∙ m

-- and the last, where a byte makes no cell
pub letters_end_at : (cells letters : List LetterCell) (f : List ℕ) (i : ℕ) (r : Refusal) → i < length f → Err r ≡ letter_cell_of (get_or f i 0)
    → cells ++ letters_of (drop i f) ≡ letters → cells ≡ letters
letters_end_at cells letters f i r h e m =
    let s = letters_step f i h in
    sym (append-nil cells) ∙ ap (λ l. cells ++ l) (ap (λ x. cell_before x (letters_of (drop (i + 1) f))) e ∙ sym s) ∙ m

-- or where the field ends
pub letters_end_all : (cells letters : List LetterCell) (f : List ℕ) (i : ℕ) → length f ≤ i
    → cells ++ letters_of (drop i f) ≡ letters → cells ≡ letters
letters_end_all cells letters f i h m = sym (append-nil cells) ∙ ap (λ l. cells ++ l) (sym (letters_none f i h)) ∙ m
