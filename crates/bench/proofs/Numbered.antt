-- Lines and their numbers.
use Rattle.std.proofs.Common.{◌≡◌, ℕ, ◌+◌, Bool, true, false, not, ◌&&◌, ◌||◌, eqb, [], ◌∷◌, ◌++◌, map, length, sym, refl, ap, ◌∙◌, subst, ⊎_elim}
use Rattle.std.specs.List.{AllByRecursion}
use Rattle.std.proofs.lemmas.Bool.{and_parts, not-true, or_parts, or_left, or_right, or_from, and_from, and_right, eq-eqb, ne_eqb, eqb-true, cases_Bool, cases_eq, both_ways}
use Rattle.book.specs.Book.{Line, Book, among, has_number}
use Rattle.book.specs.Layout.{distinct}
use Rattle.book.specs.Proper.{ProperLine}
use Rattle.book.specs.Rows.{line_rows_from}
use Rattle.book.specs.Rules.{within}
use Rattle.history.specs.Calls.{History}
use Rattle.history.specs.Reports.{reported, numbers_reported}
use Rattle.bench.proofs.Histories.{among_reported}

pub eqb_swap : (m n : ℕ) → eqb m n ≡ eqb n m
eqb_swap m n = ⊎_elim (λ e. eq-eqb m n e ∙ sym (eq-eqb n m (sym e))) (λ e. ne_eqb m n e ∙ sym (ne_eqb n m (λ x. e (sym x)))) (cases_eq m n)

module _ {C : Type 0} where
  -- a line's number is one of its book's
  pub has_here : (before : Book C) (l : Line C) (behind : Book C) → has_number l.number (before ++ l ∷ behind) ≡ true
  has_here [] l behind = or_left _ _ (eq-eqb l.number l.number refl)
  has_here (x ∷ before) l behind = or_right _ _ (has_here before l behind)

  -- the rows have the lines' numbers
  pub row_numbers : (from : ℕ) (b : Book C) → map (λ l. l.number) (line_rows_from from b) ≡ map (λ l. l.number) b
  row_numbers from [] = refl
  row_numbers from (l ∷ b) = ap (λ ns. l.number ∷ ns) (row_numbers (from + length l.keywords) b)

  -- every number of a book is 1 to 128
  pub numbers_within : (b : Book C) (n : ℕ) → AllByRecursion ProperLine b → has_number n b ≡ true → within 1 128 n ≡ true
  numbers_within [] n q h = absurd (both_ways false refl h)
  numbers_within (l ∷ b) n q h =
      ⊎_elim
      (λ same. subst (λ x. within 1 128 x ≡ true) (eqb-true l.number n same) q.0.number)
      (λ other. numbers_within b n q.1 (sym (ap (λ t. t || has_number n b) other) ∙ h))
      (cases_Bool (eqb l.number n))

  pub has_within : (b : Book C) (n : ℕ) → AllByRecursion ProperLine b → (within 1 128 n && has_number n b) ≡ has_number n b
  has_within b n q =
      ⊎_elim
      (λ y. and_from _ _ (numbers_within b n q y) y ∙ sym y)
      (λ y. and_right _ _ y ∙ sym y)
      (cases_Bool (has_number n b))

  module _ {S : Type 0} (hears : C → S → Bool) (h : History S) (i : ℕ) where
    -- only lines of a book are reported
    pub none_absent : (b : Book C) (n : ℕ) → has_number n b ≡ false → among n (numbers_reported hears b h i) ≡ false
    none_absent [] n e = refl
    none_absent (l ∷ b) n e =
        let p = or_parts (eqb l.number n) _ e in
        among_reported hears l b h i n ∙ or_from _ _ (and_right (reported hears h l i) _ p.0) (none_absent b n p.1)

    -- a line's number is reported exactly when the line is: no other line has it
    pub own_number : (before : Book C) (l : Line C) (behind : Book C) → distinct (map (λ x. x.number) (before ++ l ∷ behind)) ≡ true
        → among l.number (numbers_reported hears (before ++ l ∷ behind) h i) ≡ reported hears h l i
    own_number [] l behind d =
        let p = and_parts (not (has_number l.number behind)) _ d in
        among_reported hears l behind h i l.number
        ∙ (λ j. (reported hears h l i && eq-eqb l.number l.number refl j) || none_absent behind l.number (not-true _ p.0) j)
        ∙ tidy (reported hears h l i)
      where
        tidy : (t : Bool) → ((t && true) || false) ≡ t
        tidy true = refl
        tidy false = refl
    own_number (x ∷ before) l behind d =
        let b = before ++ l ∷ behind in
        let p = and_parts (not (has_number x.number b)) _ d in
        let other : eqb x.number l.number ≡ false = ne_eqb _ _ (λ e. both_ways _ (not-true _ p.0) (subst (λ n. has_number n b ≡ true) (sym e) (has_here before l behind))) in
        among_reported hears x b h i l.number
        ∙ ap (λ t. t || among l.number (numbers_reported hears b h i)) (and_right (reported hears h x i) _ other)
        ∙ own_number before l behind p.1
