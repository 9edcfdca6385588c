-- Facts about histories.
use Rattle.std.proofs.Common.{◌≡◌, ℕ, ◌+◌, ◌≤◌, Bool, true, false, ◌&&◌, ◌||◌, eqb, [], ◌∷◌, length, refl, ap, arith}
use Rattle.std.proofs.lemmas.Bool.{ne_eqb, eq-eqb}
use Rattle.book.specs.Book.{Line, Book, among}
use Rattle.history.specs.Calls.{feed, arm, rest, clear, History, samples, count}
use Rattle.history.specs.Reports.{reported, reports, numbers_reported}

-- as many ticks were counted as samples came
pub count-samples : {S : Type 0} (h : History S) → length (samples h) ≡ count h
count-samples [] = refl
count-samples (feed s ∷ h) = let r = count-samples h in omega arith
count-samples (arm n ∷ h) = count-samples h
count-samples (rest n ∷ h) = count-samples h
count-samples (clear ∷ h) = refl

module _ {C S : Type 0} (hears : C → S → Bool) where
  -- a feed leaves what was reported at earlier ticks
  pub earlier : (h : History S) (s : S) (l : Line C) (i : ℕ) → i ≤ count h → reported hears (feed s ∷ h) l i ≡ reported hears h l i
  earlier h s l i before = ap (λ t. elim t [ true ↦ reports hears h s l | false ↦ reported hears h l i ]) (ne_eqb i (count h + 1) (λ e. omega arith))

  -- and decides what is reported at the newest
  pub newest : (h : History S) (s : S) (l : Line C) → reported hears (feed s ∷ h) l (count h + 1) ≡ reports hears h s l
  newest h s l = ap (λ t. elim t [ true ↦ reports hears h s l | false ↦ reported hears h l (count h + 1) ]) (eq-eqb (count h + 1) (count h + 1) refl)

  -- what is reported of a book is so line by line
  pub alike : (b : Book C) (g h : History S) (i j : ℕ) → ((l : Line C) → reported hears g l i ≡ reported hears h l j) → numbers_reported hears b g i ≡ numbers_reported hears b h j
  alike [] g h i j e = refl
  alike (l ∷ b) g h i j e = λ k. elim (e l k) [ true ↦ l.number ∷ alike b g h i j e k | false ↦ alike b g h i j e k ]

  -- no line is reported before anything happened
  pub none_reported : (b : Book C) (i n : ℕ) → among n (numbers_reported hears b [] i) ≡ false
  none_reported [] i n = refl
  none_reported (l ∷ b) i n = none_reported b i n

  -- a number is reported if it is the line's and the line is, or it is among the other lines'
  pub among_reported : (l : Line C) (b : Book C) (h : History S) (i n : ℕ) → among n (numbers_reported hears (l ∷ b) h i) ≡ ((reported hears h l i && eqb l.number n) || among n (numbers_reported hears b h i))
  among_reported l b h i n = go (reported hears h l i)
    where
      go : (t : Bool) → among n (elim t [ true ↦ l.number ∷ numbers_reported hears b h i | false ↦ numbers_reported hears b h i ]) ≡ ((t && eqb l.number n) || among n (numbers_reported hears b h i))
      go true = refl
      go false = refl
