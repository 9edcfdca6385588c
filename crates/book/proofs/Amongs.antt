-- Numbers among others.
use Rattle.std.proofs.Common.{◌≡◌, ℕ, ◌||◌, eqb, List, [], ◌∷◌, ◌++◌, map, refl, ap, ◌∙◌, arith}
use Rattle.std.specs.List.{list_any}
use Rattle.book.specs.declared.rows.LineRow.{LineRow}
use Rattle.book.specs.Book.{among}

-- a number is among others and one more exactly when it is that one or is among the others
pub among_push : (p : ℕ) (ns : List ℕ) (n : ℕ) → among p (ns ++ n ∷ []) ≡ (eqb n p || among p ns)
among_push p [] n = refl
among_push p (m ∷ ns) n = ap (λ b. eqb m p || b) (among_push p ns n) ∙ (grind arith)

-- a number is among those of some lines exactly when one of them has it
pub any_line : (n : ℕ) (ls : List LineRow) → list_any (λ l. eqb l.number n) ls ≡ among n (map (λ l. l.number) ls)
any_line n [] = refl
any_line n (l ∷ ls) = ap (λ r. eqb l.number n || r) (any_line n ls)
