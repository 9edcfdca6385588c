-- The rows of keywords that are laid one after another.
use Rattle.std.proofs.Common.{◌≡◌, ℕ, zero, suc, ◌+◌, ◌<◌, ◌≤◌, true, List, [], ◌∷◌, map, length, get_or, take, refl, ap, add_assoc, arith}
use Rattle.std.specs.List.{list_all}
use Rattle.std.proofs.lemmas.List.{take_more}
use Rattle.std.proofs.lemmas.Bool.{and_parts, and_from, eq-eqb}
use Rattle.book.specs.Cutting.{total}
use Rattle.book.specs.Layout.{keywords_laid, opens, keyword_ok}
use Rattle.book.specs.Rows.{keyword_rows_from}
use Rattle.book.specs.Rules.{length_ok, gap_ok}
use Rattle.book.proofs.Cuts.{total-append}

pub total_more : (ns : List ℕ) (i : ℕ) → i < length ns → total (take (i + 1) ns) ≡ total (take i ns) + get_or ns i 0
total_more ns i h = omega (arith, ap total (take_more ns i 0 h), total-append (take i ns) (get_or ns i 0 ∷ []))

pub total-take : (i : ℕ) (ns : List ℕ) → total (take i ns) ≤ total ns
total-take zero ns = omega arith
total-take (suc i) [] = omega arith
total-take (suc i) (n ∷ ns) = let r = total-take i ns in omega arith

pub rows-length : (p : ℕ) (gs ns : List ℕ) → length (keyword_rows_from p gs ns) ≡ length ns
rows-length p gs [] = refl
rows-length p [] (n ∷ ns) = ap suc (rows-length (p + n) [] ns)
rows-length p (g ∷ gs) (n ∷ ns) = ap suc (rows-length (p + n) gs ns)

pub rows_lengths : (p : ℕ) (gs ns : List ℕ) → map (λ k. k.length) (keyword_rows_from p gs ns) ≡ ns
rows_lengths p gs [] = refl
rows_lengths p [] (n ∷ ns) = ap (λ xs. n ∷ xs) (rows_lengths (p + n) [] ns)
rows_lengths p (g ∷ gs) (n ∷ ns) = ap (λ xs. n ∷ xs) (rows_lengths (p + n) gs ns)

pub rows_gaps : (p : ℕ) (gs ns : List ℕ) → length gs ≡ length ns → map (λ k. k.gap) (keyword_rows_from p gs ns) ≡ gs
rows_gaps p [] [] e = refl
rows_gaps p [] (n ∷ ns) e = absurd (omega arith)
rows_gaps p (g ∷ gs) [] e = absurd (omega arith)
rows_gaps p (g ∷ gs) (n ∷ ns) e = ap (λ xs. g ∷ xs) (rows_gaps (p + n) gs ns (omega arith))

pub rows_laid : (p : ℕ) (gs ns : List ℕ) → keywords_laid (keyword_rows_from p gs ns) p (p + total ns) ≡ true
rows_laid p gs [] = eq-eqb p (p + 0) (omega arith)
rows_laid p [] (n ∷ ns) = and_from _ _ (eq-eqb p p refl) (rw (add_assoc p n (total ns)) at (rows_laid (p + n) [] ns))
rows_laid p (g ∷ gs) (n ∷ ns) = and_from _ _ (eq-eqb p p refl) (rw (add_assoc p n (total ns)) at (rows_laid (p + n) gs ns))

pub rows_ok : (p : ℕ) (gs ns : List ℕ) → list_all gap_ok gs ≡ true → list_all length_ok ns ≡ true → list_all keyword_ok (keyword_rows_from p gs ns) ≡ true
rows_ok p [] [] h k = refl
rows_ok p [] (n ∷ ns) h k =
    let r = and_parts (length_ok n) _ k in
    and_from _ _ (and_from _ _ r.0 refl) (rows_ok (p + n) [] ns h r.1)
rows_ok p (g ∷ gs) [] h k = refl
rows_ok p (g ∷ gs) (n ∷ ns) h k =
    let q = and_parts (gap_ok g) _ h in
    let r = and_parts (length_ok n) _ k in
    and_from _ _ (and_from _ _ r.0 q.0) (rows_ok (p + n) gs ns q.1 r.1)

pub rows_open : (p : ℕ) (gs ns : List ℕ) (n : ℕ) → opens (take n (keyword_rows_from p (0 ∷ gs) ns)) ≡ true
rows_open p gs ns zero = refl
rows_open p gs [] (suc n) = refl
rows_open p gs (m ∷ ns) (suc n) = refl
