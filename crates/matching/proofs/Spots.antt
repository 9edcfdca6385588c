-- Keywords that have ended are those that are spotted.
use Rattle.std.proofs.Common.{◌≡◌, ℕ, zero, suc, ◌+◌, ◌-◌, ◌<◌, ◌≤◌, Bool, true, false, cond, leb, List, [], ◌∷◌, ◌++◌, map, reverse, length, take, refl, ap, ◌∙◌, arith}
use Rattle.std.specs.List.{AllByRecursion, list_all}
use Rattle.std.proofs.lemmas.List.{take_all, length-map, length-append}
use Rattle.std.proofs.ByRecursion.{All-append}
use Rattle.std.proofs.lemmas.Bool.{lt-ltb, le-ltb, and_parts, leb-true}
use Rattle.book.specs.Book.{Line, Book, all_keywords, all_gaps}
use Rattle.book.specs.Proper.{ProperLine}
use Rattle.book.specs.Rows.{keyword_rows, keyword_rows_from}
use Rattle.book.specs.Rules.{length_ok}
use Rattle.finders.specs.Latest.{admit_all, runs_among}
use Rattle.finders.specs.Runs.{ends_among, ends}
use Rattle.occurrences.specs.Spotting.{spotted_among}
use Rattle.occurrences.proofs.InBook.{joined-append}

pub rows_count : (p : ℕ) (gs ns : List ℕ) → length (keyword_rows_from p gs ns) ≡ length ns
rows_count p gs [] = refl
rows_count p [] (n ∷ ns) = ap suc (rows_count (p + n) [] ns)
rows_count p (g ∷ gs) (n ∷ ns) = ap suc (rows_count (p + n) gs ns)

pub all_split : {X : Type 0} (P : X → Type 0) (xs : List X) (y : X) (zs : List X) → AllByRecursion P (xs ++ y ∷ zs) → AllByRecursion P xs × P y
all_split P [] y zs h = (tt, h.0)
all_split P (x ∷ xs) y zs h = let r = all_split P xs y zs h.1 in ((h.0, r.0), r.1)

module _ {C S : Type 0} (hears : C → S → Bool) (newest : List S) where
  Some : List C → Type 0
  Some w = 1 ≤ length w

  words_some : (b : Book C) → AllByRecursion ProperLine b → AllByRecursion Some (all_keywords b)
  unfolding Some
  words_some [] q = tt
  words_some (l ∷ b) q = All-append Some l.keywords (all_keywords b) (each l.keywords q.0.lengths) (words_some b q.1)
    where
      each : (ws : List (List C)) → list_all (λ k. length_ok (length k)) ws ≡ true → AllByRecursion Some ws
      each [] h = tt
      each (w ∷ ws) h = let p = and_parts (length_ok (length w)) _ h in (leb-true 1 (length w) (and_parts (leb 1 (length w)) _ p.0).0, each ws p.1)

  module _ (stood : ℕ → Bool) where
    chosen : List C → List (List C) → ℕ → Bool → Bool
    chosen w ws j t = cond t (admit_all hears (reverse (take (j + 1) w)) newest) (runs_among hears ws newest (j - length w))

    ends_spotted : (ws : List (List C)) (gs : List ℕ) (f k : ℕ) → AllByRecursion Some ws → ((j : ℕ) → stood (f + j) ≡ runs_among hears ws newest j) → ends_among (keyword_rows_from f gs (map length ws)) stood k ≡ spotted_among hears ws newest k
    unfolding Some chosen
    ends_spotted [] gs f k q e = refl
    ends_spotted (w ∷ ws) gs f zero q e = first gs
      where
        here : stood (f + length w - 1) ≡ admit_all hears (reverse w) newest
        here =
            let some = q.0 in
            let z : f + length w - 1 ≡ f + (length w - 1) = omega arith in
            let y : length w - 1 + 1 ≡ length w = omega arith in
            ap stood z ∙ e (length w - 1) ∙ ap (chosen w ws (length w - 1)) (lt-ltb (length w - 1) (length w) (omega arith)) ∙ ap (λ k. admit_all hears (reverse (take k w)) newest) y ∙ ap (λ x. admit_all hears (reverse x) newest) (take_all (length w) w (omega arith))

        first : (gs : List ℕ) → ends_among (keyword_rows_from f gs (map length (w ∷ ws))) stood 0 ≡ admit_all hears (reverse w) newest
        first [] = here
        first (g ∷ gs) = here
    ends_spotted (w ∷ ws) [] f (suc k) q e = ends_spotted ws [] (f + length w) k q.1 (λ j. let n = length w in let z : f + n + j ≡ f + (n + j) = omega arith in let d : n + j - n ≡ j = omega arith in ap stood z ∙ e (n + j) ∙ ap (chosen w ws (n + j)) (le-ltb (n + j) n (omega arith)) ∙ ap (runs_among hears ws newest) d)
    ends_spotted (w ∷ ws) (g ∷ gs) f (suc k) q e = ends_spotted ws gs (f + length w) k q.1 (λ j. let n = length w in let z : f + n + j ≡ f + (n + j) = omega arith in let d : n + j - n ≡ j = omega arith in ap stood z ∙ e (n + j) ∙ ap (chosen w ws (n + j)) (le-ltb (n + j) n (omega arith)) ∙ ap (runs_among hears ws newest) d)

  spotted_past : (ws : List (List C)) (k : ℕ) → length ws ≤ k → spotted_among hears ws newest k ≡ false
  spotted_past [] k h = refl
  spotted_past (w ∷ ws) zero h = absurd (let z : ⊥ = omega arith in z)
  spotted_past (w ∷ ws) (suc k) h = spotted_past ws k (omega arith)

  pub past_book : (b : Book C) (k : ℕ) → length (keyword_rows b) ≤ k → spotted_among hears (all_keywords b) newest k ≡ false
  past_book b k h = spotted_past (all_keywords b) k (let n = rows_count 0 (all_gaps b) (map length (all_keywords b)) in let m = length-map (all_keywords b) length in omega (arith, n))

  -- the keywords of a book that have ended, where its runs are those of the samples
  pub spots : (b : Book C) (stood : ℕ → Bool) (k : ℕ) → AllByRecursion ProperLine b → ((p : ℕ) → stood p ≡ runs_among hears (all_keywords b) newest p) → ends b stood k ≡ spotted_among hears (all_keywords b) newest k
  spots b stood k q e = ends_spotted stood (all_keywords b) (all_gaps b) 0 k (words_some b q) (λ j. let z : 0 + j ≡ j = omega arith in ap stood z ∙ e j)

-- the number of a line's last keyword is one of the book's
pub last_below : {C : Type 0} (before : Book C) (l : Line C) (behind : Book C) → ProperLine l → length (all_keywords before) + (length l.keywords - 1) < length (all_keywords (before ++ l ∷ behind))
last_below before l behind q =
    let some = leb-true 1 _ (and_parts (leb 1 (length l.keywords)) _ q.count).0 in
    let e = ap length (joined-append (λ x. x.keywords) before (l ∷ behind)) in
    let x = length-append (all_keywords before) (l.keywords ++ all_keywords behind) in
    let y = length-append l.keywords (all_keywords behind) in
    omega arith
