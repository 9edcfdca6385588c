-- Distinct numbers from 1 to n are at most n.
use Rattle.std.proofs.Common.{◌≡◌, ℕ, suc, ◌≤◌, ◌<◌, true, false, not, ◌||◌, eqb, leb, List, [], ◌∷◌, ◌++◌, length, sym, refl, ap, ◌∙◌, ⊎_elim, arith}
use Rattle.std.specs.List.{list_all, list_any, AllByRecursion, IsDistinct}
use Rattle.std.proofs.lemmas.Bool.{and_parts, and_from, or_parts, or_from, eqb-true, eqb-false, ne_eqb, leb-true, cases_Bool, not-true, not_from_false}
use Rattle.std.proofs.lemmas.Map.Steps.{length-le_from_distinct_below}
use Rattle.book.specs.Book.{among}
use Rattle.book.specs.Layout.{distinct}
use Rattle.book.specs.Rules.{within}
use Rattle.book.proofs.Amongs.{among_push}

other : (a b : ℕ) → eqb a b ≡ false → eqb b a ≡ false
other a b e = ne_eqb b a (λ s. eqb-false a b e (sym s))

apart_from : (n : ℕ) (ms : List ℕ) → among n ms ≡ false → AllByRecursion (λ m. eqb n m ≡ false) ms
apart_from n [] h = tt
apart_from n (m ∷ ms) h = let p = or_parts (eqb m n) _ h in (other m n p.0, apart_from n ms p.1)

all_apart : (ms : List ℕ) → distinct ms ≡ true → IsDistinct eqb ms
unfolding IsDistinct
all_apart [] h = tt
all_apart (m ∷ ms) h = let p = and_parts (not (among m ms)) _ h in (apart_from m ms (not-true _ p.0), all_apart ms p.1)

no_zero : (n : ℕ) (ms : List ℕ) → list_all (within 1 n) ms ≡ true → AllByRecursion (λ m. eqb 0 m ≡ false) ms
no_zero n [] h = tt
no_zero n (m ∷ ms) h =
    let p = and_parts (within 1 n m) _ h in
    let some = leb-true 1 m (and_parts (leb 1 m) _ p.0).0 in
    (ne_eqb 0 m (λ s. omega (arith, s)), no_zero n ms p.1)

inside : (q n : ℕ) (ms : List ℕ) → list_all (within 1 n) ms ≡ true → list_any (eqb q) ms ≡ true → q ≤ n
inside q n [] h k = absurd (let z : false ≡ true = k in cc)
inside q n (m ∷ ms) h k =
    let p = and_parts (within 1 n m) _ h in
    let top = leb-true m n (and_parts (leb 1 m) _ p.0).1 in
    ⊎_elim
    (λ y. let e = eqb-true q m y in omega arith)
    (λ z. inside q n ms p.1 (sym (ap (λ b. b || list_any (eqb q) ms) z) ∙ k))
    (cases_Bool (eqb q m))

-- with 0 before them they are distinct numbers below n + 1
pub few : (n : ℕ) (ms : List ℕ) → distinct ms ≡ true → list_all (within 1 n) ms ≡ true → length ms ≤ n
unfolding IsDistinct
few n ms h k =
    let below : (q : ℕ) → list_any (eqb q) (0 ∷ ms) ≡ true → q < suc n = λ q e.
    ⊎_elim
    (λ y. let z = eqb-true q 0 y in omega arith)
    (λ z. let i = inside q n ms k (sym (ap (λ b. b || list_any (eqb q) ms) z) ∙ e) in omega arith)
    (cases_Bool (eqb q 0)) in
    let l = length-le_from_distinct_below (0 ∷ ms) (suc n) (no_zero n ms k, all_apart ms h) below in
    omega arith

pub distinct_push : (ns : List ℕ) (n : ℕ) → distinct ns ≡ true → among n ns ≡ false → distinct (ns ++ n ∷ []) ≡ true
distinct_push [] n h k = refl
distinct_push (m ∷ ns) n h k =
    let p = and_parts (not (among m ns)) _ h in
    let q = or_parts (eqb m n) _ k in
    and_from _ _ (not_from_false _ (among_push m ns n ∙ or_from _ _ (other m n q.0) (not-true _ p.0))) (distinct_push ns n p.1 q.1)
