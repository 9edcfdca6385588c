-- Tests and sums over a book and its parts.
use Rattle.std.proofs.Common.{◌≡◌, ℕ, ◌+◌, ◌≤◌, Bool, true, false, cond, not, ◌||◌, eqb, ltb, List, [], ◌∷◌, ◌++◌, map, ℤ, pos, ◌+ℤ◌, sum_by, count_by, sym, refl, ap, ◌∙◌, ⊎_elim, arith}
use borrow.Author.Differences.{up, down, sum_is_lem}
use Rattle.std.specs.List.{list_any}
use Rattle.std.specs.List.Sorted.{IsPermutation}
use Rattle.std.proofs.lemmas.List.Folds.{list_any-append}
use Rattle.std.proofs.lemmas.Int.{ints}
use Rattle.std.proofs.lemmas.List.Sorted.{sum_by-IsPermutation, list_any-IsPermutation}
use Rattle.std.proofs.lemmas.List.Sums.{sum_by-cons, sum_by-append}
use Rattle.std.proofs.lemmas.Bool.{and_parts, not-true, eqb-true, lt-ltb, ltb-true, ltb-false, cases_Bool}
use Rattle.book.specs.Book.{Line, Book, has_number}
use Rattle.book.specs.Layout.{distinct}

-- the sum of what a function gives of some elements
abbrev pub sumℤ : {X : Type 0} → (X → ℤ) → List X → ℤ
sumℤ f [] = pos 0
sumℤ f (x ∷ xs) = f x +ℤ sumℤ f xs

-- a test that passes counts one
abbrev one : Bool → ℕ
one t = cond t 1 0

module _ {X : Type 0} where
  any_counted : (p : X → Bool) (xs : List X) → list_any p xs ≡ ltb 0 (count_by p xs)
  any_counted p [] = refl
  any_counted p (x ∷ xs) =
      let e = sum_by-cons (λ y. cond (p y) 1 0) x xs in
      ⊎_elim
      (λ yes. ap (λ t. t || list_any p xs) yes ∙ sym (lt-ltb 0 _ (let k : one (p x) ≡ 1 = ap one yes in omega (arith, e, k))))
      (λ n. ap (λ t. t || list_any p xs) n ∙ any_counted p xs ∙ ap (ltb 0) (let k : one (p x) ≡ 0 = ap one n in let z : count_by p xs ≡ count_by p (x ∷ xs) = omega (arith, e, k) in z))
      (cases_Bool (p x))

  -- an element of the whole passes exactly when one of either part does
  pub any_parted : (p : X → Bool) (xs ys zs : List X) → IsPermutation (xs ++ ys) zs → list_any p zs ≡ (list_any p xs || list_any p ys)
  any_parted p xs ys zs s = sym (list_any-IsPermutation p (xs ++ ys) zs s) ∙ list_any-append p xs ys

  split : (f : X → ℤ) (xs : List X) → up (sumℤ f xs) + sum_by (λ x. down (f x)) xs ≡ down (sumℤ f xs) + sum_by (λ x. up (f x)) xs
  split f [] = refl
  split f (x ∷ xs) =
      let r = split f xs in
      let d = sum_by-cons (λ y. down (f y)) x xs in
      let u = sum_by-cons (λ y. up (f y)) x xs in
      omega (arith, ints, r, d, u, sum_is_lem (f x) (sumℤ f xs))

  -- the sum over the whole is the first part's plus the second's
  pub sum_parted : (f : X → ℤ) (xs ys zs : List X) → IsPermutation (xs ++ ys) zs → sumℤ f zs ≡ sumℤ f xs +ℤ sumℤ f ys
  sum_parted f xs ys zs s =
      let d = sum_by-IsPermutation (λ x. down (f x)) (xs ++ ys) zs s ∙ sum_by-append (λ x. down (f x)) xs ys in
      let u = sum_by-IsPermutation (λ x. up (f x)) (xs ++ ys) zs s ∙ sum_by-append (λ x. up (f x)) xs ys in
      let a = split f xs in
      let b = split f ys in
      let c = split f zs in
      omega (arith, ints, d, u, a, b, c)

module _ {C : Type 0} where
  pub has_any : (n : ℕ) (b : Book C) → has_number n b ≡ list_any (λ l. eqb l.number n) b
  has_any n [] = refl
  has_any n (l ∷ b) = ap (λ t. eqb l.number n || t) (has_any n b)

  -- a number that is distinct stands once
  once : (n : ℕ) (b : Book C) → distinct (map (λ l. l.number) b) ≡ true → count_by (λ l. eqb l.number n) b ≤ 1
  once n [] d = omega arith
  once n (l ∷ b) d =
      let p = and_parts (not (has_number l.number b)) _ d in
      let e = sum_by-cons (λ (y : Line C). cond (eqb y.number n) 1 0) l b in
      ⊎_elim
      (λ yes.
      let k : one (eqb l.number n) ≡ 1 = ap one yes in
      let none : ltb 0 (count_by (λ x. eqb x.number n) b) ≡ false = sym (any_counted (λ x. eqb x.number n) b) ∙ sym (has_any n b) ∙ ap (λ m. has_number m b) (sym (eqb-true l.number n yes)) ∙ not-true _ p.0 in
      let z = ltb-false 0 _ none in
      omega (arith, e, k, z))
      (λ no.
      let k : one (eqb l.number n) ≡ 0 = ap one no in
      let r = once n b p.1 in
      omega (arith, e, k, r))
      (cases_Bool (eqb l.number n))

  -- no number stands in both parts
  pub apart : (n : ℕ) (whole one two : Book C) → IsPermutation (one ++ two) whole → distinct (map (λ l. l.number) whole) ≡ true → has_number n one ≡ true → has_number n two ≡ false
  apart n whole one two s d h =
      ⊎_elim
      (λ both.
      let p : Line C → Bool = λ l. eqb l.number n in
      let f : Line C → ℕ = λ l. cond (p l) 1 0 in
      let c = sum_by-IsPermutation f (one ++ two) whole s ∙ sum_by-append f one two in
      let a = ltb-true 0 _ (sym (any_counted p one) ∙ sym (has_any n one) ∙ h) in
      let b = ltb-true 0 _ (sym (any_counted p two) ∙ sym (has_any n two) ∙ both) in
      let o = once n whole d in
      absurd (let z : ⊥ = omega (arith, c, a, b, o) in z))
      (λ no. no)
      (cases_Bool (has_number n two))
