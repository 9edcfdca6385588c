-- Lists cut into parts, and parts that lie one after another.
use Rattle.std.proofs.Common.{◌≡◌, ℕ, suc, ◌+◌, ◌≤◌, true, eqb, List, [], ◌∷◌, ◌++◌, map, length, take, drop, sym, refl, ap, ◌∙◌, arith, take-add}
use Rattle.std.specs.List.{flat_map, sum_by}
use Rattle.std.proofs.lemmas.List.Sums.{sum_by-cons}
use Rattle.std.proofs.lemmas.List.Edits.{paste_all}
use Rattle.std.proofs.lemmas.List.{take-append-le, length-take-le, length-drop, take-take, take_at, drop_at, drop-take, drop-drop}
use Rattle.std.proofs.lemmas.Bool.{and_parts, and_from, eqb-true, eq-eqb}
use Rattle.book.specs.Cutting.{total, cut, filled}
use Rattle.book.specs.Layout.{laid}

pub total_is_sum : (ns : List ℕ) → sum_by (λ n. n) ns ≡ total ns
total_is_sum [] = refl
total_is_sum (n ∷ ns) = sum_by-cons (λ m. m) n ns ∙ ap (λ t. n + t) (total_is_sum ns)

pub total-append : (ms ns : List ℕ) → total (ms ++ ns) ≡ total ms + total ns
total-append [] ns = omega arith
total-append (m ∷ ms) ns = omega (arith, total-append ms ns)

module _ {X : Type 0} (first size : X → ℕ) where
  pub laid_parts : (x : X) (xs : List X) (from to : ℕ) → laid first size (x ∷ xs) from to ≡ true → (first x ≡ from) × (laid first size xs (from + size x) to ≡ true)
  laid_parts x xs from to h = let p = and_parts (eqb (first x) from) _ h in (eqb-true (first x) from p.0, p.1)

  pub laid_total : (xs : List X) (from to : ℕ) → laid first size xs from to ≡ true → from + total (map size xs) ≡ to
  laid_total [] from to h = let e = eqb-true from to h in omega arith
  laid_total (x ∷ xs) from to h = let r = laid_total xs (from + size x) to (laid_parts x xs from to h).1 in omega arith

  pub laid-append : (xs ys : List X) (from mid to : ℕ) → laid first size xs from mid ≡ true → laid first size ys mid to ≡ true → laid first size (xs ++ ys) from to ≡ true
  laid-append [] ys from mid to h k = let e = eqb-true from mid h in ap (λ n. laid first size ys n to) e ∙ k
  laid-append (x ∷ xs) ys from mid to h k =
      let p = laid_parts x xs from mid h in
      and_from _ _ (eq-eqb (first x) from p.0) (laid-append xs ys (from + size x) mid to p.1 k)

module _ {X : Type 0} where
  pub length_cut : (ns : List ℕ) (xs : List X) → length (cut ns xs) ≡ length ns
  length_cut [] xs = refl
  length_cut (n ∷ ns) xs = ap suc (length_cut ns (drop n xs))

  pub cut-append : (ms ns : List ℕ) (xs : List X) → cut (ms ++ ns) xs ≡ cut ms xs ++ cut ns (drop (total ms) xs)
  cut-append [] ns xs = refl
  cut-append (m ∷ ms) ns xs = ap (λ ps. take m xs ∷ ps) (cut-append ms ns (drop m xs) ∙ ap (λ ys. cut ms (drop m xs) ++ cut ns ys) (drop-drop (total ms) m xs))

  -- a cut looks no further than the lengths' sum
  pub cut-take : (ns : List ℕ) (xs : List X) → cut ns (take (total ns) xs) ≡ cut ns xs
  cut-take [] xs = refl
  cut-take (n ∷ ns) xs =
      let a = take-take n (n + total ns) xs (omega arith) in
      let b = ap (cut ns) (drop-take n (total ns) xs) ∙ cut-take ns (drop n xs) in
      cc

  pub cut_same : (ns : List ℕ) (n : ℕ) (xs ys : List X) → total ns ≤ n → take n xs ≡ take n ys → cut ns xs ≡ cut ns ys
  cut_same ns n xs ys h e =
      let a = sym (take-take (total ns) n xs h) ∙ ap (take (total ns)) e ∙ take-take (total ns) n ys h in
      sym (cut-take ns xs) ∙ ap (cut ns) a ∙ cut-take ns ys

  -- the parts make up the list again
  pub joined-cut : (ns : List ℕ) (xs : List X) → flat_map (λ p. p) (cut ns xs) ≡ take (total ns) xs
  joined-cut [] xs = refl
  joined-cut (n ∷ ns) xs = ap (λ ys. take n xs ++ ys) (joined-cut ns (drop n xs)) ∙ sym (take-add n (total ns) xs)

  pub lengths-cut : (ns : List ℕ) (xs : List X) → total ns ≤ length xs → map length (cut ns xs) ≡ ns
  lengths-cut [] xs h = refl
  lengths-cut (n ∷ ns) xs h =
      let a = length-take-le n xs (omega arith) in
      let k : total ns ≤ length (drop n xs) = simp length-drop (omega arith) in
      let b = lengths-cut ns (drop n xs) k in
      cc

  -- what stands before and from the filled places on
  pub take-filled : (m xs : List X) (at : ℕ) → at ≤ length m → take at (filled m at xs) ≡ take at m
  take-filled m xs at h = ap (take at) (paste_all m at xs (length xs) refl) ∙ take_at (take at m) _ at (length-take-le at m h)

  pub cut-filled : (ns : List ℕ) (m xs : List X) (at : ℕ) → at ≤ length m → total ns ≡ length xs → cut ns (drop at (filled m at xs)) ≡ cut ns xs
  cut-filled ns m xs at h e =
      let rest : List X = drop (at + length xs) m in
      ap (λ ys. cut ns (drop at ys)) (paste_all m at xs (length xs) refl)
      ∙ ap (cut ns) (drop_at (take at m) (xs ++ rest) at (length-take-le at m h))
      ∙ cut_same ns (length xs) (xs ++ rest) xs (omega arith) (take-append-le (length xs) xs rest (omega arith))
