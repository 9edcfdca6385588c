-- Lemmas on the numbers that pass a test, in rising order.
use Rattle.std.proofs.Common.{◌≡◌, ℕ, zero, suc, ◌+◌, ◌<◌, ◌≤◌, Bool, true, false, not, ◌&&◌, eqb, [], ◌∷◌, length, refl, inl, inr, arith}
use Rattle.std.specs.List.{range_with_len, ContainsAt, AllByRecursion}
use Rattle.std.proofs.lemmas.List.FromFn.{length-range_with_len}
use Rattle.std.proofs.ByRecursion.{kept_by_passes, has_append_right}
use Rattle.std.proofs.lemmas.List.Sums.{length-filter, count_by-le-length}
use Rattle.std.proofs.lemmas.Bool.{cases_eq, cases_Bool, ne_eqb, eq-eqb}
use Rattle.std.proofs.Math.Bool.{and-true}
use Rattle.columns.specs.Passing.{passing, IsLeast}

-- Each passes, and each that passes is there.
pub passing_each : (p : ℕ → Bool) (a n : ℕ) → AllByRecursion (λ k. p k ≡ true) (passing p a n)
unfolding passing
passing_each p a n = kept_by_passes p (range_with_len a n)

pub passing_has : (p : ℕ → Bool) (a n m : ℕ) → a ≤ m → m < a + n → p m ≡ true → ContainsAt (passing p a n) m
unfolding passing
passing_has p a zero m lo hi t = absurd (omega arith)
passing_has p a (suc n) m lo hi t =
    let rest = passing p (a + 1) n in
    elim (cases_eq a m) [
      | inl e ↦ rw (e, t) (0, omega arith, λ d. refl)
      | inr e ↦
          let h = passing_has p (a + 1) n m (omega arith) (omega arith) t in
          elim (cases_Bool (p a)) [ inl y ↦ rw y (has_append_right (a ∷ []) rest m h) | inr y ↦ rw y h ]
    ]

-- There are no more than numbers to test, and tests that agree give the same.
pub length-passing : (p : ℕ → Bool) (a n : ℕ) → length (passing p a n) ≤ n
unfolding passing
length-passing p a n =
    omega (arith, length-filter p (range_with_len a n), count_by-le-length p (range_with_len a n), length-range_with_len a n)

pub passing_same : (p q : ℕ → Bool) (a n : ℕ) → ((k : ℕ) → p k ≡ q k) → passing p a n ≡ passing q a n
unfolding passing
passing_same p q a zero same = refl
passing_same p q a (suc n) same = rw (same a, passing_same p q (a + 1) n same)

-- None, where none passes.
pub passing_none : (p : ℕ → Bool) (a n : ℕ) → ((k : ℕ) → p k ≡ false) → passing p a n ≡ []
unfolding passing
passing_none p a zero none = refl
passing_none p a (suc n) none = rw (none a, passing_none p (a + 1) n none)

-- The least that passes comes first, and then those that pass without it.
module _ (p q : ℕ → Bool) (m : ℕ) (least : IsLeast p m) (without : (k : ℕ) → q k ≡ (p k && not (eqb k m))) where
  above : (a n : ℕ) → m < a → passing p a n ≡ passing q a n
  unfolding passing
  above a zero h = refl
  above a (suc n) h =
      let e : q a ≡ p a = rw (without a, ne_eqb a m (omega arith)) (and-true (p a)) in
      rw (e, above (a + 1) n (omega arith))

  pub passing_least : (a n : ℕ) → a ≤ m → m < a + n → passing p a n ≡ m ∷ passing q a n
  unfolding passing
  passing_least a zero lo hi = absurd (omega arith)
  passing_least a (suc n) lo hi =
      elim (cases_eq a m) [
        | inl e ↦ rw (e, least.0, without m, eq-eqb m m refl, least.0, above (m + 1) n (omega arith))
        | inr e ↦ let f = least.1 a (omega arith) in rw (without a, f) (passing_least (a + 1) n (omega arith) (omega arith))
      ]
