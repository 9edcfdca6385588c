-- Lemmas on how many numbers pass a test.
use Rattle.std.proofs.Common.{◌≡◌, ℕ, zero, suc, ◌+◌, ◌*◌, ◌/◌, ◌%◌, ◌^◌, ◌<◌, ◌≤◌, Bool, true, false, cond, length, get_or, take, sym, refl, ap, ◌∙◌, add-zero, add_assoc, add-suc, arith}
use native.Mathlib.Nat.{pow-succ'}
use lib.Count.{ones, ones_step, ones-le}
use Rattle.std.specs.List.{sum_by}
use Rattle.std.proofs.lemmas.List.{take_all}
use Rattle.std.proofs.lemmas.List.Sums.{sum_by_more}
use Rattle.std.proofs.lemmas.Bool.Decides.{nat_tests}
use Rattle.columns.specs.declared.bits.Bits.{Bits}
use Rattle.columns.specs.Bits.{digit, bit}
use Rattle.columns.specs.Passing.{how_many}
use Rattle.columns.proofs.Digits.{digit_low, digit_up}
use Rattle.columns.proofs.Places.{bit_below, word_bit}

pub how_many-le : (p : ℕ → Bool) (n : ℕ) → how_many p n ≤ n
unfolding how_many
how_many-le p zero = omega arith
how_many-le p (suc n) =
    elim (p n) as (λ b. cond b 1 0 + how_many p n ≤ suc n) [ true ↦ omega (arith, how_many-le p n) | false ↦ omega (arith, how_many-le p n) ]

-- Tests that agree below n have as many.
pub how_many_same : (p q : ℕ → Bool) (n : ℕ) → ((k : ℕ) → k < n → p k ≡ q k) → how_many p n ≡ how_many q n
unfolding how_many
how_many_same p q zero same = refl
how_many_same p q (suc n) same = let e = same n (omega arith) in rw (e, how_many_same p q n (λ k h. same k (omega arith)))

pub how_many_none : (p : ℕ → Bool) (n : ℕ) → ((k : ℕ) → k < n → p k ≡ false) → how_many p n ≡ 0
unfolding how_many
how_many_none p zero none = refl
how_many_none p (suc n) none = let e = none n (omega arith) in rw (e, how_many_none p n (λ k h. none k (omega arith)))

-- The numbers below n, and those from n on.
pub how_many-add : (p : ℕ → Bool) (n m : ℕ) → how_many p (n + m) ≡ how_many p n + how_many (λ k. p (n + k)) m
unfolding how_many
how_many-add p n zero = rw (add-zero n, add-zero (how_many p n))
how_many-add p n (suc m) = rw (add-suc n m, how_many-add p n m) (omega arith)

-- The digits that are set.
how_many_low : (w n : ℕ) → how_many (digit w) (suc n) ≡ w % 2 + how_many (digit (w / 2)) n
unfolding how_many
how_many_low w zero = rw (digit_low w) (grind (arith, nat_tests))
how_many_low w (suc n) = let e = how_many_low w n in rw (digit_up w n) (omega (arith, e))

pub how_many_digits : (n w : ℕ) → w < 2 ^ n → how_many (digit w) n ≡ ones w
unfolding how_many
how_many_digits zero w h = omega (arith, ones-le 0 w h)
how_many_digits (suc n) w h =
    let p = pow-succ' 2 n in
    how_many_low w n ∙ ap (λ (x : ℕ). w % 2 + x) (how_many_digits n (w / 2) (omega (arith, p))) ∙ sym (ones_step w)

-- The bits are those of each word.
module _ {first n : ℕ} (b : Bits first n) (long : length b.words ≡ n) (fits : (i : ℕ) → get_or b.words i 0 < 2 ^ 64) where
  word_more : (i : ℕ) → i < n → how_many (bit b) (first + 64 * (i + 1)) ≡ how_many (bit b) (first + 64 * i) + ones (get_or b.words i 0)
  word_more i h =
      let e : first + 64 * (i + 1) ≡ first + 64 * i + 64 = omega arith in
      let same : (j : ℕ) → j < 64 → bit b (first + 64 * i + j) ≡ digit (get_or b.words i 0) j = λ j lt. rw (add_assoc first (64 * i) j) (word_bit b i j h lt) in
      rw (e, how_many-add (bit b) (first + 64 * i) 64, how_many_same (λ j. bit b (first + 64 * i + j)) (digit (get_or b.words i 0)) 64 same, how_many_digits 64 (get_or b.words i 0) (fits i))

  words_below : (i : ℕ) → i ≤ n → how_many (bit b) (first + 64 * i) ≡ sum_by ones (take i b.words)
  words_below zero h = how_many_none (bit b) (first + 64 * 0) (λ k lt. bit_below b k (omega arith))
  words_below (suc i) h =
      let m = word_more i (omega arith) in
      let s = sum_by_more ones b.words i 0 (omega (arith, long)) in
      let p = words_below i (omega arith) in
      let e : suc i ≡ i + 1 = omega arith in
      rw e (omega (arith, m, s, p))

  pub how_many-words : how_many (bit b) (first + 64 * n) ≡ sum_by ones b.words
  how_many-words = let all = take_all n b.words (omega (arith, long)) in words_below n (omega arith) ∙ ap (sum_by ones) all
