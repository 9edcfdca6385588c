-- Lemmas on the binary digits of a word.
use Rattle.std.proofs.Common.{◌≡◌, ℕ, zero, suc, ◌+◌, ◌-◌, ◌*◌, ◌/◌, ◌%◌, ◌^◌, ◌<◌, ◌≤◌, Bool, true, false, not, ◌&&◌, ◌||◌, eqb, refl, inl, inr, arith}
use Rattle.std.specs.Int.{w64}
use lib.Bits.{bit_and, bit_or, or_step}
use lib.Count.{count_trailing_zeros}
use lib.Dec.{eqb-suc-zero, eqb-suc-suc}
use Rattle.std.proofs.Math.Bool.{or-false}
use Rattle.std.proofs.lemmas.Nat.Bits.{bit_at_lowest, bit_at-suc, bit_at-zero, shr_and_one, bit_at_and, bit_at_or, bit_at_set_same, bit_at_set_other, bit_at-lt, same_from_bits_below, bit_at_above, bit_at_cat_low}
use Rattle.std.proofs.lemmas.Bool.{cases_eq, eq-eqb, ne_eqb}
use Rattle.std.proofs.lemmas.Bool.Decides.{nat_tests}
use Rattle.columns.specs.Bits.{digit}

-- The lowest digit, and the others.
pub digit_low : (w : ℕ) → digit w 0 ≡ eqb (w % 2) 1
unfolding digit
digit_low w = rw (bit_at_lowest w)

pub digit_up : (w j : ℕ) → digit w (suc j) ≡ digit (w / 2) j
unfolding digit
digit_up w j = rw (bit_at-suc w j)

-- No digit is set in 0, nor past a word's width.
pub digit-zero : (j : ℕ) → digit 0 j ≡ false
unfolding digit
digit-zero j = rw (bit_at-zero j)

digit_past : (w n j : ℕ) → w < 2 ^ n → n ≤ j → digit w j ≡ false
unfolding digit
digit_past w n j lt le = rw (bit_at_above w n j lt le)

-- The digits of `a & b` and of `a | b`.
pub digit_and : (a b j : ℕ) → digit (bit_and a b) j ≡ (digit a j && digit b j)
unfolding digit
digit_and a b j =
    let p = bit_at-lt a j in
    let q = bit_at-lt b j in
    rw (bit_at_and a b j) (grind (arith, nat_tests))

pub digit_or : (a b j : ℕ) → digit (bit_or a b) j ≡ (digit a j || digit b j)
unfolding digit
digit_or a b j =
    let p = bit_at-lt a j in
    let q = bit_at-lt b j in
    rw (bit_at_or a b j) (grind (arith, nat_tests))

-- A word with one digit more, and the test of a digit.
pub digit_with : (w i j : ℕ) → i < 64 → digit (bit_or w (1 * 2 ^ i % 2 ^ 64)) j ≡ (eqb j i || digit w j)
unfolding digit
digit_with w i j h =
    elim (cases_eq j i) [
      | inl e ↦ rw (e, bit_at_set_same w64 w i h, eq-eqb i i refl)
      | inr e ↦ rw (bit_at_set_other w64 w i h j e, ne_eqb j i e)
    ]

pub digit_test : (w j : ℕ) → eqb (bit_and (w / 2 ^ j) 1) 1 ≡ digit w j
unfolding digit
digit_test w j = rw (shr_and_one w j)

-- Words with the same digits are equal.
pub same_digits : (n w v : ℕ) → w < 2 ^ n → v < 2 ^ n → ((j : ℕ) → j < n → digit w j ≡ digit v j) → w ≡ v
unfolding digit
same_digits n w v hw hv same =
    same_from_bits_below n w v hw hv
    (λ j h. let s = same j h in let p = bit_at-lt w j in let q = bit_at-lt v j in grind (arith, nat_tests))

-- A word moved up by one digit, with a digit carried in.
abbrev pub moved : ℕ → ℕ → ℕ
moved w carry = bit_or (w * 2 % 2 ^ 64) carry

pub moved_low : (w carry : ℕ) → carry < 2 → digit (moved w carry) 0 ≡ eqb carry 1
moved_low w carry h =
    let e : moved w carry % 2 ≡ carry = omega (arith, or_step (w * 2 % 2 ^ 64) carry) in
    rw (digit_low (moved w carry), e)

pub moved_up : (w carry j : ℕ) → carry < 2 → j < 63 → digit (moved w carry) (suc j) ≡ digit w j
unfolding digit
moved_up w carry j h lt =
    let cut : w * 2 / 2 ^ 64 * 2 ^ 64 + w * 2 % 2 ^ 64 ≡ w * 2 = omega arith in
    let low = bit_at_cat_low (w * 2 / 2 ^ 64) 64 (w * 2 % 2 ^ 64) (suc j) (omega arith) in
    let half : w * 2 / 2 ≡ w = omega arith in
    rw (digit_or (w * 2 % 2 ^ 64) carry (suc j), digit_past carry 1 (suc j) h (omega arith), ← low, cut, bit_at-suc (w * 2) j, half) (or-false _)

-- The digit carried out.
pub carry_out : (w : ℕ) → w < 2 ^ 64 → eqb (w / 2 ^ 63) 1 ≡ digit w 63
unfolding digit
carry_out w h = let e : w / 2 ^ 63 % 2 ≡ w / 2 ^ 63 = omega arith in rw e

-- The lowest digit that is set goes in `w & (w - 1)`.
twice : (b : Bool) → (b && b) ≡ (b && true)
twice true = refl
twice false = refl

pub lowest_off : (n w j : ℕ) → count_trailing_zeros n w < n → (digit w j && digit (w - 1) j) ≡ (digit w j && not (eqb j (count_trailing_zeros n w)))
unfolding count_trailing_zeros
lowest_off zero w j h = absurd (omega arith)
lowest_off (suc n) w zero h =
    elim (cases_eq (w % 2) 0) [
      | inl p ↦ rw (digit_low w, p)
      | inr p ↦
          let o : w % 2 ≡ 1 = omega arith in
          let z : (w - 1) % 2 ≡ 0 = omega arith in
          rw (digit_low w, digit_low (w - 1), o, z)
    ]
lowest_off (suc n) w (suc j) h =
    elim (cases_eq (w % 2) 0) [
      | inl p ↦
          let e : (w - 1) / 2 ≡ w / 2 - 1 = omega arith in
          rw (p, digit_up w j, digit_up (w - 1) j, e, eqb-suc-suc j (count_trailing_zeros n (w / 2)))
          (lowest_off n (w / 2) j (omega (arith, rw p at h)))
      | inr p ↦
          let o : w % 2 ≡ 1 = omega arith in
          let e : (w - 1) / 2 ≡ w / 2 = omega arith in
          rw (o, digit_up w j, digit_up (w - 1) j, e, eqb-suc-zero j) (twice (digit (w / 2) j))
    ]
