-- Decimals written and read back.
use Rattle.std.proofs.Common.{◌≡◌, ℕ, zero, suc, ◌+◌, ◌-◌, ◌^◌, ◌<◌, ◌≤◌, true, List, [], ◌∷◌, ◌++◌, length, get_or, drop, replicate, ℤ, pos, negsuc, Some, decimal, refl, ap, ◌∙◌, inl, inr, one-add, arith, rules}
use lib.Signed.{mag}
use Rattle.std.proofs.lemmas.Fmt.{digits_decimal, digits_value-decimal, decimal_digit, decimal_nonempty, first_decimal}
use Rattle.std.proofs.lemmas.List.{drop_at, length-replicate, length-append}
use Rattle.std.proofs.lemmas.Str.Parse.{IsNumeralModel, numerals_by_fold}
use Rattle.std.proofs.lemmas.Bool.{cases_lt, cond-true, cond-false, ne_eqb}
use Rattle.std.proofs.lemmas.Bool.Decides.{nat_tests}
use Rattle.std.specs.Fmt.{signed_decimal}
use Rattle.std.specs.List.{list_all}
use Rattle.page.specs.Bytes.{is_digit, blanks, behind_blanks}
use Rattle.page.specs.Decimals.{begins_well, is_whole, value_after, whole_of, below_zero, not_below, signed_of, decimal_in, points_in}
use Rattle.page.specs.Writing.{right}

own : IsNumeralModel (λ ds. list_all is_digit ds ≡ true) (value_after 0)
unfolding value_after
own = numerals_by_fold _ (search rules) value_after (search rules)

-- the first byte of a decimal is a digit, and no 0 unless it stands alone
decimal_begins : (n : ℕ) → n < 2 ^ 64 → begins_well (decimal n) ≡ true
decimal_begins n h =
    elim (cases_lt n 10) [
      | inl l ↦ let e = ap length (decimal_digit n l) in grind (arith, nat_tests)
      | inr l ↦ let f = first_decimal n (omega arith) h in let s = decimal_nonempty n h in grind (arith, nat_tests)
    ]

pub whole_decimal : (n : ℕ) → n < 2 ^ 64 → whole_of (decimal n) ≡ Some n
unfolding whole_of
whole_decimal n h =
    let b = decimal_begins n h in
    let d = digits_decimal own n h in
    let t : is_whole (decimal n) ≡ true = grind (arith, nat_tests) in
    cond-true _ _ _ t ∙ ap Some (digits_value-decimal own n h)

-- no blanks stand before a text that begins with none
pub blanks_before : (k : ℕ) (text : List ℕ) → blanks text ≡ 0 → blanks (replicate k 32 ++ text) ≡ k
blanks_before zero text e = e
blanks_before (suc k) text e = ap (λ n. 1 + n) (blanks_before k text e) ∙ one-add k

pub behind_right : (width : ℕ) (text : List ℕ) → blanks text ≡ 0 → behind_blanks (right width text) ≡ text
behind_right width text e =
    let k = width - length text in
    ap (λ n. drop n (right width text)) (blanks_before k text e) ∙ drop_at (replicate k 32) text k (length-replicate k 32)

-- no blank stands first where the first byte is none
no_blank : (text : List ℕ) → (get_or text 0 0 ≡ 32 → ⊥) → blanks text ≡ 0
no_blank [] h = refl
no_blank (b ∷ bs) h = cond-false _ _ _ (ne_eqb b 32 h)

-- the first byte of a decimal is a digit
first_digit : (n : ℕ) → n < 2 ^ 64 → 48 ≤ get_or (decimal n) 0 0
first_digit n h =
    elim (cases_lt n 10) [
      | inl l ↦ let e : get_or (decimal n) 0 0 ≡ 48 + n = ap (λ (t : List ℕ). get_or t 0 0) (decimal_digit n l) in omega arith
      | inr l ↦ let f = first_decimal n (omega arith) h in omega arith
    ]

-- a decimal in its field is read as its number
pub decimal_back : (width n : ℕ) → n < 2 ^ 64 → decimal_in (right width (decimal n)) ≡ Some n
unfolding decimal_in
decimal_back width n h =
    let f = first_digit n h in
    ap whole_of (behind_right width (decimal n) (no_blank (decimal n) (λ e. omega arith))) ∙ whole_decimal n h

signed_not_blank : (z : ℤ) → mag z < 2 ^ 63 → blanks (signed_decimal z) ≡ 0
signed_not_blank (pos n) h = let f = first_digit n (omega arith) in no_blank (decimal n) (λ e. omega arith)
signed_not_blank (negsuc n) h = refl

signed_back : (z : ℤ) → mag z < 2 ^ 63 → signed_of (signed_decimal z) ≡ Some z
signed_back (pos n) h =
    let f = first_digit n (omega arith) in
    cond-false _ _ _ (ne_eqb (get_or (decimal n) 0 0) 45 (λ e. omega arith)) ∙ ap not_below (whole_decimal n (omega arith))
signed_back (negsuc n) h = ap below_zero (whole_decimal (suc n) (omega arith))

-- and the points as theirs
pub points_back : (width : ℕ) (z : ℤ) → mag z < 2 ^ 63 → points_in (right width (signed_decimal z)) ≡ Some z
unfolding points_in
points_back width z h = ap signed_of (behind_right width (signed_decimal z) (signed_not_blank z h)) ∙ signed_back z h

pub length-right : (width : ℕ) (text : List ℕ) → length text ≤ width → length (right width text) ≡ width
length-right width text h = simp (length-append, length-replicate) (omega arith)

pub decimal_digits : (n : ℕ) → n < 2 ^ 64 → list_all is_digit (decimal n) ≡ true
decimal_digits n h = digits_decimal own n h
