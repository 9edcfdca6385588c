-- Fields read byte by byte: one byte on, and the end.
use Rattle.std.proofs.Common.{◌≡◌, ℕ, ◌+◌, ◌-◌, ◌*◌, ◌^◌, ◌<◌, ◌≤◌, true, cond, ◌&&◌, List, length, get_or, drop, ℤ, Some, None, Option, MatchOption, sym, ap, ◌∙◌, add-one, arith}
use native.Mathlib.Nat.{pow-succ'}
use Rattle.std.specs.List.{list_all}
use Rattle.std.proofs.lemmas.List.{at_drop_more, at_drop_all}
use Rattle.std.proofs.lemmas.Bool.{cond-true, eq-eqb}
use Rattle.std.proofs.lemmas.Bool.Decides.{nat_tests}
use Rattle.page.specs.Bytes.{is_blank, is_digit, blanks}
use Rattle.page.specs.Decimals.{value_after, whole_of, below_zero, signed_of}

pub blanks_step : (f : List ℕ) (i : ℕ) → i < length f → blanks (drop i f) ≡ cond (is_blank (get_or f i 0)) (1 + blanks (drop (i + 1) f)) 0
blanks_step f i h = at_drop_more blanks f i 0 h

pub blanks_end : (f : List ℕ) (i : ℕ) → length f ≤ i → blanks (drop i f) ≡ 0
blanks_end f i h = at_drop_all blanks f i h

pub value_step : (n : ℕ) (f : List ℕ) (i : ℕ) → i < length f → value_after n (drop i f) ≡ value_after (n * 10 + (get_or f i 0 - 48)) (drop (i + 1) f)
unfolding value_after
value_step n f i h = at_drop_more (value_after n) f i 0 h

pub value_end : (n : ℕ) (f : List ℕ) (i : ℕ) → length f ≤ i → value_after n (drop i f) ≡ n
unfolding value_after
value_end n f i h = at_drop_all (value_after n) f i h

pub digits_step : (f : List ℕ) (i : ℕ) → i < length f → list_all is_digit (drop i f) ≡ (is_digit (get_or f i 0) && list_all is_digit (drop (i + 1) f))
digits_step f i h = at_drop_more (list_all is_digit) f i 0 h

pub digits_end : (f : List ℕ) (i : ℕ) → length f ≤ i → list_all is_digit (drop i f) ≡ true
digits_end f i h = at_drop_all (list_all is_digit) f i h

pub ten_more : (i : ℕ) → 10 ^ (i + 1) ≡ 10 * 10 ^ i
ten_more i = rw (add-one i) (pow-succ' 10 i)

pub digit_is : (b : ℕ) → is_digit b ≡ true → (48 ≤ b) × (b ≤ 57)
digit_is b e = (grind (arith, nat_tests), grind (arith, nat_tests))

-- a minus in front, and the number behind it
pub minus_read : (bytes : List ℕ) (o : Option ℕ) (r : Option ℤ) → get_or bytes 0 0 ≡ 45 → o ≡ whole_of (drop 1 bytes)
    → MatchOption o (r ≡ None) (λ n. r ≡ below_zero (Some n)) → r ≡ signed_of bytes
minus_read bytes None r h e m = m ∙ ap below_zero e ∙ sym (cond-true _ _ _ (eq-eqb _ _ h))
minus_read bytes (Some n) r h e m = m ∙ ap below_zero e ∙ sym (cond-true _ _ _ (eq-eqb _ _ h))
