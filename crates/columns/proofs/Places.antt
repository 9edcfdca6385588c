-- Lemmas on bits in words.
use Rattle.std.proofs.Common.{◌≡◌, ℕ, zero, suc, ◌+◌, ◌-◌, ◌*◌, ◌/◌, ◌%◌, ◌^◌, ◌<◌, ◌≤◌, Bool, true, false, not, ◌&&◌, ◌||◌, eqb, List, length, get_or, set, sym, refl, ap, ◌∙◌, subst, inl, inr, add_assoc, add-suc, arith, get_or-set_other, get_or-set_same}
use Rattle.std.specs.Int.{w64}
use Rattle.std.proofs.Math.Bool.{and-true}
use lib.Bits.{bit_and, bit_or}
use lib.Count.{count_trailing_zeros}
use Rattle.std.specs.Int.{bit_at}
use Rattle.std.proofs.lemmas.Nat.Bits.{bit_at-trailing_zeros}
use Rattle.std.proofs.lemmas.Bool.{cases_eq, cases_Bool, cases_lt, both_ways, and_parts, leb-true, ltb-true, ne_eqb, le-leb, lt-ltb, and_from, lt-leb, le-ltb, and_left, and_right}
use Rattle.std.proofs.lemmas.Bool.Decides.{nat_tests}
use Rattle.columns.specs.declared.bits.Bits.{Bits}
use Rattle.columns.specs.Bits.{digit, inside, bit}
use Rattle.columns.specs.Passing.{one_up, IsLeast}
use Rattle.columns.proofs.Digits.{digit-zero, digit_and, digit_with, same_digits, moved, moved_low, moved_up, carry_out, lowest_off}

-- The numbers inside are those of the places.
inside_parts : (first n k : ℕ) → inside first n k ≡ true → (first ≤ k) × (k < first + 64 * n)
inside_parts first n k h = let p = and_parts _ _ h in (leb-true first k p.0, ltb-true k (first + 64 * n) p.1)

pub inside_place : (first n place : ℕ) → place < 64 * n → inside first n (first + place) ≡ true
inside_place first n place h =
    and_from _ _ (le-leb first (first + place) (omega arith)) (lt-ltb (first + place) (first + 64 * n) (omega arith))

-- A number inside by its place, or one that is not inside.
place_cases : (P : ℕ → Type 0) (first n : ℕ) → ((place : ℕ) → place < 64 * n → P (first + place)) → ((k : ℕ) → inside first n k ≡ false → P k) → (k : ℕ) → P k
place_cases P first n in_n out k =
    elim (cases_Bool (inside first n k)) [
      | inl h ↦ let i = inside_parts first n k h in let e : first + (k - first) ≡ k = omega arith in subst P e (in_n (k - first) (omega arith))
      | inr h ↦ out k h
    ]

module _ {first n : ℕ} (b : Bits first n) where
  pub bit_out : (k : ℕ) → inside first n k ≡ false → bit b k ≡ false
  unfolding bit
  bit_out k h = rw h

  pub bit_below : (k : ℕ) → k < first → bit b k ≡ false
  bit_below k h = bit_out k (and_left _ _ (lt-leb first k h))

  pub bit_past : (k : ℕ) → first + 64 * n ≤ k → bit b k ≡ false
  bit_past k h = bit_out k (and_right _ _ (le-ltb k (first + 64 * n) h))

  pub set_below : (k : ℕ) → bit b k ≡ true → k < first + 64 * n
  set_below k h =
      elim (cases_lt k (first + 64 * n)) [ inl lt ↦ lt | inr le ↦ absurd (both_ways _ (bit_past k le) h) ]

  pub set_from : (k : ℕ) → bit b k ≡ true → first ≤ k
  set_from k h = elim (cases_lt k first) [ inl lt ↦ absurd (both_ways _ (bit_below k lt) h) | inr le ↦ le ]

  one_up_first : (k : ℕ) → k ≤ first → one_up (bit b) k ≡ false
  one_up_first zero h = refl
  one_up_first (suc k) h = bit_below k h

  pub bit_in : (place : ℕ) → place < 64 * n → bit b (first + place) ≡ digit (get_or b.words (place / 64) 0) (place % 64)
  unfolding bit
  bit_in place h = let e : first + place - first ≡ place = omega arith in rw (inside_place first n place h, e)

-- The bits of words that are all 0.
pub bits_none : {first n : ℕ} (b : Bits first n) → ((i : ℕ) → i < n → get_or b.words i 0 ≡ 0) → (k : ℕ) → bit b k ≡ false
bits_none {first} {n} b clear =
    place_cases (λ k. bit b k ≡ false) first n
    (λ place h. rw (bit_in b place h, clear (place / 64) (omega arith)) (digit-zero (place % 64)))
    (bit_out b)

-- An operation on each word is one on each bit.
pub bits_each : {first n : ℕ} (op : ℕ → ℕ → ℕ) (test : Bool → Bool → Bool)
    → ((v w j : ℕ) → digit (op v w) j ≡ test (digit v j) (digit w j))
    → test false false ≡ false
    → (r a b : Bits first n)
    → ((i : ℕ) → i < n → get_or r.words i 0 ≡ op (get_or a.words i 0) (get_or b.words i 0))
    → (k : ℕ) → bit r k ≡ test (bit a k) (bit b k)
bits_each {first} {n} op test law none r a b words =
    place_cases (λ k. bit r k ≡ test (bit a k) (bit b k)) first n
    (λ place h.
    rw (bit_in r place h, bit_in a place h, bit_in b place h, words (place / 64) (omega arith))
    (law (get_or a.words (place / 64) 0) (get_or b.words (place / 64) 0) (place % 64)))
    (λ k h. rw (bit_out r k h, bit_out a k h, bit_out b k h) (sym none))

-- What is carried into a word: the highest digit of the word before.
abbrev pub carried : List ℕ → ℕ → ℕ
carried ws zero = 0
carried ws (suc i) = get_or ws i 0 / 2 ^ 63

module _ {first n : ℕ} (r b : Bits first n) (fits : (i : ℕ) → get_or b.words i 0 < 2 ^ 64)
    (words : (i : ℕ) → i < n → get_or r.words i 0 ≡ moved (get_or b.words i 0) (carried b.words i)) where
  carried_fits : (i : ℕ) → carried b.words i < 2
  carried_fits zero = omega arith
  carried_fits (suc i) = let f = fits i in omega arith

  -- The lowest bit of all, and each other bit.
  shifted_first : 0 < 64 * n → bit r (first + 0) ≡ false
  shifted_first h = rw (bit_in r 0 h, words 0 (omega arith)) (moved_low (get_or b.words 0 0) 0 (omega arith))

  shifted_next : (place : ℕ) → suc place < 64 * n → bit r (first + suc place) ≡ bit b (first + place)
  shifted_next place h =
      rw (bit_in r (suc place) h, bit_in b place (omega arith))
      (elim (cases_eq (place % 64) 63) [
        | inl p ↦
            let i : suc place / 64 ≡ suc (place / 64) = omega arith in
            let j : suc place % 64 ≡ 0 = omega arith in
            rw (i, j, p, words (suc (place / 64)) (omega arith))
            (moved_low _ _ (carried_fits (suc (place / 64))) ∙ carry_out _ (fits (place / 64)))
        | inr p ↦
            let i : suc place / 64 ≡ place / 64 = omega arith in
            let j : suc place % 64 ≡ suc (place % 64) = omega arith in
            rw (i, j, words (place / 64) (omega arith)) (moved_up _ _ (place % 64) (carried_fits (place / 64)) (omega arith))
      ])

  shifted_at : (place : ℕ) → place < 64 * n → bit r (first + place) ≡ one_up (bit b) (first + place)
  shifted_at zero h = shifted_first h ∙ sym (one_up_first b (first + 0) (omega arith))
  shifted_at (suc place) h = shifted_next place h ∙ rw (add-suc first place)

  pub bits_shifted : (k : ℕ) → bit r k ≡ (inside first n k && one_up (bit b) k)
  bits_shifted =
      place_cases (λ k. bit r k ≡ (inside first n k && one_up (bit b) k)) first n
      (λ place h. rw (inside_place first n place h) (shifted_at place h))
      (λ k h. rw (bit_out r k h, h))

-- One bit more.
module _ {first n : ℕ} (b : Bits first n) (at : ℕ) (long : length b.words ≡ n) (in_n : at < 64 * n) where
  abbrev word : ℕ
  word = bit_or (get_or b.words (at / 64) 0) (1 * 2 ^ (at % 64) % 2 ^ 64)

  abbrev more : Bits first n
  more = record { words = set b.words (at / 64) word }

  more_at : (place : ℕ) → place < 64 * n → bit more (first + place) ≡ (eqb (first + place) (first + at) || bit b (first + place))
  more_at place h =
      rw (bit_in more place h, bit_in b place h)
      (elim (cases_eq (place / 64) (at / 64)) [
        | inl q ↦
            let l : at / 64 < length b.words = omega arith in
            let e : eqb (place % 64) (at % 64) ≡ eqb (first + place) (first + at) = grind (arith, nat_tests) in
            rw (q, get_or-set_same b.words (at / 64) word 0 l, digit_with (get_or b.words (at / 64) 0) (at % 64) (place % 64) (omega arith), e)
        | inr q ↦ rw (get_or-set_other b.words (at / 64) (place / 64) word 0 q, ne_eqb (first + place) (first + at) (omega arith))
      ])

  pub bits_with : (k : ℕ) → bit more k ≡ ((inside first n (first + at) && eqb k (first + at)) || bit b k)
  bits_with k =
      rw (inside_place first n at in_n)
      (place_cases (λ k. bit more k ≡ (eqb k (first + at) || bit b k)) first n more_at
      (λ k h.
      let apart : k ≡ first + at → ⊥ = λ e. both_ways _ h (ap (inside first n) e ∙ inside_place first n at in_n) in
      rw (bit_out more k h, bit_out b k h, ne_eqb k (first + at) apart))
      k)

-- The bits of word i.
pub word_bit : {first n : ℕ} (b : Bits first n) (i j : ℕ) → i < n → j < 64 → bit b (first + (64 * i + j)) ≡ digit (get_or b.words i 0) j
word_bit b i j hi hj =
    let q : (64 * i + j) / 64 ≡ i = omega arith in
    let m : (64 * i + j) % 64 ≡ j = omega arith in
    rw (bit_in b (64 * i + j) (omega arith), q, m)

-- Where no bit is set, each word is 0.
pub word_clear : {first n : ℕ} (b : Bits first n) (i : ℕ) → i < n → get_or b.words i 0 < 2 ^ 64 → ((k : ℕ) → bit b k ≡ false) → get_or b.words i 0 ≡ 0
word_clear {first} b i h fits none =
    same_digits 64 (get_or b.words i 0) 0 fits (omega arith)
    (λ j lt. sym (word_bit b i j h lt) ∙ none (first + (64 * i + j)) ∙ sym (digit-zero j))

-- Without its lowest bit, in the first word that is not 0.
module _ {first n : ℕ} (b : Bits first n) (i : ℕ) (long : length b.words ≡ n) (in_n : i < n) (some : get_or b.words i 0 ≡ 0 → ⊥) (fits : get_or b.words i 0 < 2 ^ 64)
    (before : (k : ℕ) → k < i → get_or b.words k 0 ≡ 0) where
  abbrev first_word : ℕ
  first_word = get_or b.words i 0

  abbrev lowest : ℕ
  lowest = first + 64 * i + count_trailing_zeros 64 first_word

  abbrev fewer : Bits first n
  fewer = record { words = set b.words i (bit_and first_word (first_word - 1)) }

  zeros : (count_trailing_zeros 64 first_word < 64) × (bit_at first_word (count_trailing_zeros 64 first_word) ≡ 1) × ((j : ℕ) → j < count_trailing_zeros 64 first_word → bit_at first_word j ≡ 0)
  zeros = bit_at-trailing_zeros w64 first_word (omega arith) fits

  pub bits_least : IsLeast (bit b) lowest
  unfolding digit
  bits_least = (
    rw (add_assoc first (64 * i) (count_trailing_zeros 64 first_word), word_bit b i (count_trailing_zeros 64 first_word) in_n zeros.0, zeros.1),
    λ k h.
        elim (cases_lt k first) [
          | inl lt ↦ bit_below b k lt
          | inr le ↦
              let z = zeros.0 in
              let e : k ≡ first + (k - first) = omega arith in
              rw (e, bit_in b (k - first) (omega arith))
              (elim (cases_eq ((k - first) / 64) i) [
                | inl q ↦ rw (q, zeros.2 ((k - first) % 64) (omega arith))
                | inr q ↦ rw (before ((k - first) / 64) (omega arith)) (digit-zero ((k - first) % 64))
              ])
        ],
  )

  pub bits_without : (k : ℕ) → bit fewer k ≡ (bit b k && not (eqb k lowest))
  bits_without =
      place_cases (λ k. bit fewer k ≡ (bit b k && not (eqb k lowest))) first n
      (λ place h.
      rw (bit_in fewer place h, bit_in b place h)
      (elim (cases_eq (place / 64) i) [
        | inl q ↦
            let l : i < length b.words = omega arith in
            let e : eqb (first + place) lowest ≡ eqb (place % 64) (count_trailing_zeros 64 first_word) = grind (arith, nat_tests) in
            rw (q, get_or-set_same b.words i (bit_and first_word (first_word - 1)) 0 l, digit_and first_word (first_word - 1) (place % 64), e)
            (lowest_off 64 first_word (place % 64) zeros.0)
        | inr q ↦
            let z = zeros.0 in
            rw (get_or-set_other b.words i (place / 64) (bit_and first_word (first_word - 1)) 0 q, ne_eqb (first + place) lowest (omega arith)) (sym (and-true _))
      ]))
      (λ k h. rw (bit_out fewer k h, bit_out b k h))
