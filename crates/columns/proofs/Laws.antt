-- Laws of columns and of sets of numbers, for the crates that use them.
use Rattle.std.proofs.Common.{◌≡◌, ℕ, ◌+◌, ◌*◌, ◌^◌, ◌<◌, ◌≤◌, true, false, length, get_or, sym, refl, ap, ◌∙◌, arith}
use Rattle.std.specs.List.{ContainsAt, AllByRecursion}
use Rattle.std.specs.Iterator.{YieldsFirst}
use Rattle.std.proofs.lemmas.Iterator.{YieldsList}
use Rattle.std.proofs.lemmas.Iterator.Consumers.{YieldsList-from_first}
use Rattle.std.proofs.lemmas.List.{ext_get_or}
use Rattle.columns.specs.declared.bits.Bits.{Bits}
use Rattle.columns.specs.declared.marks.Column.{Column}
use Rattle.columns.specs.declared.numbers.Numbers.{Numbers}
use Rattle.columns.specs.declared.numbers.Members.{Members}
use Rattle.columns.specs.Bits.{bit}
use Rattle.columns.specs.Marks.{mark, blank}
use Rattle.columns.specs.Numbers.{member, rising, to_come}
use Rattle.columns.proofs.Digits.{same_digits}
use Rattle.columns.proofs.Places.{bits_none, bit_past, word_bit, set_below, set_from}
use Rattle.columns.proofs.Rises.{passing_each, passing_has, length-passing, passing_same}

-- A column has the marks 0 to 511.
pub mark_past : (c : Column) (k : ℕ) → 512 ≤ k → mark c k ≡ false
unfolding mark
mark_past c k h = bit_past c.0 k h

pub mark_below : (c : Column) (k : ℕ) → mark c k ≡ true → k < 512
unfolding mark
mark_below c k h = set_below c.0 k h

pub mark_blank : (k : ℕ) → mark blank k ≡ false
unfolding mark
mark_blank k = bits_none _ (λ i h. refl) k

-- What a value in memory keeps to: n words of 64 bits.
abbrev pub Whole : {first n : ℕ} → Bits first n → Type 0
Whole {first} {n} b = (length b.words ≡ n) × ((i : ℕ) → get_or b.words i 0 < 2 ^ 64)

same_bits : {first n : ℕ} (a b : Bits first n) → Whole a → Whole b → ((k : ℕ) → bit a k ≡ bit b k) → a ≡ b
same_bits {first} {n} a b wa wb same =
    let words : a.words ≡ b.words =
    ext_get_or 0 a.words b.words (wa.0 ∙ sym wb.0)
    (λ i h. let l : i < n = omega (arith, wa.0) in
    same_digits 64 _ _ (wa.1 i) (wb.1 i) (λ j lt. sym (word_bit a i j l lt) ∙ same (first + (64 * i + j)) ∙ word_bit b i j l lt)) in
    ap (λ ws. record { words = ws }) words

-- Columns with the same marks are equal.
pub same_marks : (c d : Column) → Whole c.0 → Whole d.0 → ((k : ℕ) → mark c k ≡ mark d k) → c ≡ d
unfolding mark
same_marks c d wc wd same = ap (λ b. record { 0 = b }) (same_bits c.0 d.0 wc wd same)

pub same_members : (s t : Numbers) → Whole s.0 → Whole t.0 → ((n : ℕ) → member s n ≡ member t n) → s ≡ t
unfolding member
same_members s t ws wt same = ap (λ b. record { 0 = b }) (same_bits s.0 t.0 ws wt same)

-- Only 1 to 128 are members.
pub member_number : (s : Numbers) (n : ℕ) → member s n ≡ true → (1 ≤ n) × (n ≤ 128)
unfolding member
member_number s n h = (set_from s.0 n h, omega (arith, set_below s.0 n h))

-- The list of the members: each is a member, each member is there, there are 128 at most, and sets with the same members
-- have the same list.
pub rising_members : (s : Numbers) → AllByRecursion (λ n. member s n ≡ true) (rising s)
rising_members s = passing_each (member s) 1 128

pub rising_has : (s : Numbers) (n : ℕ) → member s n ≡ true → ContainsAt (rising s) n
rising_has s n h = let i = member_number s n h in passing_has (member s) 1 128 n i.0 (omega arith) h

pub length-rising : (s : Numbers) → length (rising s) ≤ 128
length-rising s = length-passing (member s) 1 128

pub same_rising : (s t : Numbers) → ((n : ℕ) → member s n ≡ member t n) → rising s ≡ rising t
same_rising s t same = passing_same (member s) (member t) 1 128 same

-- What an iterator over a set gives.
pub members_road : (m : Members) → YieldsList (YieldsFirst to_come) (λ n. n) m (to_come m)
members_road m = YieldsList-from_first (λ n. n) to_come (to_come m) refl
