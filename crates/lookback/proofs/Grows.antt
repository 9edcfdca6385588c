-- One keyword more.
use Rattle.std.proofs.Common.{◌≡◌, ℕ, suc, ◌+◌, ◌%◌, ◌<◌, ◌≤◌, true, false, not, ◌&&◌, ◌||◌, eqb, ltb, List, length, get_or, set, sym, refl, ap, ◌∙◌, inl, inr, arith}
use Rattle.std.proofs.Math.Bool.{and-false, and-true, or-false, or_comm}
use Rattle.std.proofs.lemmas.List.{get_or-set_same, get_or-set_other}
use Rattle.std.proofs.lemmas.Bool.{both_ways, lt-ltb, le-ltb, le-leb, eq-eqb, ne_eqb, and_left, and_from, and_parts, or_left, or_right, or_cases, eqb-true, cases_eq}
use Rattle.std.proofs.lemmas.Bool.Decides.{nat_tests}
use Rattle.book.specs.declared.rows.LineRow.{LineRow}
use Rattle.book.specs.declared.rows.KeywordRow.{KeywordRow}
use Rattle.columns.specs.declared.marks.Column.{Column}
use Rattle.columns.specs.declared.numbers.Numbers.{Numbers}
use Rattle.columns.specs.Marks.{mark, blank}
use Rattle.columns.specs.Numbers.{member, is_number}
use Rattle.lookback.specs.declared.links.Links.{Links}
use Rattle.lookback.specs.Linked.{LinkedTo, mark_at, follows_at}
use Rattle.lookback.specs.Prefixes.{opens, reach}

-- the keywords that follow are the same but for the one that is new
follows_more : (lines : List LineRow) (keywords : List KeywordRow) (j d k : ℕ)
    → follows_at lines keywords (j + 2) d k ≡ (follows_at lines keywords (j + 1) d k || (eqb k j && (not (opens lines (suc j)) && eqb (reach keywords (suc j) % 128) d)))
follows_more lines keywords j d k =
    elim (cases_eq k j) [
      | inl e ↦
          let now = lt-ltb (suc j) (j + 2) (omega arith) in
          let before = le-ltb (suc j) (j + 1) (omega arith) in
          let it = eq-eqb j j refl in
          rw (e, now, before, it)
      | inr ne ↦
          let same : ltb (suc k) (j + 2) ≡ ltb (suc k) (j + 1) = grind (arith, nat_tests) in
          let other = ne_eqb k j ne in
          rw (same, other) (sym (or-false _))
    ]

module _ (links : Links) (lines : List LineRow) (keywords : List KeywordRow) (j : ℕ) (t : LinkedTo links lines keywords (j + 1)) where
  -- a keyword that opens its line adds no link
  pub opened_more : opens lines (suc j) ≡ true → LinkedTo links lines keywords (j + 2)
  opened_more first = record {
    firsts = t.firsts;
    followed = λ d below k h. t.followed d below k h ∙ sym (follows_more lines keywords j d k ∙ rw (first, and-false (eqb k j)) (or-false _));
    listed = λ k h o.
        elim (cases_eq k j) [
          | inl e ↦ absurd (both_ways (opens lines (suc k)) o (ap (λ x. opens lines (suc x)) e ∙ first))
          | inr ne ↦ t.listed k (omega arith) o
        ];
    used = λ d m. let u = t.used d m in (u.0, omega (arith, u.1), u.2, u.3);
  }

  -- one that follows the one before it is marked there, and its distance is in use
  module _ (d : ℕ) (later : opens lines (suc j) ≡ false) (is : reach keywords (suc j) ≡ d) (some : 1 ≤ d) (few : d ≤ 128) (small : j < 511) where
    abbrev pub old : Column
    old = get_or links.follow (d % 128) blank

    pub followed_more : (c : Column) → ((k : ℕ) → mark c k ≡ ((ltb j 512 && eqb k j) || mark old k))
        → (e : ℕ) → e < 128 → (k : ℕ) → k < 512 → mark_at (set links.follow (d % 128) c) e k ≡ follows_at lines keywords (j + 2) e k
    followed_more c m e below k h =
        let more = follows_more lines keywords j e k in
        let in_n = lt-ltb j 512 (omega arith) in
        elim (cases_eq e (d % 128)) [
          | inl at ↦
              let lt : d % 128 < length links.follow = omega (arith, links.whole) in
              let was = t.followed (d % 128) (omega arith) k h in
              let it = eq-eqb (d % 128) (d % 128) refl in
              rw (at, get_or-set_same links.follow (d % 128) c blank lt, m k, in_n, was, follows_more lines keywords j (d % 128) k, later, is, it, and-true (eqb k j)) (or_comm (eqb k j) (follows_at lines keywords (j + 1) (d % 128) k))
          | inr ne ↦
              let apart = ne_eqb (d % 128) e (λ s. ne (sym s)) in
              rw (get_or-set_other links.follow (d % 128) e c blank ne, t.followed e below k h, more, later, is, apart, and-false (eqb k j)) (sym (or-false _))
        ]

    pub listed_more : (near : Numbers) → ((n : ℕ) → member near n ≡ ((is_number d && eqb n d) || member links.near n))
        → (k : ℕ) → suc k < j + 2 → opens lines (suc k) ≡ false → member near (reach keywords (suc k)) ≡ true
    listed_more near n k h o =
        elim (cases_eq k j) [
          | inl e ↦
              let number = and_from _ _ (le-leb 1 d some) (le-leb d 128 few) in
              rw (e, is) (n d ∙ or_left _ _ (and_from _ _ number (eq-eqb d d refl)))
          | inr ne ↦ n (reach keywords (suc k)) ∙ or_right _ _ (t.listed k (omega arith) o)
        ]

    pub used_more : (near : Numbers) → ((n : ℕ) → member near n ≡ ((is_number d && eqb n d) || member links.near n))
        → (e : ℕ) → member near e ≡ true → (k : ℕ) × (suc k < j + 2) × (opens lines (suc k) ≡ false) × (reach keywords (suc k) ≡ e)
    used_more near n e m =
        elim (or_cases (is_number d && eqb e d) (member links.near e) (sym (n e) ∙ m)) [
          | inl it ↦ (j, omega arith, later, is ∙ sym (eqb-true e d (and_parts _ _ it).1))
          | inr was ↦ let u = t.used e was in (u.0, omega (arith, u.1), u.2, u.3)
        ]

-- fewer than two keywords have no link
pub none_linked : (links : Links) (lines : List LineRow) (keywords : List KeywordRow) → LinkedTo links lines keywords 1 → LinkedTo links lines keywords 0
none_linked links lines keywords t = record {
  firsts = t.firsts;
  followed = λ d below k h. t.followed d below k h ∙ and_left _ _ (le-ltb (suc k) 1 (omega arith)) ∙ sym (and_left _ _ (le-ltb (suc k) 0 (omega arith)));
  listed = λ k h o. absurd (let z : ⊥ = omega arith in z);
  used = λ d m. let u = t.used d m in absurd (let z : ⊥ = omega (arith, u.1) in z);
}
