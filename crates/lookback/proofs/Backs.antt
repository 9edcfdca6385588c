-- What the distances in use show.
use Rattle.std.proofs.Common.{◌≡◌, ℕ, suc, ◌+◌, ◌-◌, ◌%◌, ◌<◌, Bool, true, false, ◌&&◌, eqb, List, [], ◌∷◌, length, drop, sym, refl, ap, ◌∙◌, inl, inr, arith}
use Rattle.std.specs.List.{list_any, AllByRecursion}
use Rattle.std.proofs.lemmas.List.Folds.{list_any_at}
use Rattle.std.proofs.lemmas.Bool.{cases_Bool, or_cases, and_parts, and_from, both_ways, false_from_ne_true, lt-ltb, eqb-true, eq-eqb}
use Rattle.book.specs.declared.rows.LineRow.{LineRow}
use Rattle.book.specs.declared.rows.KeywordRow.{KeywordRow}
use Rattle.columns.specs.declared.numbers.Numbers.{Numbers}
use Rattle.columns.specs.Numbers.{member, rising}
use Rattle.columns.proofs.Laws.{rising_members, rising_has, member_number}
use Rattle.lookback.specs.declared.lookbacks.Lookback.{Lookback}
use Rattle.lookback.specs.Linked.{mark_at}
use Rattle.lookback.specs.Prefixes.{opens, reach, prefix_ends}
use Rattle.lookback.specs.Represented.{Represents, looked_back, slot}
use Rattle.lookback.proofs.Reaches.{near, same_distance}

any_found : (P : ℕ → Type 0) (test : ℕ → Bool) (xs : List ℕ) → AllByRecursion P xs → list_any test xs ≡ true → (x : ℕ) × P x × (test x ≡ true)
any_found P test [] each h = absurd (both_ways false refl h)
any_found P test (x ∷ xs) each h = elim (or_cases (test x) (list_any test xs) h) [ inl y ↦ (x, each.0, y) | inr n ↦ any_found P test xs each.1 n ]

-- what some member's test says, where all that pass are alike
rising_any : (s : Numbers) (test : ℕ → Bool) (t : Bool) → ((x : ℕ) → member s x ≡ true → test x ≡ true → t ≡ true) → (d : ℕ) → member s d ≡ true → (t ≡ true → test d ≡ true) → list_any test (rising s) ≡ t
rising_any s test t up d m down =
    elim (cases_Bool (list_any test (rising s))) [
      | inl y ↦ let f = any_found (λ n. member s n ≡ true) test (rising s) (rising_members s) y in y ∙ sym (up f.0 f.1 f.2)
      | inr n ↦
          let at = rising_has s d m in
          n ∙ sym (false_from_ne_true t (λ y. both_ways _ n (list_any_at test (rising s) at.0 d at.1 (ap test (at.2 d) ∙ down y))))
    ]

module _ (l : Lookback) (lines : List LineRow) (keywords : List KeywordRow) (past : List (ℕ → Bool)) (r : Represents l lines keywords past) where
  -- looking back for a keyword that follows another shows the column at its own distance
  back_one : (from j : ℕ) → j < 512 → suc j < length keywords → opens lines (suc j) ≡ false → looked_back l from j ≡ mark_at l.ring (slot from (reach keywords (suc j))) j
  back_one from j small in_book later =
      let own = reach keywords (suc j) in
      let fits = near keywords r.fit (suc j) in_book in
      let in_n = lt-ltb (suc j) (length keywords) in_book in
      let follows : (d : ℕ) → mark_at l.links.follow (d % 128) j ≡ eqb (own % 128) (d % 128) = λ d. r.linked.followed (d % 128) (omega arith) j small ∙ rw (in_n, later) in
      rising_any l.links.near (λ d. mark_at l.ring (slot from d) j && mark_at l.links.follow (d % 128) j) (mark_at l.ring (slot from own) j)
      (λ d m y.
      let p = and_parts (mark_at l.ring (slot from d) j) _ y in
      let n = member_number l.links.near d m in
      let same = same_distance own d fits.0 fits.1 n.0 n.1 (eqb-true _ _ (sym (follows d) ∙ p.1)) in
      ap (λ x. mark_at l.ring (slot from x) j) same ∙ p.0)
      own
      (r.linked.listed j in_book later)
      (λ y. and_from _ _ y (follows own ∙ eq-eqb _ _ refl))

  -- the column at a distance back from the next slot is the one that much before the tick to come
  pub shown : (e : ℕ → Bool) (j : ℕ) → j < 512 → suc j < length keywords → opens lines (suc j) ≡ false
      → looked_back l ((l.newest + 1) % 128) j ≡ prefix_ends lines keywords (drop (reach keywords (suc j)) (e ∷ past)) j
  shown e j small in_book later =
      let d = reach keywords (suc j) in
      let fits = near keywords r.fit (suc j) in_book in
      let here = l.inside in
      let place : slot ((l.newest + 1) % 128) d ≡ slot l.newest (d - 1) = omega arith in
      let more : suc (d - 1) ≡ d = omega arith in
      back_one ((l.newest + 1) % 128) j small in_book later
      ∙ ap (λ s. mark_at l.ring s j) place
      ∙ r.seen (d - 1) (omega arith) j small
      ∙ ap (λ n. prefix_ends lines keywords (drop n (e ∷ past)) j) more
