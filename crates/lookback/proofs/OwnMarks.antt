-- That lines' marks stay apart.
use Rattle.std.proofs.Common.{◌≡◌, ℕ, zero, suc, ◌+◌, ◌≤◌, Bool, true, ◌&&◌, ◌||◌, List, drop, sym, ap, ◌∙◌, ⊎_elim, arith}
use Rattle.std.proofs.lemmas.List.{drop-drop}
use Rattle.std.proofs.lemmas.Bool.{cases_Bool, cases_eq, both_ways}
use Rattle.book.specs.declared.rows.LineRow.{LineRow}
use Rattle.book.specs.declared.rows.KeywordRow.{KeywordRow}
use Rattle.lookback.specs.Apart.{OwnMarks}
use Rattle.lookback.specs.Prefixes.{opens, reach, ended_now, prefix_ends}

module _ (lines : List LineRow) (keywords : List KeywordRow) (f : ℕ) (first : opens lines f ≡ true) where
  Alike : List (ℕ → Bool) → List (ℕ → Bool) → ℕ → Type 0
  Alike p q k = (ago j : ℕ) → f ≤ j → j ≤ k → ended_now (drop ago p) j ≡ ended_now (drop ago q) j

  later : (p q : List (ℕ → Bool)) (k r : ℕ) → Alike p q (suc k) → Alike (drop r p) (drop r q) k
  unfolding Alike
  later p q k r same ago j a b = ap (λ x. ended_now x j) (drop-drop ago r p) ∙ same (r + ago) j a (omega arith) ∙ sym (ap (λ x. ended_now x j) (drop-drop ago r q))

  alike : (k : ℕ) (p q : List (ℕ → Bool)) → f ≤ k → Alike p q k → prefix_ends lines keywords p k ≡ prefix_ends lines keywords q k
  unfolding prefix_ends Alike
  alike zero p q le same = ap (λ b. b && opens lines 0) (same 0 0 le (omega arith))
  alike (suc k) p q le same =
      let r = reach keywords (suc k) in
      ap (λ b. b && (opens lines (suc k) || prefix_ends lines keywords (drop r p) k)) (same 0 (suc k) le (omega arith))
      ∙ ap (λ b. ended_now q (suc k) && b)
      (⊎_elim
      (λ on. ap (λ b. b || prefix_ends lines keywords (drop r p) k) on ∙ sym (ap (λ b. b || prefix_ends lines keywords (drop r q) k) on))
      (λ off.
      let earlier : f ≤ k = ⊎_elim (λ e. absurd (both_ways (opens lines (suc k)) off (ap (opens lines) (sym e) ∙ first))) (λ ne. omega (arith, ne, le)) (cases_eq f (suc k)) in
      ap (λ b. opens lines (suc k) || b) (alike k (drop r p) (drop r q) earlier (later p q k r same)))
      (cases_Bool (opens lines (suc k))))

pub own_marks : OwnMarks
unfolding Alike
own_marks lines keywords p q f k le first same = alike lines keywords f first k p q le same
