-- One tick of the ring.
use Rattle.std.proofs.Common.{◌≡◌, ℕ, zero, suc, ◌+◌, ◌%◌, ◌<◌, ◌≤◌, Bool, true, false, ◌&&◌, ◌||◌, ltb, ◌≢◌, List, ◌∷◌, length, drop, set, sym, ap, ◌∙◌, ⊎_elim, arith}
use Rattle.std.proofs.Math.Bool.{and_comm, or_comm}
use Rattle.std.proofs.lemmas.List.{get_or-set_same, get_or-set_other}
use Rattle.std.proofs.lemmas.Bool.{cases_Bool, cases_lt, lt-ltb, both_ways}
use Rattle.book.specs.declared.rows.LineRow.{LineRow}
use Rattle.book.specs.declared.rows.KeywordRow.{KeywordRow}
use Rattle.columns.specs.declared.marks.Column.{Column}
use Rattle.columns.specs.Marks.{mark, blank}
use Rattle.columns.specs.Passing.{one_up}
use Rattle.lookback.specs.declared.lookbacks.Lookback.{Lookback}
use Rattle.lookback.specs.Linked.{mark_at}
use Rattle.lookback.specs.Prefixes.{opens, reach, prefix_ends}
use Rattle.lookback.specs.Represented.{Represents, looked_back, slot}
use Rattle.lookback.proofs.Backs.{shown}

module _ (l : Lookback) (lines : List LineRow) (keywords : List KeywordRow) (past : List (ℕ → Bool)) (r : Represents l lines keywords past) (e : ℕ → Bool) where
  -- the newest column, mark by mark
  pub newest : (none : (k : ℕ) → length keywords ≤ k → e k ≡ false) → (seen : ℕ → Bool) → ((k : ℕ) → seen k ≡ looked_back l ((l.newest + 1) % 128) k) → (first : ℕ → Bool) → ((k : ℕ) → k < 512 → first k ≡ opens lines k)
      → (k : ℕ) → k < 512 → (((ltb k 512 && one_up seen k) || first k) && e k) ≡ prefix_ends lines keywords (e ∷ past) k
  unfolding prefix_ends
  newest none seen s first f zero h = ap (λ b. b && e 0) (f 0 h) ∙ and_comm (opens lines 0) (e 0)
  newest none seen s first f (suc j) h =
      ap (λ b. ((b && seen j) || first (suc j)) && e (suc j)) (lt-ltb (suc j) 512 h)
      ∙ ap (λ b. (seen j || b) && e (suc j)) (f (suc j) h)
      ∙ and_comm (seen j || opens lines (suc j)) (e (suc j))
      ∙ ⊎_elim
      (λ ends. ap (λ b. e (suc j) && b) (reached (cases_Bool (opens lines (suc j))) ends))
      (λ off. ap (λ b. b && (seen j || opens lines (suc j))) off ∙ sym (ap (λ b. b && (opens lines (suc j) || prefix_ends lines keywords (drop (reach keywords (suc j)) (e ∷ past)) j)) off))
      (cases_Bool (e (suc j)))
    where
      in_book : e (suc j) ≡ true → suc j < length keywords
      in_book ends = ⊎_elim (λ lt. lt) (λ le. absurd (both_ways (e (suc j)) (none (suc j) le) ends)) (cases_lt (suc j) (length keywords))

      reached : mathlib.Core.Logic.◌⊎◌ (opens lines (suc j) ≡ true) (opens lines (suc j) ≡ false) → e (suc j) ≡ true → (seen j || opens lines (suc j)) ≡ (opens lines (suc j) || prefix_ends lines keywords (drop (reach keywords (suc j)) (e ∷ past)) j)
      reached which ends =
          or_comm (seen j) (opens lines (suc j))
          ∙ ⊎_elim
          (λ y. ap (λ b. b || seen j) y ∙ sym (ap (λ b. b || prefix_ends lines keywords (drop (reach keywords (suc j)) (e ∷ past)) j) y))
          (λ z. ap (λ b. opens lines (suc j) || b) (s j ∙ shown l lines keywords past r e j (omega arith) (in_book ends) z))
          which

  -- the ring after it
  pub turned : (c : Column) → ((k : ℕ) → k < 512 → mark c k ≡ prefix_ends lines keywords (e ∷ past) k)
      → (ago : ℕ) → ago < 128 → (k : ℕ) → k < 512 → mark_at (set l.ring ((l.newest + 1) % 128) c) (slot ((l.newest + 1) % 128) ago) k ≡ prefix_ends lines keywords (drop ago (e ∷ past)) k
  turned c now zero h k small =
      let here = l.inside in
      let lt : (l.newest + 1) % 128 < length l.ring = omega (arith, l.whole) in
      let at : slot ((l.newest + 1) % 128) 0 ≡ (l.newest + 1) % 128 = omega arith in
      ap (λ s. mark_at (set l.ring ((l.newest + 1) % 128) c) s k) at ∙ ap (λ x. mark x k) (get_or-set_same l.ring ((l.newest + 1) % 128) c blank lt) ∙ now k small
  turned c now (suc ago) h k small =
      let here = l.inside in
      let other : slot ((l.newest + 1) % 128) (suc ago) ≢ (l.newest + 1) % 128 = omega arith in
      let before : slot ((l.newest + 1) % 128) (suc ago) ≡ slot l.newest ago = omega arith in
      ap (λ x. mark x k) (get_or-set_other l.ring ((l.newest + 1) % 128) (slot ((l.newest + 1) % 128) (suc ago)) c blank other)
      ∙ ap (λ s. mark_at l.ring s k) before ∙ r.seen ago (omega arith) k small
