-- Rows of marks.
use Rattle.std.proofs.Common.{◌≡◌, ℕ, zero, suc, ◌+◌, ◌-◌, ◌<◌, ◌≤◌, Bool, true, false, ◌&&◌, ◌||◌, eqb, ltb, List, [], ◌∷◌, length, get_or, replicate, sym, refl, ap, ◌∙◌, ⊎_elim, Some, None, Option, MatchOption, arith}
use Rattle.std.specs.Option.{IfSome}
use Rattle.std.proofs.lemmas.Bool.{cases_order, lt-ltb, le-ltb, eq-eqb, ne_eqb, and_right}
use Rattle.book.specs.declared.rows.KeywordRow.{KeywordRow}
use Rattle.finders.specs.Runs.{passes, ends_among}

-- what stands in a row that is filled with one value
pub never : {X : Type 0} (d : X) (n p : ℕ) → get_or (replicate n d) p d ≡ d
never d zero p = refl
never d (suc n) zero = refl
never d (suc n) (suc p) = never d n p

module _ {X : Type 0} (test : X → Bool) where
  pub passes_at : (xs : List X) (p : ℕ) (d : X) → p < length xs → passes test xs p ≡ test (get_or xs p d)
  passes_at [] p d h = absurd (let z : ⊥ = omega arith in z)
  passes_at (x ∷ xs) zero d h = refl
  passes_at (x ∷ xs) (suc p) d h = passes_at xs p d (omega arith)

  pub passes_past : (xs : List X) (p : ℕ) → length xs ≤ p → passes test xs p ≡ false
  passes_past [] p h = refl
  passes_past (x ∷ xs) zero h = absurd (let z : ⊥ = omega arith in z)
  passes_past (x ∷ xs) (suc p) h = passes_past xs p (omega arith)

module _ (stands : ℕ → Bool) where
  pub ends_at : (rs : List KeywordRow) (k : ℕ) (d : KeywordRow) → k < length rs → ends_among rs stands k ≡ stands ((get_or rs k d).first + (get_or rs k d).length - 1)
  ends_at [] k d h = absurd (let z : ⊥ = omega arith in z)
  ends_at (r ∷ rs) zero d h = refl
  ends_at (r ∷ rs) (suc k) d h = ends_at rs k d (omega arith)

  pub ends_past : (rs : List KeywordRow) (k : ℕ) → length rs ≤ k → ends_among rs stands k ≡ false
  ends_past [] k h = refl
  ends_past (r ∷ rs) zero h = absurd (let z : ⊥ = omega arith in z)
  ends_past (r ∷ rs) (suc k) h = ends_past rs k (omega arith)

  -- what is told of a row that was asked for: where there is one, whether a run stands at its last place
  pub ends_got : {X : Type 0} (row : X → KeywordRow) (asked : Option X) (rs : List KeywordRow) (k : ℕ) (told : Bool) (Q R : X → Type 0)
      → IfSome asked (λ x. row x ≡ get_or rs k (row x)) → MatchOption asked (length rs ≤ k) (λ x. (k < length rs) × R x)
      → MatchOption asked (told ≡ false) Q → ((x : X) → Q x → told ≡ stands ((row x).first + (row x).length - 1)) → told ≡ ends_among rs stands k
  ends_got row None rs k told Q R is there m f = m ∙ sym (ends_past rs k there)
  ends_got row (Some x) rs k told Q R is there m f =
      f x m ∙ sym (ends_at rs k (row x) there.0 ∙ ap (λ r. stands (r.first + r.length - 1)) (sym is))

-- a set of marks that has come one number further
module _ (e : ℕ → Bool) (n : ℕ) where
  abbrev pub done : ℕ → ℕ → Bool
  done m k = ltb k m && e k

  one_on : (k : ℕ) → (t : Bool) → e n ≡ t → done (n + 1) k ≡ ((eqb k n && t) || done n k)
  one_on k t h =
      ⊎_elim
      (λ same. ap (λ b. b && e k) (lt-ltb k (n + 1) (omega arith)) ∙ ap e same ∙ h ∙ sym (ap (λ b. (b && t) || (ltb k n && e k)) (eq-eqb k n same) ∙ ap (λ b. t || (b && e k)) (le-ltb k n (omega arith)) ∙ or_none t))
      (⊎_elim
      (λ less. ap (λ b. b && e k) (lt-ltb k (n + 1) (omega arith)) ∙ sym (ap (λ b. (b && t) || (ltb k n && e k)) (ne_eqb k n (λ q. omega arith)) ∙ ap (λ b. b && e k) (lt-ltb k n less)))
      (λ more. ap (λ b. b && e k) (le-ltb k (n + 1) (omega arith)) ∙ sym (ap (λ b. (b && t) || (ltb k n && e k)) (ne_eqb k n (λ q. omega arith)) ∙ ap (λ b. b && e k) (le-ltb k n (omega arith)))))
      (cases_order k n)
    where
      or_none : (t : Bool) → (t || false) ≡ t
      or_none true = refl
      or_none false = refl

  pub one_on_yes : (k : ℕ) → e n ≡ true → (eqb k n || done n k) ≡ done (n + 1) k
  one_on_yes k h = sym (one_on k true h ∙ ap (λ b. b || done n k) (and_yes (eqb k n)))
    where
      and_yes : (b : Bool) → (b && true) ≡ b
      and_yes true = refl
      and_yes false = refl

  pub one_on_no : (k : ℕ) → e n ≡ false → done n k ≡ done (n + 1) k
  one_on_no k h = sym (one_on k false h ∙ ap (λ b. b || done n k) (and_right (eqb k n) false refl))
