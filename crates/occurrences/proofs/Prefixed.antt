-- The prefixes of one line, by its own keywords.
use Rattle.std.proofs.Common.{◌≡◌, ℕ, zero, suc, ◌+◌, ◌-◌, ◌<◌, ◌≤◌, Bool, true, false, ◌&&◌, ◌||◌, List, [], ◌∷◌, ◌++◌, reverse, length, drop, sym, refl, ap, ◌∙◌, inl, inr, add-suc, arith}
use mathlib.Core.List.{reverse-append}
use Rattle.std.proofs.lemmas.List.{drop-drop}
use Rattle.book.specs.declared.rows.LineRow.{LineRow}
use Rattle.book.specs.declared.rows.KeywordRow.{KeywordRow}
use Rattle.book.specs.Book.{Book, all_keywords}
use Rattle.finders.specs.Latest.{admit_all}
use Rattle.lookback.specs.Prefixes.{opens, reach, ended_now, prefix_ends}
use Rattle.occurrences.specs.Spotting.{spotted_among, pasts}
use Rattle.occurrences.proofs.Layings.{laid_back, width, Good}

module _ {C S : Type 0} (hears : C → S → Bool) where
  drop-pasts : (b : Book C) (r : ℕ) (ts : List S) → drop r (pasts hears b ts) ≡ pasts hears b (drop r ts)
  drop-pasts b zero ts = refl
  drop-pasts b (suc r) [] = refl
  drop-pasts b (suc r) (t ∷ ts) = drop-pasts b r ts

  none_empty : (w : List C) → 1 ≤ length w → admit_all hears (reverse w) [] ≡ false
  none_empty [] h = absurd (let z : ⊥ = omega arith in z)
  none_empty (c ∷ w) h = ap (λ r. admit_all hears r []) (reverse-append (c ∷ []) w) ∙ back (reverse w)
    where
      back : (r : List C) → admit_all hears (r ++ c ∷ []) [] ≡ false
      back [] = refl
      back (x ∷ r) = refl

  -- whether keyword k ended at the newest tick is what is spotted
  now_spotted : (b : Book C) (k : ℕ) (w : List C) → 1 ≤ length w → ((us : List S) → spotted_among hears (all_keywords b) us k ≡ admit_all hears (reverse w) us)
      → (ts : List S) → ended_now (pasts hears b ts) k ≡ admit_all hears (reverse w) ts
  now_spotted b k w some e [] = sym (none_empty w some)
  now_spotted b k w some e (t ∷ ts) = e (t ∷ ts)

opening : (ls : List LineRow) (ks : List KeywordRow) (past : List (ℕ → Bool)) (k : ℕ) → opens ls k ≡ true → prefix_ends ls ks past k ≡ ended_now past k
unfolding prefix_ends
opening ls ks past zero h = ap (λ b. ended_now past 0 && b) h ∙ and_true (ended_now past 0)
  where
    and_true : (b : Bool) → (b && true) ≡ b
    and_true true = refl
    and_true false = refl
opening ls ks past (suc k) h = ap (λ b. ended_now past (suc k) && (b || prefix_ends ls ks (drop (reach ks (suc k)) past) k)) h ∙ and_true (ended_now past (suc k))
  where
    and_true : (b : Bool) → (b && true) ≡ b
    and_true true = refl
    and_true false = refl

following : (ls : List LineRow) (ks : List KeywordRow) (past : List (ℕ → Bool)) (k : ℕ) → opens ls (suc k) ≡ false → prefix_ends ls ks past (suc k) ≡ (ended_now past (suc k) && prefix_ends ls ks (drop (reach ks (suc k)) past) k)
unfolding prefix_ends
following ls ks past k h = ap (λ b. ended_now past (suc k) && (b || prefix_ends ls ks (drop (reach ks (suc k)) past) k)) h

-- the first i + 1 keywords of a line, the last first
abbrev pub upto : {C : Type 0} → (ℕ → ℕ × List C) → ℕ → List (ℕ × List C)
upto p zero = p 0 ∷ []
upto p (suc i) = p (suc i) ∷ upto p i

-- what is known of a line of a book whose first keyword has number f
pub record Standing {C S : Type 0} (hears : C → S → Bool) (b : Book C) (ls : List LineRow) (ks : List KeywordRow) (f m : ℕ) (p : ℕ → ℕ × List C) : Type 0 where
  pub first : opens ls f ≡ true
  pub others : (i : ℕ) → suc i < m → opens ls (f + suc i) ≡ false
  pub apart : (i : ℕ) → suc i < m → reach ks (f + suc i) ≡ (p (suc i)).0 + length (p (suc i)).1
  pub words : (i : ℕ) → i < m → (us : List S) → spotted_among hears (all_keywords b) us (f + i) ≡ admit_all hears (reverse (p i).1) us
  pub some : (i : ℕ) → i < m → 1 ≤ length (p i).1
  pub no_gap : (p 0).0 ≡ 0

module _ {C S : Type 0} (hears : C → S → Bool) (b : Book C) (ls : List LineRow) (ks : List KeywordRow) (f m : ℕ) (p : ℕ → ℕ × List C) (s : Standing hears b ls ks f m p) (ts : List S) where
  now : (a i : ℕ) → i < m → ended_now (drop a (pasts hears b ts)) (f + i) ≡ admit_all hears (reverse (p i).1) (drop a ts)
  now a i h = ap (λ x. ended_now x (f + i)) (drop-pasts hears b a ts) ∙ now_spotted hears b (f + i) (p i).1 (s.some i h) (s.words i h) (drop a ts)

  pub prefixes : (i a : ℕ) → i < m → prefix_ends ls ks (drop a (pasts hears b ts)) (f + i) ≡ laid_back hears ts (upto p i) a
  prefixes zero a h =
      let z : f + 0 ≡ f = omega arith in
      opening ls ks (drop a (pasts hears b ts)) (f + 0) (ap (opens ls) z ∙ s.first) ∙ now a 0 h ∙ and_true (admit_all hears (reverse (p 0).1) (drop a ts))
    where
      and_true : (b : Bool) → b ≡ (b && true)
      and_true true = refl
      and_true false = refl
  prefixes (suc i) a h =
      let past = drop a (pasts hears b ts) in
      let e = add-suc f i in
      let r = (p (suc i)).0 + length (p (suc i)).1 in
      let on : reach ks (suc (f + i)) ≡ r = ap (reach ks) (sym e) ∙ s.apart i h in
      let d : a + r ≡ a + length (p (suc i)).1 + (p (suc i)).0 = omega arith in
      ap (prefix_ends ls ks past) e
      ∙ following ls ks past (f + i) (ap (opens ls) (sym e) ∙ s.others i h)
      ∙ (λ j. (ap (ended_now past) (sym e) ∙ now a (suc i) h) j && (ap (λ x. prefix_ends ls ks (drop x past) (f + i)) on ∙ ap (λ x. prefix_ends ls ks x (f + i)) (drop-drop r a (pasts hears b ts)) ∙ prefixes i (a + r) (omega arith) ∙ ap (laid_back hears ts (upto p i)) d) j)

  wide : (i : ℕ) → i < m → 1 ≤ width hears ts (upto p i)
  wide zero h = let q = s.some 0 h in omega arith
  wide (suc i) h = let q = s.some (suc i) h in omega arith

  pub good : (i : ℕ) → i < m → Good hears ts (upto p i)
  good zero h = (inl s.no_gap, tt)
  good (suc i) h = (inr (wide i (omega arith)), good i (omega arith))
