-- Standings by their numbers, where one place is written and where one more line is armed.
use Rattle.std.proofs.Common.{◌≡◌, ℕ, zero, suc, ◌-◌, ◌≤◌, Bool, true, false, cond, ◌&&◌, ◌||◌, eqb, leb, List, ◌∷◌, [], ◌++◌, map, length, Some, None, Option, get_or, set, replicate, sym, refl, ap, ◌∙◌, ⊎_elim, arith}
use Rattle.std.proofs.lemmas.List.{get_or-set_same, get_or-set_other, map-append}
use Rattle.std.proofs.lemmas.Bool.{and_parts, leb-true, cases_eq, eq-eqb, ne_eqb, eqb-true}
use Rattle.book.specs.declared.rows.LineRow.{LineRow}
use Rattle.book.specs.Book.{among}
use Rattle.book.specs.Rules.{within}
use Rattle.book.proofs.Amongs.{among_push}
use Rattle.standings.specs.declared.turns.Standing.{Standing}
use Rattle.standings.specs.declared.turns.Standing.TheVariants.{Armed}
use Rattle.standings.specs.Turning.{placed, first_standing}

none : Option Standing
none = None

nothing : (k j : ℕ) → get_or (replicate k none) j none ≡ none
nothing zero j = refl
nothing (suc k) zero = refl
nothing (suc k) (suc j) = nothing k j

-- no number has a standing in an empty table
pub none_placed : (k n : ℕ) → placed (replicate k None) n ≡ first_standing [] n
unfolding none
none_placed k n = go (within 1 128 n)
  where
    go : (b : Bool) → cond b (get_or (replicate k none) (n - 1) none) none ≡ cond (b && false) (Some (Armed 0)) none
    go true = nothing k (n - 1)
    go false = refl

-- where the place of a number is written, the number has what was written, and the others are untouched
pub placed_set : (at : List (Option Standing)) (m n : ℕ) (v : Option Standing) → length at ≡ 128 → within 1 128 m ≡ true → placed (set at (m - 1) v) n ≡ cond (eqb m n) v (placed at n)
placed_set at m n v whole inside =
    let p = and_parts (leb 1 m) _ inside in
    let low = leb-true 1 m p.0 in
    let high = leb-true m 128 p.1 in
    ⊎_elim
    (λ same.
    ap (placed (set at (m - 1) v)) (sym same)
    ∙ ap (λ b. cond b (get_or (set at (m - 1) v) (m - 1) None) None) inside
    ∙ get_or-set_same at (m - 1) v None (omega arith)
    ∙ sym (ap (λ b. cond b v (placed at n)) (eq-eqb m n same)))
    (λ other. apart other low (within 1 128 n) refl ∙ sym (ap (λ b. cond b v (placed at n)) (ne_eqb m n other)))
    (cases_eq m n)
  where
    apart : ((m ≡ n) → ⊥) → 1 ≤ m → (b : Bool) → within 1 128 n ≡ b → cond (within 1 128 n) (get_or (set at (m - 1) v) (n - 1) None) None ≡ placed at n
    apart other low true held =
        let low_n = leb-true 1 n (and_parts (leb 1 n) _ held).0 in
        ap (λ x. cond (within 1 128 n) x None) (get_or-set_other at (m - 1) (n - 1) v None (λ e. other (omega (arith, e, low, low_n))))
    apart other low false outside = ap (λ b. cond b (get_or (set at (m - 1) v) (n - 1) None) None) outside ∙ sym (ap (λ b. cond b (get_or at (n - 1) None) None) outside)

armed : Bool → Option Standing
armed b = cond b (Some (Armed 0)) None

module _ (at : List (Option Standing)) (lines : List LineRow) (l : LineRow) (so_far : (n : ℕ) → placed at n ≡ first_standing lines n) (n : ℕ) where
  numbers : List LineRow → List ℕ
  numbers = map (λ x. x.number)

  more : first_standing (lines ++ l ∷ []) n ≡ armed (within 1 128 n && (eqb l.number n || among n (numbers lines)))
  unfolding armed numbers
  more = ap (λ ns. armed (within 1 128 n && among n ns)) (map-append (λ x. x.number) lines (l ∷ [])) ∙ ap (λ b. armed (within 1 128 n && b)) (among_push n (numbers lines) l.number)

  -- one more line is armed in its place
  pub armed_more : length at ≡ 128 → within 1 128 l.number ≡ true → placed (set at (l.number - 1) (Some (Armed 0))) n ≡ first_standing (lines ++ l ∷ []) n
  unfolding armed numbers
  armed_more whole inside =
      placed_set at l.number n (Some (Armed 0)) whole inside
      ∙ ap (cond (eqb l.number n) (Some (Armed 0))) (so_far n)
      ∙ go (eqb l.number n) (within 1 128 n) (among n (numbers lines)) (λ e. ap (within 1 128) (sym (eqb-true l.number n e)) ∙ inside)
      ∙ sym more
    where
      go : (e w a : Bool) → (e ≡ true → w ≡ true) → cond e (Some (Armed 0)) (armed (w && a)) ≡ armed (w && (e || a))
      go true w a h = sym (ap (λ b. armed (b && true)) (h refl))
      go false w a h = refl

  -- a line whose number has no place leaves the table as it is
  pub placeless_more : within 1 128 l.number ≡ false → placed at n ≡ first_standing (lines ++ l ∷ []) n
  unfolding armed numbers
  placeless_more outside = so_far n ∙ go (eqb l.number n) (within 1 128 n) (among n (numbers lines)) (λ e. ap (within 1 128) (sym (eqb-true l.number n e)) ∙ outside) ∙ sym more
    where
      go : (e w a : Bool) → (e ≡ true → w ≡ false) → armed (w && a) ≡ armed (w && (e || a))
      go true w a h = (λ i. armed (h refl i && a)) ∙ sym (λ i. armed (h refl i && true))
      go false w a h = refl

-- a number has a place exactly when it is 1 to 128
pub has_place : (b : Bool) (p q : ℕ) → Some p ≡ cond b (Some q) None → (b ≡ true) × (p ≡ q)
has_place true p q e = (refl, cc e)
has_place false p q e = absurd (cc e)

pub no_place : (b : Bool) (q : ℕ) → None ≡ cond b (Some q) None → b ≡ false
no_place true q e = absurd (cc e)
no_place false q e = refl
