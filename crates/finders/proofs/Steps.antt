-- Rows of marks: first places are marked, and the runs move on, place after place.
use Rattle.std.proofs.Common.{◌≡◌, ℕ, ◌+◌, ◌-◌, ◌<◌, ◌≤◌, ◌≢◌, Bool, true, false, ◌&&◌, ◌||◌, ltb, List, [], ◌∷◌, ◌++◌, length, get_or, set, sym, ap, ◌∙◌, ⊎_elim, arith, below_more}
use Rattle.std.proofs.lemmas.List.{length-set, get_or-set_same, get_or-set_other}
use Rattle.std.proofs.lemmas.Bool.{cases_eq, lt-ltb, eq-eqb, ne_eqb}
use Rattle.book.specs.Book.{among}
use Rattle.book.proofs.Amongs.{among_push}
use Rattle.finders.specs.Places.{marked}
use Rattle.finders.specs.Runs.{passes}
use Rattle.finders.proofs.Marks.{passes_at}

-- one more first place is marked
pub first_more : (fs : List Bool) (ns : List ℕ) (n p : ℕ) → length fs ≡ 1023 → n < 1023 → marked fs p ≡ among p ns → marked (set fs n true) p ≡ among p (ns ++ n ∷ [])
first_more fs ns n p long lt e =
    ⊎_elim
    (λ same. ap (λ k. get_or (set fs n true) k false) same ∙ get_or-set_same fs n true false (omega arith) ∙ sym (among_push p ns n ∙ ap (λ t. t || among p ns) (eq-eqb n p (sym same))))
    (λ other. get_or-set_other fs n p true false other ∙ e ∙ sym (among_push p ns n ∙ ap (λ t. t || among p ns) (ne_eqb n p (λ q. other (sym q)))))
    (cases_eq p n)

-- the runs before the i-th place have moved on, and whether a run stood at the latest of these places
pub record Moved {C : Type 0} (test : C → Bool) (firsts old : List Bool) (cells : List C) (runs : List Bool) (stood : Bool) (i : ℕ) : Type 0 where
  pub long : length runs ≡ 1023
  pub done : (p : ℕ) → p < i → marked runs p ≡ (passes test cells p && (marked firsts p || (ltb 0 p && marked old (p - 1))))
  pub rest : (p : ℕ) → i ≤ p → marked runs p ≡ marked old p
  pub before : stood ≡ (ltb 0 i && marked old (i - 1))

pub move_one : {C : Type 0} (test : C → Bool) (firsts old : List Bool) (cells : List C) (runs : List Bool) (stood : Bool) (i : ℕ) (c : C) (b : Bool)
    → Moved test firsts old cells runs stood i → i < length cells → length cells ≤ 1023 → c ≡ get_or cells i c
    → b ≡ (test c && (marked firsts i || stood))
    → Moved test firsts old cells (set runs i b) (marked runs i) (i + 1)
move_one test firsts old cells runs stood i c b M in_i few is_c is_b =
    let wide = M.long in
    let lt : i < length runs = omega arith in
    let here = get_or-set_same runs i b false lt in
    let there : (p : ℕ) → p ≢ i → marked (set runs i b) p ≡ marked runs p = λ p ne. get_or-set_other runs i p b false ne in
    let admitted : test c ≡ passes test cells i = ap test is_c ∙ sym (passes_at test cells i c in_i) in
    let back : i + 1 - 1 ≡ i = omega arith in
    record {
      long = length-set runs i b ∙ M.long;
      done = below_more _ _ (λ k h. let ne : k ≢ i = omega arith in there k ne ∙ M.done k h) (here ∙ is_b ∙ (λ j. admitted j && (marked firsts i || M.before j)));
      rest = λ k h. let ne : k ≢ i = omega arith in there k ne ∙ M.rest k (omega arith);
      before = M.rest i (omega arith) ∙ sym (ap (λ b. b && marked old (i + 1 - 1)) (lt-ltb 0 (i + 1) (omega arith)) ∙ ap (marked old) back);
    }
